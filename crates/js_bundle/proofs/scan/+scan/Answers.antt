use Rattle.std.proofs.Common.{◌≤◌, [], ◌∷◌, ◌++◌, map, decimal, length, string_bytes, ap, ◌∙◌, arith}
use Rattle.std.proofs.lemmas.List.{length-map}
use Rattle.js_doc.specs.Value.{members}
use Rattle.js_doc.specs.Seen.{value_of, pair_of}
use Rattle.js_bundle.specs.code.Scan.{site_of, most_sites}
use Rattle.js_bundle.proofs.MemberLoops.{loop_next, next_item_smaller, next_smaller}
use Rattle.js_bundle.proofs.Listing.ScanNext.{front_full, item_next, member_next}
use Rattle.js_bundle.proofs.scan.+scan.Goals as goal

pub scan_schema-returns-then-len-ge-MOST_SITES : goal.scan_schema-returns-then-len-ge-MOST_SITES
scan_schema-returns-then-len-ge-MOST_SITES t c =
    let many = length-map c.args.out.now.items site_of in
    let full : most_sites ≤ length (map site_of c.args.out.now.items) =
    omega (arith, c.if-len-ge-MOST_SITES.true, c.len.ensures, c.args.out.now.ok.0, many) in
    front_full (map site_of c.args.out.now.items) _ full

pub scan_items-scan_schema-requires : goal.scan_items-scan_schema-requires
scan_items-scan_schema-requires t c =
    (omega (arith, next_item_smaller c.args.schemas.now c.loop-i.i c.index-schemas-i.is (omega arith), c.decreases), tt)

pub scan_items-loop-i-preserved : goal.scan_items-loop-i-preserved
scan_items-loop-i-preserved t c =
    let at = c.args.at in
    let l = c.loop-i in
    item_next at.document at.above.now.value at.pointer.now.value c.args.schemas.now l.i c.index-schemas-i.result
    c.in_ok-pointer.pointer.value (map site_of l.out.items) (map site_of c.scan_schema.new.out.items) _
    (omega arith) c.index-schemas-i.is
    (c.in_ok-pointer.ensures ∙ ap (λ k. c.deref.result.now ++ k ∷ []) c.format.ensures.text
    ∙ ap (λ q. q ++ decimal l.i ∷ []) c.deref.ensures)
    c.in_ok-scan_schema.ensures l.invariant

pub scan_members-loop-name-preserved : goal.scan_members-loop-name-preserved
scan_members-loop-name-preserved t c =
    let at = c.args.at in
    loop_next c.loop-name.invariant c.in-Some.ensures.steps
    (member_next c.args.role at.document at.above.now.value at.pointer.now.value (c.in-Some.name.now)
    c.as_str.result.now (value_of c.in-Some.value.now) (members (map pair_of c.next.new.self))
    (map site_of c.loop-name.out.items) (map site_of c.scan_member.new.out.items) _
    c.as_str.ensures c.in_ok-scan_member.ensures)

pub scan_members-scan_member-requires : goal.scan_members-scan_member-requires
scan_members-scan_member-requires t c =
    let smaller = next_smaller c.pairs-name-items.ensures.pairs c.into_iter-name-iterator.ensures.into_iter_gives
    c.loop-name.invariant.split c.in-Some.ensures.steps in
    (omega (arith, smaller, c.decreases), tt)
