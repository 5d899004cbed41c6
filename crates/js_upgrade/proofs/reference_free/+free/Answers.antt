use Rattle.std.proofs.Common.{ℕ, List, ap, arith, map, refl, subst, sym}
use Rattle.std.proofs.lemmas.List.{drop_all}
use Rattle.js_doc.specs.Seen.{value_of, pair_of}
use Rattle.js_doc.specs.Value.{items, members}
use Rattle.js_doc.specs.declared.doc.Doc.{Doc}
use Rattle.js_upgrade.specs.code.ReferenceFree.{AreFreeItems, AreFreeMembers, IsFree, LeadsToNoPart}
use Rattle.js_upgrade.proofs.FreeValues.{free_object, next_free_item, next_free_member}
use Rattle.js_upgrade.proofs.Loops.{all_seen, next_item_smaller, next_smaller, split_next}
use Rattle.js_upgrade.proofs.reference_free.+free.Goals as goal

pub are_free_members-is_reference_free-requires : goal.are_free_members-is_reference_free-requires
are_free_members-is_reference_free-requires t c =
    let smaller = next_smaller c.pairs-value-items.ensures.pairs c.into_iter-value-iterator.ensures.into_iter_gives
    c.loop-value.invariant.0 c.in-Some.ensures.steps in (omega (arith, smaller, c.decreases), tt)

pub are_free_items-is_reference_free-requires : goal.are_free_items-is_reference_free-requires
are_free_items-is_reference_free-requires t c =
    let smaller = next_item_smaller c.as_slice-docs.result.now c.args.values.now c.loop-i.i c.as_slice-docs.ensures
    c.index-docs-i.is (omega arith) in (omega (arith, smaller, c.decreases), tt)

pub are_free_members-loop-value-preserved : goal.are_free_members-loop-value-preserved
are_free_members-loop-value-preserved t c =
    let l = c.loop-value in
    let m : List ℕ × Doc = (c.in-Some.field-0-0.now, c.in-Some.value.now) in (
      split_next _ l.value-iterator c.next.new.self m l.invariant.0 c.in-Some.ensures.steps,
      λ left. l.invariant.1 (next_free_member l.value-iterator c.next.new.self m c.in-Some.ensures.steps
          (c.is_reference_free.ensures c.if-not-is_reference_free.false) left),
    )

pub are_free_items-loop-i-preserved : goal.are_free_items-loop-i-preserved
are_free_items-loop-i-preserved t c = λ left.
    c.loop-i.invariant (next_free_item c.as_slice-docs.result.now c.loop-i.i _ (omega arith) c.index-docs-i.is
    (c.is_reference_free.ensures c.if-not-is_reference_free.false) left)

pub are_free_items-returns : goal.are_free_items-returns
are_free_items-returns t c = λ is.
    subst (λ vs. AreFreeItems (items vs)) c.as_slice-docs.ensures
    (c.loop-i.invariant (subst (λ ds. AreFreeItems (items (map value_of ds)))
    (sym (drop_all c.loop-i.i c.as_slice-docs.result.now (omega arith))) (λ roots d base copies. refl)))

pub are_free_members-returns : goal.are_free_members-returns
are_free_members-returns t c = λ is.
    subst (λ ms. AreFreeMembers (members ms))
    (all_seen c.pairs-value-items.ensures.pairs c.into_iter-value-iterator.ensures.into_iter_gives)
    (c.loop-value.invariant.1 (subst (λ es. AreFreeMembers (members (map pair_of es)))
    (sym c.in-None.ensures.steps.0) (λ roots d base copies. refl)))

pub is_free_object-returns-then-leads_to_no_part : goal.is_free_object-returns-then-leads_to_no_part
is_free_object-returns-then-leads_to_no_part t c = λ is.
    free_object c.args.siblings.now (subst LeadsToNoPart c.found.ensures
    (c.leads_to_no_part.ensures c.if-leads_to_no_part.true)) (c.are_free_members.ensures is)

pub is_reference_free-returns-in-List : goal.is_reference_free-returns-in-List
is_reference_free-returns-in-List t c = λ is.
    subst IsFree (sym (ap value_of c.in-List.is)) (c.are_free_items.ensures is)
