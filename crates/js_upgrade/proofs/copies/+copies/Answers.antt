use Rattle.std.proofs.Common.{◌≡◌, ℕ, List, OnOk, refl, sym, ap, ◌∙◌, arith, subst, unwrap_or}
use Rattle.js_doc.specs.Value.{members}
use Rattle.js_doc.specs.Seen.{value_of}
use Rattle.js_doc.specs.declared.doc.Doc.{Doc}
use Rattle.js_upgrade.specs.Copies.{all_copied, members_copied}
use Rattle.js_upgrade.specs.code.Table.{all_of}
use Rattle.js_upgrade.proofs.CopyLoops.{changed_end, changed_next, object_copied}
use Rattle.js_upgrade.proofs.Loops.{all_seen, next_item_smaller, next_smaller, split_next}
use Rattle.js_upgrade.proofs.copies.+copies.Goals as goal

pub copy_in_members-copy_all-requires : goal.copy_in_members-copy_all-requires
copy_in_members-copy_all-requires t c =
    let smaller = next_smaller c.pairs-value-items.ensures.pairs c.into_iter-value-iterator.ensures.into_iter_gives
    c.loop-value.invariant.0 c.in-Some.ensures.steps in (omega (arith, smaller, c.decreases), tt)

pub copy_in_items-copy_all-requires : goal.copy_in_items-copy_all-requires
copy_in_items-copy_all-requires t c =
    let smaller = next_item_smaller c.as_slice-docs.result.now c.args.values.now c.loop-i.i c.as_slice-docs.ensures
    c.index-docs-i.is (omega arith) in (omega (arith, smaller, c.decreases), tt)

pub copy_in_members-loop-value-preserved : goal.copy_in_members-loop-value-preserved
copy_in_members-loop-value-preserved t c =
    let l = c.loop-value in
    let roots = all_of c.args.scope.now.resources.now in
    let d = c.args.dialect in
    let base = c.args.scope.now.base.now in
    let m : List ℕ × Doc = (c.in-Some.field-0-0.now, c.in-Some.value.now) in (
      split_next _ l.value-iterator c.next.new.self m l.invariant.0 c.in-Some.ensures.steps,
      changed_next (λ ms. members_copied roots d base (members ms)) (all_copied roots d base (value_of m.1))
          l.value-iterator c.next.new.self m l.copies.items c.copy_all.new.copies.items _ refl
          c.in-Some.ensures.steps c.in_ok-copy_all.ensures l.invariant.1,
    )

pub copy_in_members-returns : goal.copy_in_members-returns
copy_in_members-returns t c =
    let l = c.loop-value in
    let seen = all_seen c.pairs-value-items.ensures.pairs c.into_iter-value-iterator.ensures.into_iter_gives in
    changed_end (λ ms. members_copied (all_of c.args.scope.now.resources.now) c.args.dialect c.args.scope.now.base.now
    (members ms)) l.value-iterator _ c.args.siblings.now _ l.copies.items refl c.in-None.ensures.steps.0 seen
    l.invariant.1

pub copy_in_object-returns-in_ok-number_here-in-Some : goal.copy_in_object-returns-in_ok-number_here-in-Some
copy_in_object-returns-in_ok-number_here-in-Some t c =
    let base = c.args.scope.now.base.now in
    let same = object_copied (all_of c.args.scope.now.resources.now) c.args.dialect c.own_dialect-own.result base
    c.in-Some.below c.args.siblings.now c.args.copies.now.items c.own_dialect-own.ensures
    (ap (λ u. unwrap_or u base) (sym c.in-Some.is ∙ c.in_ok-found.ensures)) in
    subst (λ cs. OnOk c.copy_below.result (c.copy_below.new.copies.items ≡ cs)) same c.copy_below.ensures

pub copy_in_object-returns-in-None : goal.copy_in_object-returns-in-None
copy_in_object-returns-in-None t c =
    let base = c.args.scope.now.base.now in
    let same = object_copied (all_of c.args.scope.now.resources.now) c.args.dialect c.own_dialect-own.result base base
    c.args.siblings.now c.args.copies.now.items c.own_dialect-own.ensures
    (ap (λ u. unwrap_or u base) (sym c.in-None.is ∙ c.in_ok-found.ensures)) in
    let call = c.copy_below-in-None in
    subst (λ cs. OnOk call.result (call.new.copies.items ≡ cs)) same call.ensures
