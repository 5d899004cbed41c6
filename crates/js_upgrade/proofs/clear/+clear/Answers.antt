use Rattle.std.proofs.Common.{ℕ, List, ap, ◌∙◌, arith, map, refl, subst, sym}
use Rattle.js_doc.specs.Seen.{value_of, pair_of}
use Rattle.js_doc.specs.Value.{items, list, members, object}
use Rattle.js_doc.specs.declared.doc.Doc.{Doc}
use Rattle.js_upgrade.specs.Upgrade.{holding_by_change, holding_in}
use Rattle.js_upgrade.specs.code.Clear.{AreClearMembers, IsBare, IsClearValue}
use Rattle.js_upgrade.specs.code.Table.{all_of}
use Rattle.js_upgrade.specs.declared.holding.SchemaHolding.TheVariants.{One}
use Rattle.js_upgrade.specs.declared.holding.SchemaHolding.TheVariants as holding
use Rattle.js_upgrade.proofs.ClearValues.{held_so, next_item, next_member, unheld, whole_object, whole_schema}
use Rattle.js_upgrade.proofs.Loops.{all_seen, change_known, next_item_smaller, next_smaller, split_next}
use Rattle.js_upgrade.proofs.clear.+clear.Goals as goal

pub are_clear_keywords-is_clear-requires : goal.are_clear_keywords-is_clear-requires
are_clear_keywords-is_clear-requires t c =
    let smaller = next_smaller c.pairs-name-items.ensures.pairs c.into_iter-name-iterator.ensures.into_iter_gives
    c.loop-name.invariant.0 c.in-Some.ensures.steps in (omega (arith, smaller, c.decreases), tt)

pub are_clear_members-is_clear-requires : goal.are_clear_members-is_clear-requires
are_clear_members-is_clear-requires t c =
    let smaller = next_smaller c.pairs-schema-items.ensures.pairs c.into_iter-schema-iterator.ensures.into_iter_gives
    c.loop-schema.invariant.0 c.in-Some.ensures.steps in (omega (arith, smaller, c.decreases), tt)

pub are_clear_items-is_clear-requires : goal.are_clear_items-is_clear-requires
are_clear_items-is_clear-requires t c =
    let smaller = next_item_smaller c.as_slice-docs.result.now c.args.schemas.now c.loop-i.i c.as_slice-docs.ensures
    c.index-docs-i.is (omega arith) in (omega (arith, smaller, c.decreases), tt)

pub are_clear_keywords-loop-name-preserved : goal.are_clear_keywords-loop-name-preserved
are_clear_keywords-loop-name-preserved t c =
    let l = c.loop-name in
    let roots = all_of c.args.scopes.now.roots.resources.now in
    let all = all_of c.args.scopes.now.all.resources.now in
    let d = c.args.dialect in
    let base = c.args.scopes.now.all.base.now in
    let siblings = c.args.siblings.now in
    let m : List ℕ × Doc = (c.in-Some.name.now, c.in-Some.argument.now) in
    let clear = subst (λ h. IsClearValue roots all h d base (value_of m.1)) (c.holding_by_change-holding.ensures
    ∙ ap holding_by_change (change_known d siblings c.hides-hidden.result m.0 c.as_str.result.now _
    c.hides-hidden.ensures c.as_str.ensures c.change_beside.ensures)) (c.is_clear.ensures c.if-not-is_clear.false) in (
      split_next _ l.name-iterator c.next.new.self m l.invariant.0 c.in-Some.ensures.steps,
      λ left. l.invariant.1 (next_member roots all (holding_in d siblings) d base l.name-iterator c.next.new.self m
          c.in-Some.ensures.steps clear left),
    )

pub are_clear_members-loop-schema-preserved : goal.are_clear_members-loop-schema-preserved
are_clear_members-loop-schema-preserved t c =
    let l = c.loop-schema in
    let roots = all_of c.args.scopes.now.roots.resources.now in
    let all = all_of c.args.scopes.now.all.resources.now in
    let m : List ℕ × Doc = (c.in-Some.field-0-0.now, c.in-Some.schema.now) in (
      split_next _ l.schema-iterator c.next.new.self m l.invariant.0 c.in-Some.ensures.steps,
      λ left. l.invariant.1 (next_member roots all (λ name. One) c.args.dialect c.args.scopes.now.all.base.now
          l.schema-iterator
          c.next.new.self m c.in-Some.ensures.steps (c.is_clear.ensures c.if-not-is_clear.false) left),
    )

pub is_clear_schema-returns-then-is_clear_alone : goal.is_clear_schema-returns-then-is_clear_alone
is_clear_schema-returns-then-is_clear_alone t c = λ is.
    whole_schema (all_of c.args.scopes.now.roots.resources.now) (all_of c.args.scopes.now.all.resources.now)
    c.args.dialect
    c.args.scopes.now.all.base.now c.args.siblings.now (c.is_clear_alone.ensures c.if-is_clear_alone.true)
    (c.are_clear_keywords.ensures is)

pub is_clear_object-returns-then-is_bare : goal.is_clear_object-returns-then-is_bare
is_clear_object-returns-then-is_bare t c = λ is.
    whole_object (all_of c.args.scopes.now.roots.resources.now) (all_of c.args.scopes.now.all.resources.now)
    c.args.dialect
    c.args.scopes.now.all.base.now c.args.schemas.now (subst (λ b. IsBare
    (all_of c.args.scopes.now.roots.resources.now) c.args.dialect b
    c.args.schemas.now) c.args.scopes.now.based (c.is_bare.ensures c.if-is_bare.true))
    (c.are_clear_members.ensures is)

pub are_clear_items-loop-i-preserved : goal.are_clear_items-loop-i-preserved
are_clear_items-loop-i-preserved t c = λ left.
    c.loop-i.invariant (next_item (all_of c.args.scopes.now.roots.resources.now)
    (all_of c.args.scopes.now.all.resources.now)
    c.args.dialect c.args.scopes.now.all.base.now c.as_slice-docs.result.now c.loop-i.i _ (omega arith)
    c.index-docs-i.is
    (c.is_clear.ensures c.if-not-is_clear.false) left)

pub are_clear_keywords-returns : goal.are_clear_keywords-returns
are_clear_keywords-returns t c = λ is.
    let roots = all_of c.args.scopes.now.roots.resources.now in
    let all = all_of c.args.scopes.now.all.resources.now in
    let d = c.args.dialect in
    let base = c.args.scopes.now.all.base.now in
    let held = holding_in d c.args.siblings.now in
    subst (λ ns. AreClearMembers roots all held d base (members ns))
    (all_seen c.pairs-name-items.ensures.pairs c.into_iter-name-iterator.ensures.into_iter_gives)
    (c.loop-name.invariant.1 (subst (λ es. AreClearMembers roots all held d base (members (map pair_of es)))
    (sym c.in-None.ensures.steps.0) (refl, refl, λ copies. refl)))

pub is_clear-returns-in-Listed : goal.is_clear-returns-in-Listed
is_clear-returns-in-Listed t c = λ is.
    unheld (all_of c.args.scopes.now.roots.resources.now) (all_of c.args.scopes.now.all.resources.now) c.args.dialect
    c.args.scopes.now.all.base.now
    c.args.holding holding.Listed (value_of c.args.value.now) (object (members c.in-Members.members)) c.in-Listed.is
    (ap value_of c.in-Members.is) (c.is_reference_free.ensures is) refl refl

pub is_clear-returns-in-Nothing : goal.is_clear-returns-in-Nothing
is_clear-returns-in-Nothing t c = λ is.
    unheld (all_of c.args.scopes.now.roots.resources.now) (all_of c.args.scopes.now.all.resources.now) c.args.dialect
    c.args.scopes.now.all.base.now
    c.args.holding holding.Nothing (value_of c.args.value.now) (object (members c.in-Members.members)) c.in-Nothing.is
    (ap value_of c.in-Members.is) (c.is_reference_free-in-Nothing.ensures is) refl refl

pub is_clear-returns-in-One-holding : goal.is_clear-returns-in-One-holding
is_clear-returns-in-One-holding t c = λ is.
    unheld (all_of c.args.scopes.now.roots.resources.now) (all_of c.args.scopes.now.all.resources.now) c.args.dialect
    c.args.scopes.now.all.base.now
    c.args.holding One (value_of c.args.value.now) (list (items c.in-List.items)) c.in-One-holding.is
    (ap value_of c.in-List.is) (c.is_reference_free-in-One-holding.ensures is) refl refl

pub is_clear-returns-in-Named-holding : goal.is_clear-returns-in-Named-holding
is_clear-returns-in-Named-holding t c = λ is.
    unheld (all_of c.args.scopes.now.roots.resources.now) (all_of c.args.scopes.now.all.resources.now) c.args.dialect
    c.args.scopes.now.all.base.now
    c.args.holding holding.Named (value_of c.args.value.now) (list (items c.in-List.items)) c.in-Named-holding.is
    (ap value_of c.in-List.is) (c.is_reference_free-in-Named-holding.ensures is) refl refl

pub is_clear-returns-in-Nothing-holding : goal.is_clear-returns-in-Nothing-holding
is_clear-returns-in-Nothing-holding t c = λ is.
    unheld (all_of c.args.scopes.now.roots.resources.now) (all_of c.args.scopes.now.all.resources.now) c.args.dialect
    c.args.scopes.now.all.base.now
    c.args.holding holding.Nothing (value_of c.args.value.now) (list (items c.in-List.items)) c.in-Nothing-holding.is
    (ap value_of c.in-List.is) (c.is_reference_free-in-Nothing-holding.ensures is) refl refl

pub is_clear-returns-in-Listed-holding : goal.is_clear-returns-in-Listed-holding
is_clear-returns-in-Listed-holding t c = λ is.
    held_so (all_of c.args.scopes.now.roots.resources.now) (all_of c.args.scopes.now.all.resources.now) c.args.dialect
    c.args.scopes.now.all.base.now
    c.args.holding holding.Listed (value_of c.args.value.now) (list (items c.in-List.items)) c.in-Listed-holding.is
    (ap value_of c.in-List.is) (c.are_clear_items.ensures is)

pub is_clear-returns-in-OneOrListed-holding : goal.is_clear-returns-in-OneOrListed-holding
is_clear-returns-in-OneOrListed-holding t c = λ is.
    held_so (all_of c.args.scopes.now.roots.resources.now) (all_of c.args.scopes.now.all.resources.now) c.args.dialect
    c.args.scopes.now.all.base.now
    c.args.holding holding.OneOrListed (value_of c.args.value.now) (list (items c.in-List.items))
    c.in-OneOrListed-holding.is (ap value_of c.in-List.is) (c.are_clear_items-in-OneOrListed-holding.ensures is)
