use Rattle.std.proofs.Common.{ℕ, List, ◌≡◌, ◌++◌, map, refl, sym, ap, ◌∙◌, subst, arith}
use Rattle.std.proofs.Common.{OnOk}
use Rattle.js_doc.specs.Value.{members}
use Rattle.js_doc.specs.Seen.{value_of}
use Rattle.js_doc.specs.declared.doc.Doc.{Doc}
use Rattle.js_upgrade.specs.Resource.{member_resources, resources, schema_resources}
use Rattle.js_upgrade.specs.Seen.{resource_seen}
use Rattle.js_upgrade.specs.Upgrade.{holding_in, holding_by_change}
use Rattle.js_upgrade.specs.declared.holding.SchemaHolding.TheVariants.{One, OneOrListed}
use Rattle.js_upgrade.proofs.Loops.{all_seen, change_known, next_item_smaller, next_smaller, split_next}
use Rattle.js_upgrade.proofs.ResourceLoops.{resources_end, resources_next, schema_resources_is}
use Rattle.js_upgrade.proofs.resources.+resources.Goals as goal

pub push_keyword_resources-push_resources-requires : goal.push_keyword_resources-push_resources-requires
push_keyword_resources-push_resources-requires t c =
    let smaller = next_smaller c.pairs-name-items.ensures.pairs c.into_iter-name-iterator.ensures.into_iter_gives
    c.loop-name.invariant.0 c.in-Some.ensures.steps in (omega (arith, smaller, c.decreases), tt)

pub push_member_resources-push_resources-requires : goal.push_member_resources-push_resources-requires
push_member_resources-push_resources-requires t c =
    let smaller = next_smaller c.pairs-schema-items.ensures.pairs c.into_iter-schema-iterator.ensures.into_iter_gives
    c.loop-schema.invariant.0 c.in-Some.ensures.steps in (omega (arith, smaller, c.decreases), tt)

pub push_item_resources-push_resources-requires : goal.push_item_resources-push_resources-requires
push_item_resources-push_resources-requires t c =
    let smaller = next_item_smaller c.as_slice-docs.result.now c.args.schemas.now c.loop-i.i c.as_slice-docs.ensures
    c.index-docs-i.is (omega arith) in (omega (arith, smaller, c.decreases), tt)

pub push_keyword_resources-loop-name-preserved : goal.push_keyword_resources-loop-name-preserved
push_keyword_resources-loop-name-preserved t c =
    let l = c.loop-name in
    let d = c.args.dialect in
    let base = c.args.base.now in
    let siblings = c.args.siblings.now in
    let m : List ℕ × Doc = (c.in-Some.name.now, c.in-Some.argument.now) in (
      split_next _ l.name-iterator c.next.new.self m l.invariant.0 c.in-Some.ensures.steps,
      resources_next (λ ms. member_resources (holding_in d siblings) d base (members ms))
          (resources (holding_in d siblings m.0) d base (value_of m.1)) l.name-iterator
          c.next.new.self m (map resource_seen l.out.items) (map resource_seen c.push_resources.new.out.items) _ refl
          c.in-Some.ensures.steps
          (c.in_ok-push_resources.ensures
          ∙ ap (λ h. map resource_seen l.out.items ++ resources h d base (value_of m.1))
          (c.holding_by_change-holding.ensures
          ∙ ap holding_by_change (change_known d siblings c.hides-hidden.result m.0 c.as_str.result.now _
          c.hides-hidden.ensures c.as_str.ensures c.change_beside.ensures)))
          l.invariant.1,
    )

pub push_keyword_resources-returns : goal.push_keyword_resources-returns
push_keyword_resources-returns t c =
    let l = c.loop-name in
    let d = c.args.dialect in
    let siblings = c.args.siblings.now in
    let seen = all_seen c.pairs-name-items.ensures.pairs c.into_iter-name-iterator.ensures.into_iter_gives in
    resources_end (λ ms. member_resources (holding_in d siblings) d c.args.base.now (members ms)) l.name-iterator _
    siblings _ (map resource_seen l.out.items) refl c.in-None.ensures.steps.0 seen l.invariant.1

pub push_member_resources-loop-schema-preserved : goal.push_member_resources-loop-schema-preserved
push_member_resources-loop-schema-preserved t c =
    let l = c.loop-schema in
    let d = c.args.dialect in
    let base = c.args.base.now in
    let m : List ℕ × Doc = (c.in-Some.field-0-0.now, c.in-Some.schema.now) in (
      split_next _ l.schema-iterator c.next.new.self m l.invariant.0 c.in-Some.ensures.steps,
      resources_next (λ ms. member_resources (λ name. One) d base (members ms))
          (resources One d base (value_of m.1)) l.schema-iterator c.next.new.self m (map resource_seen l.out.items)
          (map resource_seen c.push_resources.new.out.items) _ refl c.in-Some.ensures.steps
          c.in_ok-push_resources.ensures l.invariant.1,
    )

pub push_member_resources-returns : goal.push_member_resources-returns
push_member_resources-returns t c =
    let l = c.loop-schema in
    let seen = all_seen c.pairs-schema-items.ensures.pairs c.into_iter-schema-iterator.ensures.into_iter_gives in
    resources_end (λ ms. member_resources (λ name. One) c.args.dialect c.args.base.now (members ms)) l.schema-iterator
    _ c.args.schemas.now _ (map resource_seen l.out.items) refl c.in-None.ensures.steps.0 seen l.invariant.1

pub push_resources-returns-in-One : goal.push_resources-returns-in-One
push_resources-returns-in-One t c =
    let d = c.args.dialect in
    let base = c.args.base.now in
    let siblings = c.in-Members.members in
    let is = ap value_of c.in-Members.is in
    let same : schema_resources d base siblings (value_of c.args.value.now)
    ≡ resources c.args.holding d base (value_of c.args.value.now) =
    ap (schema_resources d base siblings) is ∙ schema_resources_is d base siblings
    ∙ sym (ap (resources One d base) is)
    ∙ sym (ap (λ h. resources h d base (value_of c.args.value.now)) c.in-One.is) in
    let call = c.push_schema_resources in
    subst (λ rs. OnOk call.result
    (map resource_seen call.new.out.items ≡ map resource_seen c.args.out.now.items ++ rs)) same call.ensures

pub push_resources-returns-in-OneOrListed : goal.push_resources-returns-in-OneOrListed
push_resources-returns-in-OneOrListed t c =
    let d = c.args.dialect in
    let base = c.args.base.now in
    let siblings = c.in-Members.members in
    let is = ap value_of c.in-Members.is in
    let same : schema_resources d base siblings (value_of c.args.value.now)
    ≡ resources c.args.holding d base (value_of c.args.value.now) =
    ap (schema_resources d base siblings) is ∙ schema_resources_is d base siblings
    ∙ sym (ap (resources OneOrListed d base) is)
    ∙ sym (ap (λ h. resources h d base (value_of c.args.value.now)) c.in-OneOrListed.is) in
    let call = c.push_schema_resources-in-OneOrListed in
    subst (λ rs. OnOk call.result
    (map resource_seen call.new.out.items ≡ map resource_seen c.args.out.now.items ++ rs)) same call.ensures
