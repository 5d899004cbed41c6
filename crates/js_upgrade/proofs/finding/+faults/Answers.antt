use Rattle.std.proofs.Common.{◌≡◌, ℕ, List, IfOk, decimal, option_map, unwrap_or, refl, sym, ap, ◌∙◌, arith, subst}
use Rattle.std.proofs.lemmas.Result.{IfOk-weaker}
use Rattle.js_doc.specs.Value.{Named, Values, items, members}
use Rattle.js_doc.specs.Seen.{value_of}
use Rattle.js_doc.specs.declared.doc.Doc.{Doc}
use Rattle.js_upgrade.specs.Fault.{deeper, fault_in, item_fault, member_fault}
use Rattle.js_upgrade.specs.Seen.{found_of}
use Rattle.js_upgrade.specs.Upgrade.{holding_in, holding_by_change}
use Rattle.js_upgrade.specs.code.Table.{all_of}
use Rattle.js_upgrade.specs.declared.holding.SchemaHolding.TheVariants.{One}
use Rattle.js_upgrade.proofs.FirstFault.{item_next, item_stops, member_next, member_stops, members_end}
use Rattle.js_upgrade.proofs.FirstFault.{schema_goes_on, schema_is, schema_stops}
use Rattle.js_upgrade.proofs.Loops.{all_seen, change_known, next_item_smaller, next_smaller, split_next}
use Rattle.js_upgrade.proofs.finding.+faults.Goals as goal

pub fault_in_keywords-fault_in-requires : goal.fault_in_keywords-fault_in-requires
fault_in_keywords-fault_in-requires t c =
    let smaller = next_smaller c.pairs-name-items.ensures.pairs c.into_iter-name-iterator.ensures.into_iter_gives
    c.loop-name.invariant.0 c.in-Some.ensures.steps in (omega (arith, smaller, c.decreases), tt)

pub fault_in_members-fault_in-requires : goal.fault_in_members-fault_in-requires
fault_in_members-fault_in-requires t c =
    let smaller = next_smaller c.pairs-name-items.ensures.pairs c.into_iter-name-iterator.ensures.into_iter_gives
    c.loop-name.invariant.0 c.in-Some.ensures.steps in (omega (arith, smaller, c.decreases), tt)

pub fault_in_items-fault_in-requires : goal.fault_in_items-fault_in-requires
fault_in_items-fault_in-requires t c =
    let smaller = next_item_smaller c.as_slice-docs.result.now c.args.schemas.now c.loop-i.i c.as_slice-docs.ensures
    c.index-docs-i.is (omega arith) in (omega (arith, smaller, c.decreases), tt)

pub fault_in_keywords-loop-name-preserved : goal.fault_in_keywords-loop-name-preserved
fault_in_keywords-loop-name-preserved t c =
    let l = c.loop-name in
    let all = all_of c.args.scope.now.resources.now in
    let d = c.args.dialect in
    let base = c.args.scope.now.base.now in
    let siblings = c.args.siblings.now in
    let held = holding_in d siblings in
    let m : List ℕ × Doc = (c.in-Some.name.now, c.in-Some.argument.now) in (
      split_next _ l.name-iterator c.next.new.self m l.invariant.0 c.in-Some.ensures.steps,
      member_next (λ ms. member_fault c.args.pass all held d base (members ms)) c.in_ok-found.found
          (fault_in c.args.pass all (held m.0) d base (value_of m.1)) l.name-iterator c.next.new.self m _ refl
          c.in-Some.ensures.steps
          (c.in_ok-found.ensures ∙ ap (λ h. fault_in c.args.pass all h d base (value_of m.1))
          (c.holding_by_change-holding.ensures
          ∙ ap holding_by_change (change_known d siblings c.hides-hidden.result m.0 c.as_str-key.result.now _
          c.hides-hidden.ensures c.as_str-key.ensures c.change_beside.ensures)))
          (sym c.is_some.ensures ∙ c.if-is_some.false) l.invariant.1,
    )

pub fault_in_keywords-returns-then-is_some : goal.fault_in_keywords-returns-then-is_some
fault_in_keywords-returns-then-is_some t c =
    let l = c.loop-name in
    let all = all_of c.args.scope.now.resources.now in
    let d = c.args.dialect in
    let base = c.args.scope.now.base.now in
    let siblings = c.args.siblings.now in
    let held = holding_in d siblings in
    let m : List ℕ × Doc = (c.in-Some.name.now, c.in-Some.argument.now) in
    let seen = all_seen c.pairs-name-items.ensures.pairs c.into_iter-name-iterator.ensures.into_iter_gives in
    let g = λ (ms : Named). member_fault c.args.pass all held d base (members ms) in
    let found = c.in_ok-found.found in
    IfOk-weaker c.deeper_by.result
    (λ f. option_map found_of f ≡ option_map (deeper c.as_str-key.result.now) (option_map found_of found))
    (λ f. option_map found_of f ≡ g siblings)
    (λ f is. is ∙ ap (λ k. option_map (deeper k) (option_map found_of found)) c.as_str-key.ensures
    ∙ member_stops g found (fault_in c.args.pass all (held m.0) d base (value_of m.1)) l.name-iterator
    c.next.new.self m _ refl c.in-Some.ensures.steps
    (c.in_ok-found.ensures ∙ ap (λ h. fault_in c.args.pass all h d base (value_of m.1))
    (c.holding_by_change-holding.ensures
    ∙ ap holding_by_change (change_known d siblings c.hides-hidden.result m.0 c.as_str-key.result.now _
    c.hides-hidden.ensures c.as_str-key.ensures c.change_beside.ensures)))
    (sym c.is_some.ensures ∙ c.if-is_some.true) l.invariant.1 ∙ ap g seen)
    c.deeper_by.ensures

pub fault_in_keywords-returns : goal.fault_in_keywords-returns
fault_in_keywords-returns t c =
    let l = c.loop-name in
    let all = all_of c.args.scope.now.resources.now in
    let siblings = c.args.siblings.now in
    let seen = all_seen c.pairs-name-items.ensures.pairs c.into_iter-name-iterator.ensures.into_iter_gives in
    members_end (λ ms. member_fault c.args.pass all (holding_in c.args.dialect siblings) c.args.dialect
    c.args.scope.now.base.now (members ms)) l.name-iterator _ siblings refl c.in-None.ensures.steps.0 seen l.invariant.1

pub fault_in_members-loop-name-preserved : goal.fault_in_members-loop-name-preserved
fault_in_members-loop-name-preserved t c =
    let l = c.loop-name in
    let all = all_of c.args.scope.now.resources.now in
    let d = c.args.dialect in
    let base = c.args.scope.now.base.now in
    let m : List ℕ × Doc = (c.in-Some.name.now, c.in-Some.schema.now) in (
      split_next _ l.name-iterator c.next.new.self m l.invariant.0 c.in-Some.ensures.steps,
      member_next (λ ms. member_fault c.args.pass all (λ name. One) d base (members ms)) c.in_ok-found.found
          (fault_in c.args.pass all One d base (value_of m.1)) l.name-iterator c.next.new.self m _ refl
          c.in-Some.ensures.steps c.in_ok-found.ensures (sym c.is_some.ensures ∙ c.if-is_some.false) l.invariant.1,
    )

pub fault_in_members-returns-then-is_some : goal.fault_in_members-returns-then-is_some
fault_in_members-returns-then-is_some t c =
    let l = c.loop-name in
    let all = all_of c.args.scope.now.resources.now in
    let d = c.args.dialect in
    let base = c.args.scope.now.base.now in
    let m : List ℕ × Doc = (c.in-Some.name.now, c.in-Some.schema.now) in
    let seen = all_seen c.pairs-name-items.ensures.pairs c.into_iter-name-iterator.ensures.into_iter_gives in
    let g = λ (ms : Named). member_fault c.args.pass all (λ name. One) d base (members ms) in
    let found = c.in_ok-found.found in
    IfOk-weaker c.deeper_by.result
    (λ f. option_map found_of f ≡ option_map (deeper c.as_str.result.now) (option_map found_of found))
    (λ f. option_map found_of f ≡ g c.args.schemas.now)
    (λ f is. is ∙ ap (λ k. option_map (deeper k) (option_map found_of found)) c.as_str.ensures
    ∙ member_stops g found (fault_in c.args.pass all One d base (value_of m.1)) l.name-iterator c.next.new.self m _
    refl c.in-Some.ensures.steps c.in_ok-found.ensures (sym c.is_some.ensures ∙ c.if-is_some.true) l.invariant.1
    ∙ ap g seen)
    c.deeper_by.ensures

pub fault_in_members-returns : goal.fault_in_members-returns
fault_in_members-returns t c =
    let l = c.loop-name in
    let all = all_of c.args.scope.now.resources.now in
    let seen = all_seen c.pairs-name-items.ensures.pairs c.into_iter-name-iterator.ensures.into_iter_gives in
    members_end (λ ms. member_fault c.args.pass all (λ name. One) c.args.dialect c.args.scope.now.base.now (members ms))
    l.name-iterator _ c.args.schemas.now refl c.in-None.ensures.steps.0 seen l.invariant.1

pub fault_in_items-loop-i-preserved : goal.fault_in_items-loop-i-preserved
fault_in_items-loop-i-preserved t c =
    let l = c.loop-i in
    let all = all_of c.args.scope.now.resources.now in
    let d = c.args.dialect in
    let base = c.args.scope.now.base.now in
    let x = c.index-docs-i.result in
    item_next (λ n vs. item_fault c.args.pass all d base n (items vs)) c.in_ok-found.found
    (fault_in c.args.pass all One d base (value_of x)) c.as_slice-docs.result.now l.i x _ (λ vs. refl) (omega arith)
    c.index-docs-i.is c.in_ok-found.ensures (sym c.is_some.ensures ∙ c.if-is_some.false) l.invariant

pub fault_in_items-returns-then-is_some : goal.fault_in_items-returns-then-is_some
fault_in_items-returns-then-is_some t c =
    let l = c.loop-i in
    let all = all_of c.args.scope.now.resources.now in
    let d = c.args.dialect in
    let base = c.args.scope.now.base.now in
    let x = c.index-docs-i.result in
    let found = c.in_ok-found.found in
    let g = λ (n : ℕ) (vs : Values). item_fault c.args.pass all d base n (items vs) in
    IfOk-weaker c.deeper_at.result
    (λ f. option_map found_of f ≡ option_map (deeper (decimal l.i)) (option_map found_of found))
    (λ f. option_map found_of f ≡ g 0 c.args.schemas.now)
    (λ f is. is
    ∙ item_stops g found (fault_in c.args.pass all One d base (value_of x)) c.as_slice-docs.result.now l.i x _
    (λ vs. refl) (omega arith) c.index-docs-i.is c.in_ok-found.ensures (sym c.is_some.ensures ∙ c.if-is_some.true)
    l.invariant
    ∙ ap (g 0) c.as_slice-docs.ensures)
    c.deeper_at.ensures

pub fault_below-returns-then-is_some : goal.fault_below-returns-then-is_some
fault_below-returns-then-is_some t c =
    schema_stops c.args.pass (all_of c.args.scope.now.resources.now) c.args.dialect c.args.own c.args.base.now
    c.args.scope.now.base.now c.args.siblings.now c.in_ok-here.here c.in_ok-here.ensures
    (sym c.is_some.ensures ∙ c.if-is_some.true)

pub fault_below-returns : goal.fault_below-returns
fault_below-returns t c =
    let all = all_of c.args.scope.now.resources.now in
    let siblings = c.args.siblings.now in
    let same = schema_goes_on c.args.pass all c.args.dialect c.args.own c.args.base.now c.args.scope.now.base.now
    siblings
    c.in_ok-here.here c.in_ok-here.ensures (sym c.is_some.ensures ∙ c.if-is_some.false) in
    subst (λ f. IfOk c.fault_in_keywords.result (λ g. option_map found_of g ≡ f)) same c.fault_in_keywords.ensures

pub fault_in_schema-returns-in_ok-number_here-in-Some : goal.fault_in_schema-returns-in_ok-number_here-in-Some
fault_in_schema-returns-in_ok-number_here-in-Some t c =
    let base = c.args.scope.now.base.now in
    let same = schema_is c.args.pass (all_of c.args.scope.now.resources.now) c.args.dialect c.own_dialect-own.result
    base
    c.in-Some.below c.args.siblings.now c.own_dialect-own.ensures
    (ap (λ u. unwrap_or u base) (sym c.in-Some.is ∙ c.in_ok-found.ensures)) in
    subst (λ f. IfOk c.fault_below.result (λ g. option_map found_of g ≡ f)) same c.fault_below.ensures

pub fault_in_schema-returns-in-None : goal.fault_in_schema-returns-in-None
fault_in_schema-returns-in-None t c =
    let base = c.args.scope.now.base.now in
    let same = schema_is c.args.pass (all_of c.args.scope.now.resources.now) c.args.dialect c.own_dialect-own.result
    base
    base c.args.siblings.now c.own_dialect-own.ensures
    (ap (λ u. unwrap_or u base) (sym c.in-None.is ∙ c.in_ok-found.ensures)) in
    let call = c.fault_below-in-None in
    subst (λ f. IfOk call.result (λ g. option_map found_of g ≡ f)) same call.ensures

pub fault_in_schema-fault_below-requires : goal.fault_in_schema-fault_below-requires
fault_in_schema-fault_below-requires t c = (
  omega (arith, c.decreases),
  ap (λ u. unwrap_or u c.args.scope.now.base.now) (sym c.in-Some.is ∙ c.in_ok-found.ensures),
)
