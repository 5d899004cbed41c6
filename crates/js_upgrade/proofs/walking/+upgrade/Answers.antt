use Rattle.std.proofs.Common.{ℕ, List, [], ◌≡◌, Some, None, IfOk, unwrap_or, refl, sym, ap, ◌∙◌, arith}
use Rattle.std.proofs.Common.{subst}
use Rattle.std.proofs.lemmas.Result.{IfOk-weaker}
use Rattle.js_doc.specs.Value.{Named, members, object}
use Rattle.js_doc.specs.Seen.{value_of}
use Rattle.js_doc.specs.declared.doc.Doc.{Doc}
use Rattle.js_upgrade.specs.Reference.{as_it_is}
use Rattle.js_upgrade.specs.Schema.{change_of, gathered_members, one, put_all, upgraded_by}
use Rattle.js_upgrade.specs.Upgrade.{becomes, holding_by_change}
use Rattle.js_upgrade.specs.code.Placed.{argument_at, keywords_placed, members_placed, place_below, placed, scope_at}
use Rattle.js_upgrade.specs.code.Placed.{scope_seen}
use Rattle.js_upgrade.specs.code.Table.{all_of}
use Rattle.js_upgrade.specs.declared.keyword.Change.{Change}
use Rattle.js_upgrade.specs.declared.holding.SchemaHolding.TheVariants.{One}
use Rattle.js_upgrade.proofs.InOrder.{gathered_one}
use Rattle.js_upgrade.proofs.Loops.{all_seen, change_known, gathered_end, gathered_next, next_item_smaller}
use Rattle.js_upgrade.proofs.Loops.{next_smaller, split_next}
use Rattle.js_upgrade.proofs.Placing.{keywords_among, names_ascend, schema_placed_is}
use Rattle.js_upgrade.proofs.walking.+upgrade.Goals as goal

pub keywords_placed-argument_placed-requires : goal.keywords_placed-argument_placed-requires
keywords_placed-argument_placed-requires t c =
    let smaller = next_smaller c.pairs-name-items.ensures.pairs c.into_iter-name-iterator.ensures.into_iter_gives
    c.loop-name.invariant.0 c.in-Some.ensures.steps in (omega (arith, smaller, c.decreases), tt)

pub members_placed-placed-requires : goal.members_placed-placed-requires
members_placed-placed-requires t c =
    let smaller = next_smaller c.pairs-name-items.ensures.pairs c.into_iter-name-iterator.ensures.into_iter_gives
    c.loop-name.invariant.0 c.in-Some.ensures.steps in (omega (arith, smaller, c.decreases), tt)

pub items_placed-placed-requires : goal.items_placed-placed-requires
items_placed-placed-requires t c =
    let smaller = next_item_smaller c.as_slice-docs.result.now c.args.schemas.now c.loop-i.i c.as_slice-docs.ensures
    c.index-docs-i.is (omega arith) in (omega (arith, smaller, c.decreases), tt)

pub keywords_placed-loop-name-preserved : goal.keywords_placed-loop-name-preserved
keywords_placed-loop-name-preserved t c =
    let l = c.loop-name in
    let own = c.args.own in
    let q = scope_at c.args.scope in
    let siblings = c.args.siblings.now in
    let m : List ℕ × Doc = (c.in-Some.name.now, c.in-Some.argument.now) in
    let v = value_of m.1 in
    let key = c.as_str-key.result.now in
    let change = c.change_beside-change.result in
    let made = λ (h : Change). argument_at q h v (placed (holding_by_change h) own q v) in (
      split_next _ l.name-iterator c.next.new.self m l.invariant.0 c.in-Some.ensures.steps,
      gathered_next (becomes own siblings) (λ ms. keywords_among own q siblings (members ms)) l.name-iterator
          l.keywords _ (made (change_of own siblings m.0)) c.next.new.self m c.put_upgraded.new.among refl
          c.in-Some.ensures.steps
          (c.in_ok-put_upgraded.ensures
          ∙ ap (λ x. put_all (upgraded_by siblings key x change) l.keywords) c.in_ok-value.ensures
          ∙ ap (λ h. put_all (upgraded_by siblings key (made h) h) l.keywords)
          (change_known own siblings c.hides-hidden.result m.0 key change c.hides-hidden.ensures c.as_str-key.ensures
          c.change_beside-change.ensures)
          ∙ ap (λ k. put_all (upgraded_by siblings k (made (change_of own siblings m.0)) (change_of own siblings m.0))
          l.keywords) c.as_str-key.ensures)
          l.invariant.1,
    )

pub keywords_placed-returns : goal.keywords_placed-returns
keywords_placed-returns t c =
    let l = c.loop-name in
    let own = c.args.own in
    let q = scope_at c.args.scope in
    let siblings = c.args.siblings.now in
    let seen = all_seen c.pairs-name-items.ensures.pairs c.into_iter-name-iterator.ensures.into_iter_gives in
    let g = λ (ms : Named). keywords_among own q siblings (members ms) in
    gathered_end (becomes own siblings) g l.name-iterator l.keywords _ refl c.in-None.ensures.steps.0 l.invariant.1
    ∙ ap (λ ms. gathered_members (becomes own siblings) (g ms) []) seen

pub members_placed-loop-name-preserved : goal.members_placed-loop-name-preserved
members_placed-loop-name-preserved t c =
    let l = c.loop-name in
    let d = c.args.dialect in
    let q = scope_at c.args.scope in
    let m : List ℕ × Doc = (c.in-Some.name.now, c.in-Some.schema.now) in (
      split_next _ l.name-iterator c.next.new.self m l.invariant.0 c.in-Some.ensures.steps,
      gathered_next one (λ ms. members_placed (λ name. One) as_it_is d q (members ms)) l.name-iterator l.out _
          (placed One d q (value_of m.1)) c.next.new.self m c.put_one.new.among refl c.in-Some.ensures.steps
          (c.in_ok-put_one.ensures
          ∙ ap (λ k. put_all (one k (value_of c.in_ok-schema.schema)) l.out) c.as_str.ensures
          ∙ ap (λ v. put_all (one m.0 v) l.out) c.in_ok-schema.ensures)
          l.invariant.1,
    )

pub members_placed-returns : goal.members_placed-returns
members_placed-returns t c =
    let l = c.loop-name in
    let d = c.args.dialect in
    let q = scope_at c.args.scope in
    let seen = all_seen c.pairs-name-items.ensures.pairs c.into_iter-name-iterator.ensures.into_iter_gives in
    let g = λ (ms : Named). members_placed (λ name. One) as_it_is d q (members ms) in
    gathered_end one g l.name-iterator l.out _ refl c.in-None.ensures.steps.0 l.invariant.1
    ∙ ap (λ ms. gathered_members one (g ms) []) seen
    ∙ gathered_one (g c.args.schemas.now)
    (names_ascend (λ name. One) as_it_is d q c.args.schemas.now c.pairs-name-items.ensures.ascending)

pub schema_placed-returns-in-Some : goal.schema_placed-returns-in-Some
schema_placed-returns-in-Some t c =
    let d = c.args.dialect in
    let own = c.own_dialect-own.result in
    let siblings = c.args.siblings.now in
    let p = Some (scope_seen c.in-Some.scope.now) in
    IfOk-weaker c.schema_among.result (λ m. m ≡ keywords_placed own (place_below p own siblings) siblings)
    (λ m. object (members m) ≡ placed One d (scope_at c.args.scope) (object (members siblings)))
    (λ m is. schema_placed_is d own p siblings m c.own_dialect-own.ensures is
    ∙ ap (λ s. placed One d (scope_at s) (object (members siblings))) (sym c.in-Some.is))
    c.schema_among.ensures

pub schema_placed-returns-in-None : goal.schema_placed-returns-in-None
schema_placed-returns-in-None t c =
    let d = c.args.dialect in
    let own = c.own_dialect-own.result in
    let siblings = c.args.siblings.now in
    IfOk-weaker c.keywords_placed.result (λ m. m ≡ keywords_placed own None siblings)
    (λ m. object (members m) ≡ placed One d (scope_at c.args.scope) (object (members siblings)))
    (λ m is. schema_placed_is d own None siblings m c.own_dialect-own.ensures is
    ∙ ap (λ s. placed One d (scope_at s) (object (members siblings))) (sym c.in-None.is))
    c.keywords_placed.ensures

pub schema_among-returns-in_ok-number_here-in-Some : goal.schema_among-returns-in_ok-number_here-in-Some
schema_among-returns-in_ok-number_here-in-Some t c =
    let base = c.args.scope.now.base.now in
    let siblings = c.args.siblings.now in
    let own = c.args.own in
    let same = ap (λ u. keywords_placed own (Some (all_of c.args.scope.now.resources.now, unwrap_or u base)) siblings)
    (sym c.in-Some.is ∙ c.in_ok-found.ensures) in
    subst (λ ns. IfOk c.keywords_placed.result (λ m. m ≡ ns)) same c.keywords_placed.ensures

pub schema_among-returns-in-None : goal.schema_among-returns-in-None
schema_among-returns-in-None t c =
    let base = c.args.scope.now.base.now in
    let siblings = c.args.siblings.now in
    let own = c.args.own in
    let same = ap (λ u. keywords_placed own (Some (all_of c.args.scope.now.resources.now, unwrap_or u base)) siblings)
    (sym c.in-None.is ∙ c.in_ok-found.ensures) in
    subst (λ ns. IfOk c.keywords_placed-in-None.result (λ m. m ≡ ns)) same c.keywords_placed-in-None.ensures
