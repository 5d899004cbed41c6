use Rattle.std.proofs.Common.{◌∷◌, IfOk, sym, ap, ◌∙◌, subst}
use Rattle.js_doc.specs.Lookup.{part_named}
use Rattle.js_doc.specs.Seen.{value_of}
use Rattle.js_upgrade.specs.Moved.{alternative_under, types_under}
use Rattle.js_upgrade.specs.code.Pushed.{IsPushed}
use Rattle.js_upgrade.proofs.OneStep.{any_types, types_found}
use Rattle.js_upgrade.proofs.under.push_types.Goals as goal

pub returns-then-has_any : goal.returns-then-has_any
returns-then-has_any c =
    ap (λ v. types_under v c.args.rest.now) (ap value_of c.in-List.is)
    ∙ any_types c.as_slice.result.now c.in-List.items c.args.rest.now c.as_slice.ensures
    (sym c.has_any.ensures ∙ c.if-has_any.true)

pub returns-in_ok-part_by_token-in-List : goal.returns-in_ok-part_by_token-in-List
returns-in_ok-part_by_token-in-List c =
    let index = c.in-Some.index.now in
    let is = ap value_of c.in-List.is in
    let same = ap (types_under (value_of c.args.value.now)) c.in-Some.ensures.cases.0
    ∙ ap (λ v. types_under v (index ∷ c.in-Some.field-0-1.now)) is
    ∙ types_found c.as_slice.result.now c.in-List.items index c.in-Some.field-0-1.now c.as_slice.ensures
    (sym c.has_any.ensures ∙ c.if-has_any.false)
    ∙ sym (ap (λ v. alternative_under (part_named index v)) is)
    ∙ sym (ap alternative_under (c.in_ok-part_by_token-in-List.ensures
    ∙ ap (λ k. part_named k (value_of c.args.value.now)) c.as_str.ensures)) in
    subst (λ o. IfOk c.push_alternative.result (IsPushed c.args.out.now c.push_alternative.new.out o)) (sym same)
    c.push_alternative.ensures
