use Rattle.std.proofs.Common.{◌≡◌, true, find, option_map, ap, sym, subst, ◌∙◌}
use Rattle.js_bundle.specs.code.Index.{IsIndexOf, number_under, standing}
use Rattle.js_bundle.specs.Names.{is_known_as, is_read, named}
use Rattle.js_bundle.specs.Resource.{sites}
use Rattle.js_bundle.specs.Url.{printed}
use Rattle.js_bundle.proofs.Finding.NumbersStandForPlaces.{names_it, names_none, stands_there}
use Rattle.js_bundle.proofs.Indexing.IndexFinds.{named_found}
use Rattle.js_bundle.proofs.schemas.Schemas.place_by_url.Goals as goal

pub returns-in-Ok-Some-clause-ok : goal.returns-in-Ok-Some-clause-ok
returns-in-Ok-Some-clause-ok c =
    let all = sites c.args.self.now in let index = c.self.inside.checked.index in
    let whole = subst (λ ds. IsIndexOf index (sites ds)) c.self.view_is c.self.invariant.index in
    let root = c.checked_root_named-root.ensures ∙ ap (λ u. option_map standing (find (is_known_as u) all))
    (c.printed.ensures ∙ ap printed c.in_ok-bare.ensures) in
    names_it c.args.self.now all c.args.url c.in-Ok-Some.number (λ _. all)
    (sym c.in-Ok-Some.field-0-is ∙ c.in-Ok-Some.ensures.ok
    ∙ ap (number_under index c.checked_root_named-root.result) (c.as_slice.ensures.value ∙ c.in_ok-fragment.ensures)
    ∙ named_found index all c.args.url c.checked_root_named-root.result whole root)

pub returns-in-Ok-Some-clause-place : goal.returns-in-Ok-Some-clause-place
returns-in-Ok-Some-clause-place c = stands_there c.args.self.now c.in-Ok-Some.number
    (named (sites c.args.self.now) c.args.url) (returns-in-Ok-Some-clause-ok c)

pub returns-in-Ok-Some-clause-read : goal.returns-in-Ok-Some-clause-read
returns-in-Ok-Some-clause-read c =
    subst (λ f. is_read f ≡ true) (c.as_slice.ensures.value ∙ c.in_ok-fragment.ensures) c.in-Ok-Some.ensures.read

pub returns-in-Ok-None-clause-err : goal.returns-in-Ok-None-clause-err
returns-in-Ok-None-clause-err c =
    let all = sites c.args.self.now in let index = c.self.inside.checked.index in
    let whole = subst (λ ds. IsIndexOf index (sites ds)) c.self.view_is c.self.invariant.index in
    let root = c.checked_root_named-root.ensures ∙ ap (λ u. option_map standing (find (is_known_as u) all))
    (c.printed.ensures ∙ ap printed c.in_ok-bare.ensures) in (
      subst (λ f. is_read f ≡ true) (c.as_slice.ensures.value ∙ c.in_ok-fragment.ensures) c.in-Ok-None.ensures.read,
      names_none c.args.self.now all c.args.url (λ _. all)
          (sym c.in-Ok-None.field-0-is ∙ c.in-Ok-None.ensures.ok
          ∙ ap (number_under index c.checked_root_named-root.result)
          (c.as_slice.ensures.value ∙ c.in_ok-fragment.ensures)
          ∙ named_found index all c.args.url c.checked_root_named-root.result whole root),
    )
