use Rattle.std.proofs.Common.{Some, map, codes, slice_get, false, ap, sym, ◌∙◌}
use Rattle.std.specs.Option.{option_map_or}
use Rattle.js_bundle.specs.code.Scan.{site_of}
use Rattle.js_bundle.specs.Finding.{dynamic_as}
use Rattle.js_bundle.specs.Names.{makes}
use Rattle.js_bundle.proofs.Checking.ReferenceTexts.{dynamic_found}
use Rattle.js_bundle.proofs.check.references.resolve_dynamic_url.Goals as goal

pub returns-in-Some-clause-reference : goal.returns-in-Some-clause-reference
returns-in-Some-clause-reference c =
    let all = map site_of c.args.known.sites.now in
    let n = c.in-Some.target in
    ap Some (c.reference_to.ensures ∙ ap (λ name. dynamic_as (option_map_or (makes (codes "$dynamicAnchor") name)
    (slice_get all n) false) n) (c.as_slice.ensures.value ∙ c.in_ok-name.ensures))
    ∙ dynamic_found all c.args.url n (sym c.in_ok-target.ensures.target ∙ c.in-Some.is)
