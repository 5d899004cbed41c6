use Rattle.std.proofs.Common.{◌≡◌, map, find, option_map, ap, ◌∙◌}
use Rattle.std.proofs.lemmas.Result.{IfOk-weaker}
use Rattle.js_bundle.specs.code.Index.{number_under, standing}
use Rattle.js_bundle.specs.code.Scan.{site_of}
use Rattle.js_bundle.specs.code.PlaceNumbers.{number_named}
use Rattle.js_bundle.specs.Names.{is_known_as}
use Rattle.js_bundle.specs.Url.{printed}
use Rattle.js_bundle.proofs.Indexing.IndexFinds.{named_found}
use Rattle.js_bundle.proofs.index.place_by_uri.number_named.Goals as goal

pub returns-clause-ok : goal.returns-clause-ok
returns-clause-ok c =
    let all = map site_of c.args.sites.now in
    let index = c.args.index.now in
    let root = c.root_named-root.ensures ∙ ap (λ u. option_map standing (find (is_known_as u) all))
    (c.printed.ensures ∙ ap printed c.in_ok-bare.ensures) in
    IfOk-weaker c.number_by_fragment.result (λ n. n ≡ number_under index c.root_named-root.result c.as_slice.result.now)
    (λ n. n ≡ number_named all c.args.uri)
    (λ n e. e ∙ ap (number_under index c.root_named-root.result) (c.as_slice.ensures.value ∙ c.in_ok-fragment.ensures)
    ∙ named_found index all c.args.uri c.root_named-root.result c.requires root)
    c.number_by_fragment.ensures.ok
