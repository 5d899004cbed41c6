use Rattle.std.proofs.Common.{◌≡◌, map, unwrap_or, option_and_then, slice_get, ap, ◌∙◌, arith}
use Rattle.std.specs.List.{position_from}
use Rattle.js_bundle.specs.ResourceTable.{ranks_from}
use Rattle.js_bundle.specs.code.Index.{number_standing}
use Rattle.js_bundle.specs.code.Scan.{site_of}
use Rattle.js_bundle.specs.Names.{stands_at}
use Rattle.js_bundle.proofs.Indexing.IndexFinds.{standing_found}
use Rattle.js_bundle.proofs.index.resource_table.number_by_root.Goals as goal

pub returns : goal.returns
returns c =
    let all = map site_of c.args.sites.now in
    let site = site_of c.args.site.now in
    let found : c.in_ok-root.root ≡ position_from (stands_at site.document site.own.resource) 0 all =
    c.in_ok-root.ensures ∙ ap (λ s. number_standing c.args.index.now site.document s.resource) c.deref.ensures
    ∙ standing_found c.args.index.now all site.document site.own.resource c.requires.index (omega arith) in
    c.rank_under.ensures ∙ ap
    (λ ranks. unwrap_or (option_and_then (slice_get ranks) c.in_ok-root.root) 0) c.requires.ranks
    ∙ ap (λ root. unwrap_or (option_and_then (slice_get (ranks_from 0 all)) root) 0) found
