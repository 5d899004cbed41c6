use Rattle.std.proofs.Common.{map, ◌∙◌}
use Rattle.js_bundle.specs.code.Index.{standing}
use Rattle.js_bundle.specs.code.Scan.{site_of}
use Rattle.js_bundle.proofs.Indexing.IndexFinds.{known_at}
use Rattle.js_bundle.proofs.index.place_by_uri.root_named.Goals as goal

pub returns-in-Some : goal.returns-in-Some
returns-in-Some c = c.root_at.ensures
    ∙ known_at standing c.args.index.now (map site_of c.args.sites.now) c.args.uri.now _ c.requires c.in-Some.ensures

pub returns-in-None : goal.returns-in-None
returns-in-None c = known_at standing c.args.index.now (map site_of c.args.sites.now) c.args.uri.now _
    c.requires c.in-None.ensures
