use Rattle.std.proofs.Common.{is_some, map, ap, ◌∙◌, arith}
use Rattle.js_bundle.specs.code.Index.{number_of_key, name_key}
use Rattle.js_bundle.specs.code.Scan.{site_of}
use Rattle.js_bundle.proofs.Indexing.IndexFinds.{made_is}
use Rattle.js_bundle.proofs.check.rules.is_made.Goals as goal

pub returns : goal.returns
returns c =
    c.is_some.ensures ∙ ap is_some (c.number_of.ensures
    ∙ ap (number_of_key c.args.known.index.now.names) (c.as_str.ensures.value ∙ c.in_ok-key.ensures
    ∙ ap (λ s. name_key c.args.place.now.document s.resource c.args.name.now) c.deref.ensures))
    ∙ made_is c.args.known.index.now (map site_of c.args.known.sites.now) (site_of c.args.place.now) c.args.name.now
    c.requires (omega arith)
