use Rattle.std.proofs.Common.{is_some, map, ap, ◌∙◌}
use Rattle.js_bundle.specs.code.Index.{number_of_key}
use Rattle.js_bundle.specs.code.Scan.{site_of}
use Rattle.js_bundle.specs.Url.{printed}
use Rattle.js_bundle.proofs.Indexing.IndexFinds.{taken_is}
use Rattle.js_bundle.proofs.check.rules.is_taken.Goals as goal

pub returns : goal.returns
returns c =
    c.is_some.ensures ∙ ap is_some
    (c.number_of.ensures ∙ ap (number_of_key c.args.known.index.now.known) c.printed.ensures)
    ∙ taken_is c.args.known.index.now.known (map site_of c.args.known.sites.now)
    (printed c.args.uri.now) c.requires.known
