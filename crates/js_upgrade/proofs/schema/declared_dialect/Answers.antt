use Rattle.std.proofs.Common.{sym, ◌∙◌}
use Rattle.js_doc.specs.Seen.{value_of}
use Rattle.js_upgrade.proofs.UsualUris.{same_dialect}
use Rattle.js_upgrade.proofs.schema.declared_dialect.Goals as goal

pub returns-then-has_usual_uri : goal.returns-then-has_usual_uri
returns-then-has_usual_uri c =
    same_dialect c.args.dialect c.args.siblings.now (value_of c.args.uri.now)
    (sym c.has_usual_uri.ensures ∙ c.if-has_usual_uri.true)
