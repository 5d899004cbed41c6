use Rattle.js_doc.proofs.EscapeMasks.{masked}
use Rattle.js_doc.proofs.runs.escapes_of.Goals as goal

pub returns : goal.returns
returns g c = masked g.row.N c.args.bytes c.fits-bytes.0 c.requires
