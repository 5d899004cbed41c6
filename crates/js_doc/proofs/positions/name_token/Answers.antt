use Rattle.std.proofs.Common.{arith}
use Rattle.js_doc.proofs.PositionsFound.{no_name}
use Rattle.js_doc.proofs.positions.name_token.Goals as goal

pub returns-in_default : goal.returns-in_default
returns-in_default c = no_name c.args.nodes.now c.args.at c.args.text.now c.requires.0 (omega arith) (omega arith)
    c.in_default.not-Key
