use Rattle.js_upgrade_cli.specs.code.Seen.{texts_seen}
use Rattle.js_command.proofs.Holding.{holds_all}
use Rattle.js_upgrade_cli.proofs.documents.take_all.Goals as goal

-- no document is left
pub returns-clause-contents : goal.returns-clause-contents
returns-clause-contents g c =
    holds_all (g.F.Files.contents c.args.files.now) c.args.documents.now c.loop-number.number
    (texts_seen c.loop-number.all.items) c.loop-number-test.false c.loop-number.invariant.0
