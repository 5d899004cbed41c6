use Rattle.js_doc.specs.Seen.{value_of}
use Rattle.js_upgrade_cli.proofs.Reading.{root_there, root_unread}
use Rattle.js_upgrade_cli.proofs.sources.root_of.Goals as goal

pub returns-in-Ok-clause-ok : goal.returns-in-Ok-clause-ok
returns-in-Ok-clause-ok c = root_there c.args.number c.args.text.now (value_of c.in-Ok.root) c.in-Ok.ensures.ok

pub returns-in-Err-clause-err : goal.returns-in-Err-clause-err
returns-in-Err-clause-err c =
    rw c.unread_document.ensures (root_unread c.args.number c.args.text.now c.in-Err.fault c.in-Err.ensures.err)
