use Rattle.js_command.proofs.Written.{written_or_failed}
use Rattle.js_command.proofs.messages.write_usage.Goals as goal

pub returns : goal.returns
returns g c =
    let taken = g.V.Write.contents in
    written_or_failed (taken c.args.faults.now.device) (taken c.write_all.new.self.device)
    c.write_all.new.self.failed c.args.text.now c.write_all.result c.write_all.ensures.ok c.write_all.ensures.begins
    c.write_all.ensures.failed
