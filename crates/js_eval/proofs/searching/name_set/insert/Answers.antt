use Rattle.std.proofs.Common.{refl}
use Rattle.js_eval.proofs.MembersLeft.{name_more}
use Rattle.js_eval.proofs.searching.name_set.insert.Goals as goal

pub returns : goal.returns
returns c = λ names seen. name_more c.args.set.now.keys c.insert.new.self.keys names _ c.args.name.now refl seen
    c.in_ok-insert.ensures.updates.0
