use Rattle.std.proofs.Common.{refl}
use Rattle.js_eval.proofs.reporters.silent.SilentReporter.leaf_keyword.Goals as goal

pub returns-clause-reported : goal.returns-clause-reported
returns-clause-reported g c = (c.args.self.now, tt, (c.args.self.now, tt, refl))
