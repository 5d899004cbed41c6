use Rattle.js_eval.proofs.Located.{result_is_located}
use Rattle.js_eval.proofs.laws.locations_go_on_from_above.Goals as goal

pub returns : goal.returns
returns g c = λ S above place v. result_is_located S above place v
