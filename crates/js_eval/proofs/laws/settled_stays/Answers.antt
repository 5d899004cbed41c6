use Rattle.js_eval.proofs.Agree.{up_to}
use Rattle.js_eval.proofs.laws.settled_stays.Goals as goal

pub returns : goal.returns
returns g c = λ S above place v n m le h. let f = up_to S n m le in
    (f.settled above place v h, f.holds above place v h, f.names above place v h, f.indexes above place v h)
