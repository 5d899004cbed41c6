use Rattle.js_eval.proofs.NoCircle.{names_in_no_circle, indexes_in_no_circle}
use Rattle.js_eval.proofs.laws.no_circle.Goals as goal

pub returns : goal.returns
returns g c = λ S above place v known.
    (names_in_no_circle S known above place v, indexes_in_no_circle S known above place v)
