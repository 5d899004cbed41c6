use Rattle.js_output.proofs.OutcomeMeaning.{reported}
use Rattle.js_output.proofs.laws.headline.Goals as goal

pub returns : goal.returns
returns g c = λ limits taken old new documents entry instance format place v answer is h.
    reported limits taken old new documents entry instance format place v answer is h
