use Rattle.js_output.proofs.OutcomeMeaning.{finished_reported}
use Rattle.js_output.proofs.laws.finished_headline.Goals as goal

pub returns : goal.returns
returns g c = λ limits taken old new documents schemas entry instance format place v answer finished is h.
    finished_reported limits taken old new documents schemas entry instance format place v answer finished is h
