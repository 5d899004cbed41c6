use Rattle.js_numbers.proofs.Equals.{whole_is_equal}
use Rattle.js_numbers.proofs.laws.whole_is_equal.Goals as goal

pub returns : goal.returns
returns c = whole_is_equal
