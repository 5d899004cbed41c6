use Rattle.js_numbers.proofs.Equals.{outside_is_no_integer}
use Rattle.js_numbers.proofs.laws.a_number_outside_is_no_integer.Goals as goal

pub returns : goal.returns
returns c = outside_is_no_integer
