use Rattle.js_numbers.proofs.InDigits.{digits_are_the_integer}
use Rattle.js_numbers.proofs.laws.digits_are_the_integer.Goals as goal

pub returns : goal.returns
returns c = digits_are_the_integer
