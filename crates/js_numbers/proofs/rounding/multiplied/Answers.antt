use Rattle.std.proofs.Common.{arith}
use Rattle.js_numbers.proofs.Tens.{product_large, product_long}
use Rattle.js_numbers.proofs.rounding.multiplied.Goals as goal
use Rattle.js_numbers.proofs.rounding.multiplied.Goals.{then-digits-via-then-digits}
use Rattle.js_numbers.proofs.rounding.multiplied.Goals.{then-digits-via-else-digits+then-tens-gt19}

pub returns-then-digits : goal.returns-then-digits
returns-then-digits c = elim c.then-digits.branch [
  | then-digits-via-then-digits w ↦ product_large c.args.digits c.args.tens (omega arith)
  | then-digits-via-else-digits+then-tens-gt19 w ↦ product_long c.args.digits c.args.tens (omega arith) (omega arith)
]
