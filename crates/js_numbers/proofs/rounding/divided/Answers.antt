use Rattle.std.proofs.Common.{arith}
use Rattle.js_numbers.proofs.Tens.{quotient_zero, tens_pos}
use Rattle.js_numbers.proofs.rounding.divided.Goals as goal

pub nonzero_div-result : goal.nonzero_div-result
nonzero_div-result c = omega (arith, tens_pos c.args.tens)

pub returns-then-tens-gt38 : goal.returns-then-tens-gt38
returns-then-tens-gt38 c = quotient_zero c.args.digits c.args.tens (omega arith) (omega arith)
