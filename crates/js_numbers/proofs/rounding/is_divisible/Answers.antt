use Rattle.std.proofs.Common.{◌==◌, arith, ap}
use Rattle.js_numbers.proofs.Tens.{rest_same, tens_pos}
use Rattle.js_numbers.proofs.rounding.is_divisible.Goals as goal

pub nonzero_rem-result : goal.nonzero_rem-result
nonzero_rem-result c = omega (arith, tens_pos c.args.tens)

pub returns-then-tens-gt38 : goal.returns-then-tens-gt38
returns-then-tens-gt38 c = ap (λ n. n == 0) (rest_same c.args.digits c.args.tens (omega arith) (omega arith))
