use Rattle.std.proofs.Common.{◌-◌, arith}
use Rattle.js_numbers.proofs.Tens.{tens_pos}
use Rattle.js_numbers.proofs.decimal.Decimal.numerator.Goals as goal

pub gcd-requires : goal.gcd-requires
gcd-requires c = omega (arith, tens_pos (c.args.self.down - c.args.self.up))
