use Rattle.js_numbers.proofs.Tens.{tens_fit}
use Rattle.js_numbers.proofs.rounding.power_of_ten.Goals as goal

pub pow-requires : goal.pow-requires
pow-requires c = tens_fit c.args.tens c.requires
