use Rattle.js_numbers.specs.Decimal.{numerator}
use Rattle.js_numbers.proofs.Multiples.{of_bound, of_numerator}
use Rattle.js_numbers.proofs.laws.multiples_are_those_of_the_numerator.Goals as goal

pub returns : goal.returns
returns c d n r =
    let same = of_numerator d n in
    let bounds = of_bound (numerator d) n r in
    (λ h. bounds.0 (same.0 h), λ h. same.1 (bounds.1 h))
