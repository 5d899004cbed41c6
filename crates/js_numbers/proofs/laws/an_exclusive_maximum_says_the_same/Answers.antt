use Rattle.js_numbers.specs.Decimal.{ceiling}
use Rattle.js_numbers.specs.Laws.{scaled, scaled_number}
use Rattle.js_numbers.proofs.Comparing.{minimum_limit, order_turned}
use Rattle.js_numbers.proofs.InRange as in_range
use Rattle.js_numbers.proofs.Sizes.{is_between}
use Rattle.js_numbers.proofs.laws.an_exclusive_maximum_says_the_same.Goals as goal

pub returns : goal.returns
returns c d z r =
    let same = minimum_limit _ _ _ _ (is_between d) d.is_negative z in
    let turned = order_turned (scaled_number d) (scaled d z) (ceiling d) z same in
    let bounds = in_range.exclusive_maximum_limit (ceiling d) z r in
    (λ h. bounds.0 (turned.0 h), λ h. turned.1 (bounds.1 h))
