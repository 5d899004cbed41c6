use Rattle.js_numbers.specs.Decimal.{floor}
use Rattle.js_numbers.proofs.Comparing.{maximum_limit}
use Rattle.js_numbers.proofs.InRange as in_range
use Rattle.js_numbers.proofs.Sizes.{is_between}
use Rattle.js_numbers.proofs.laws.a_maximum_says_the_same.Goals as goal

pub returns : goal.returns
returns c d z r =
    let same = maximum_limit _ _ _ _ (is_between d) d.is_negative z in
    let bounds = in_range.maximum_limit (floor d) z r in
    (λ h. bounds.0 (same.0 h), λ h. same.1 (bounds.1 h))
