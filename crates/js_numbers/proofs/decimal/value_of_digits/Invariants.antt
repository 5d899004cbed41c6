use Rattle.std.proofs.Common.{◌≡◌, ◌^◌, ◌++◌, min, take}
use Rattle.std.specs.Str.Parse.{digits_value}
use Rattle.js_numbers.proofs.decimal.value_of_digits.Given as goal

abbrev pub invariant-loop-at : goal.invariant-loop-at
invariant-loop-at l = l.value ≡ min (digits_value 10 (take l.at (l.whole ++ l.fraction))) (10 ^ 37)
