-- The assertions on numbers (JSON Schema Validation, section 6.2), which are whole here. The texts of their errors are
-- this project's own choice, since the standard leaves them open.
use Rattle.std.specs.Prelude.{ℕ, ℤ, pos, List, Bool, ◌==◌, ◌%◌, codes, int_le, int_lt, unsigned_abs}
use Rattle.std.specs.Int.NonZero.{non_zero_u64_get}
use Rattle.js_doc.specs.Value.{Value, whole}
use Rattle.js_assert.specs.Argument.{number}
use Rattle.js_assert.specs.ArgumentShape.{is_number, is_number_above}
use Rattle.js_assert.specs.TextParts.{before_number}
use Rattle.js_keyword.specs.declared.assertion_keyword.NumberKeyword.{NumberKeyword}
use Rattle.js_keyword.specs.declared.assertion_keyword.NumberKeyword.TheVariants.{MultipleOf, Maximum}
use Rattle.js_keyword.specs.declared.assertion_keyword.NumberKeyword.TheVariants.{ExclusiveMaximum, Minimum}
use Rattle.js_keyword.specs.declared.assertion_keyword.NumberKeyword.TheVariants.{ExclusiveMinimum}
use Rattle.js_assert.specs.declared.numbers.NumberTest.{NumberTest}
use Rattle.js_assert.specs.declared.numbers.NumberTest.TheVariants as test

-- z divided by n is a whole number
abbrev pub divides : ℤ → ℤ → Bool
divides n z = unsigned_abs z % unsigned_abs n == 0

-- ---- the table

abbrev pub number_takes : Value → NumberKeyword → Bool
number_takes argument MultipleOf = is_number_above (pos 0) argument  -- 6.2.1
number_takes argument Maximum = is_number argument  -- 6.2.2
number_takes argument ExclusiveMaximum = is_number argument  -- 6.2.3
number_takes argument Minimum = is_number argument  -- 6.2.4
number_takes argument ExclusiveMinimum = is_number argument  -- 6.2.5

-- whether the number meets it
abbrev pub number_says : Value → NumberKeyword → ℤ → Bool
number_says argument MultipleOf z = divides (number argument) z  -- 6.2.1
number_says argument Maximum z = int_le z (number argument)  -- 6.2.2
number_says argument ExclusiveMaximum z = int_lt z (number argument)  -- 6.2.3
number_says argument Minimum z = int_le (number argument) z  -- 6.2.4
number_says argument ExclusiveMinimum z = int_lt (number argument) z  -- 6.2.5

-- the text of its error
abbrev pub number_text : Value → NumberKeyword → List ℕ
number_text argument MultipleOf = before_number (codes "not a multiple of ") (number argument)
number_text argument Maximum = before_number (codes "greater than ") (number argument)
number_text argument ExclusiveMaximum = before_number (codes "not less than ") (number argument)
number_text argument Minimum = before_number (codes "less than ") (number argument)
number_text argument ExclusiveMinimum = before_number (codes "not greater than ") (number argument)

-- ---- what a test of the code stands for

abbrev pub number_keyword : NumberTest → NumberKeyword
number_keyword (test.MultipleOf divisor) = MultipleOf
number_keyword (test.Maximum limit) = Maximum
number_keyword (test.ExclusiveMaximum limit) = ExclusiveMaximum
number_keyword (test.Minimum limit) = Minimum
number_keyword (test.ExclusiveMinimum limit) = ExclusiveMinimum

abbrev pub number_argument : NumberTest → Value
number_argument (test.MultipleOf divisor) = whole (pos (non_zero_u64_get divisor))
number_argument (test.Maximum limit) = whole limit.value
number_argument (test.ExclusiveMaximum limit) = whole limit.value
number_argument (test.Minimum limit) = whole limit.value
number_argument (test.ExclusiveMinimum limit) = whole limit.value
