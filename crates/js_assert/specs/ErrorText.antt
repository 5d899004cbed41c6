-- The texts of the errors, from the tables of the families. The standard leaves them open: they are this project's own
-- choice.
use Rattle.std.specs.Prelude.{ℕ, List, Option, Some, None, if◌then◌else◌}
use Rattle.js_doc.specs.Value.{Value}
use Rattle.js_assert.specs.AnyType.{any_type_text}
use Rattle.js_assert.specs.Arrays.{array_text}
use Rattle.js_assert.specs.Assertion.{Asserted, says}
use Rattle.js_assert.specs.Numbers.{number_text}
use Rattle.js_assert.specs.Objects.{object_text}
use Rattle.js_assert.specs.Strings.{string_text}
use Rattle.js_keyword.specs.declared.assertion_keyword.AssertionKeyword.{AssertionKeyword}
use Rattle.js_keyword.specs.declared.assertion_keyword.AssertionKeyword.TheVariants.{AnyType, Number, String, Array}
use Rattle.js_keyword.specs.declared.assertion_keyword.AssertionKeyword.TheVariants.{Object}

module _ (argument : Value) (v : Value) (matching : ℕ) where
  abbrev pub text_by : AssertionKeyword → List ℕ
  text_by (AnyType keyword) = any_type_text v keyword
  text_by (Number keyword) = number_text argument keyword
  text_by (String keyword) = string_text argument v keyword
  text_by (Array keyword) = array_text argument v matching keyword
  text_by (Object keyword) = object_text argument v keyword

-- the text of the error that v makes, where the assertion doesn't hold; `matching` of its items match the
-- adjacent `contains`
abbrev pub error_text : Asserted → Value → ℕ → List ℕ
error_text a v matching = text_by a.argument v matching a.keyword

-- the error that v makes; none where the assertion holds
abbrev pub error : Asserted → Value → ℕ → Option (List ℕ)
error a v matching = if says a v matching then None else Some (error_text a v matching)
