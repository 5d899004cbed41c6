-- What an assertion of the code stands for.
use Rattle.std.specs.Prelude.{◌≡◌, true}
use Rattle.js_doc.specs.Value.{Value}
use Rattle.js_assert.specs.AnyType.{any_type_keyword, any_type_argument}
use Rattle.js_assert.specs.Arrays.{array_keyword, array_argument}
use Rattle.js_assert.specs.Numbers.{number_keyword, number_argument}
use Rattle.js_assert.specs.Objects.{object_keyword, object_argument}
use Rattle.js_assert.specs.Strings.{string_keyword, string_argument}
use Rattle.js_assert.specs.Shape.{takes, IsPatternIfAny}
use Rattle.js_assert.specs.declared.assertion.Test.{Test}
use Rattle.js_assert.specs.declared.assertion.Test.TheVariants as test
use Rattle.js_keyword.specs.declared.assertion_keyword.AssertionKeyword.{AssertionKeyword}
use Rattle.js_keyword.specs.declared.assertion_keyword.AssertionKeyword.TheVariants as keyword

abbrev pub keyword_tested : Test → AssertionKeyword
keyword_tested (test.AnyType t) = keyword.AnyType (any_type_keyword t)
keyword_tested (test.Number t) = keyword.Number (number_keyword t)
keyword_tested (test.String t) = keyword.String (string_keyword t)
keyword_tested (test.Array t) = keyword.Array (array_keyword t)
keyword_tested (test.Object t) = keyword.Object (object_keyword t)

abbrev pub argument_tested : Test → Value
argument_tested (test.AnyType t) = any_type_argument t
argument_tested (test.Number t) = number_argument t
argument_tested (test.String t) = string_argument t
argument_tested (test.Array t) = array_argument t
argument_tested (test.Object t) = object_argument t

-- the keyword with this argument is read as the test
pub record IsTestOf (keyword : AssertionKeyword) (argument : Value) (t : Test) : Type 0 where
  pub same_keyword : keyword_tested t ≡ keyword
  pub same_argument : argument_tested t ≡ argument
  pub shape : takes argument keyword ≡ true
  pub pattern : IsPatternIfAny keyword argument
