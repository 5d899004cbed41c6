-- The assertions on values of each type (JSON Schema Validation, section 6.1). Numbers are whole here, so each is an
-- integer. The texts of their errors are this project's own choice, since the standard leaves them open.
use Rattle.std.specs.Prelude.{ℕ, List, Bool, true, ◌||◌, ◌++◌, map, codes}
use Rattle.std.specs.List.{list_any}
use Rattle.std.specs.Str.{bytes_eq}
use Rattle.js_doc.specs.Value.{Value, null, truth, whole, text, list, object, items}
use Rattle.js_doc.specs.Seen.{value_of}
use Rattle.js_doc.specs.Equality.{same}
use Rattle.js_doc.specs.Parts.{items_of}
use Rattle.js_assert.specs.Argument.{strings}
use Rattle.js_assert.specs.ArgumentShape.{is_type, is_list}
use Rattle.js_assert.specs.Names.{names_value}
use Rattle.js_assert.specs.Types.{type_name}
use Rattle.js_keyword.specs.declared.assertion_keyword.AnyTypeKeyword.{AnyTypeKeyword}
use Rattle.js_keyword.specs.declared.assertion_keyword.AnyTypeKeyword.TheVariants.{«Type», Enum, Const}
use Rattle.js_assert.specs.declared.any_type.AnyTypeTest.{AnyTypeTest}
use Rattle.js_assert.specs.declared.any_type.AnyTypeTest.TheVariants as test

-- ---- words of the table

-- the name is one of the value's type; each number is an integer here
abbrev pub is_type_of : Value → List ℕ → Bool
is_type_of null name = bytes_eq name (codes "null")
is_type_of (truth b) name = bytes_eq name (codes "boolean")
is_type_of (whole z) name = bytes_eq name (codes "integer") || bytes_eq name (codes "number")
is_type_of (text s) name = bytes_eq name (codes "string")
is_type_of (list vs) name = bytes_eq name (codes "array")
is_type_of (object ms) name = bytes_eq name (codes "object")

abbrev pub type_of : Value → List ℕ
type_of null = codes "null"
type_of (truth b) = codes "boolean"
type_of (whole z) = codes "integer"
type_of (text s) = codes "string"
type_of (list vs) = codes "array"
type_of (object ms) = codes "object"

-- ---- the table

abbrev pub any_type_takes : Value → AnyTypeKeyword → Bool
any_type_takes argument «Type» = is_type argument  -- 6.1.1
any_type_takes argument Enum = is_list argument  -- 6.1.2
any_type_takes argument Const = true  -- 6.1.3

-- whether v meets it
abbrev pub any_type_says : Value → AnyTypeKeyword → Value → Bool
any_type_says argument «Type» v = list_any (is_type_of v) (strings argument)  -- 6.1.1
any_type_says argument Enum v = list_any (λ w. same w v) (items_of argument)  -- 6.1.2
any_type_says argument Const v = same argument v  -- 6.1.3

-- the text of the error that v makes
abbrev pub any_type_text : Value → AnyTypeKeyword → List ℕ
any_type_text v «Type» = codes "type is " ++ type_of v
any_type_text v Enum = codes "not a listed value"
any_type_text v Const = codes "not the constant"

-- ---- what a test of the code stands for

abbrev pub any_type_keyword : AnyTypeTest → AnyTypeKeyword
any_type_keyword (test.Type one) = «Type»
any_type_keyword (test.Types several) = «Type»
any_type_keyword (test.Enum choices) = Enum
any_type_keyword (test.Const doc) = Const

abbrev pub any_type_argument : AnyTypeTest → Value
any_type_argument (test.Type one) = text (type_name one)
any_type_argument (test.Types several) = names_value (map type_name several.items)
any_type_argument (test.Enum choices) = list (items choices.value)
any_type_argument (test.Const doc) = value_of doc.value
