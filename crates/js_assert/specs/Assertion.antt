-- What an assertion says of a value (JSON Schema Validation, section 6). Each family has a table of its own.
use Rattle.std.specs.Prelude.{ℕ, List, Bool, Option, Some, None, option_map, codes, refl}
use Rattle.std.specs.Coded.{Coded, code_by, coded×, coded_bool}
use Rattle.js_doc.specs.Value.{Value, Named}
use Rattle.js_doc.specs.Coding.{value_code}
use Rattle.js_doc.specs.Members.{has_name}
use Rattle.js_assert.specs.AnyType.{any_type_says}
use Rattle.js_assert.specs.Argument.{string, on_number, on_string, on_array, on_object}
use Rattle.js_assert.specs.Arrays.{array_says}
use Rattle.js_keyword.specs.AssertionKeyword.{keyword_named}
use Rattle.js_assert.specs.Numbers.{number_says}
use Rattle.js_assert.specs.Objects.{object_says}
use Rattle.js_assert.specs.Strings.{string_says}
use Rattle.js_keyword.specs.declared.assertion_keyword.AssertionKeyword.{AssertionKeyword}
use Rattle.js_keyword.specs.declared.assertion_keyword.AssertionKeyword.TheVariants.{AnyType, Number, String, Array}
use Rattle.js_keyword.specs.declared.assertion_keyword.AssertionKeyword.TheVariants.{Object}
use Rattle.js_keyword.specs.declared.assertion_keyword.StringKeyword.TheVariants.{Pattern}

-- a keyword, its argument, and whether `contains` stands beside it
pub record Asserted : Type 0 where
  pub keyword : AssertionKeyword
  pub argument : Value
  pub beside_contains : Bool

-- it is stored as its parts
abbrev pub asserted_code : Coded AssertionKeyword → Coded Asserted
asserted_code keyword_code =
    code_by (AssertionKeyword × (Value × Bool)) (coded× keyword_code (coded× value_code coded_bool))
    (λ a. (a.keyword, (a.argument, a.beside_contains)))
    (λ p. record { keyword = p.0; argument = p.1.0; beside_contains = p.1.1 }) (λ _. refl)

-- the assertion of a keyword among its siblings; none, where its name is none of the twenty
abbrev pub asserted : List ℕ → Value → Named → Option Asserted
asserted name argument siblings =
    option_map (λ k. record
    { keyword = k; argument = argument; beside_contains = has_name (codes "contains") siblings })
    (keyword_named name)

-- the keyword has this argument, `contains` stands beside it or not, the value v is judged, and the number of its items
-- that match the adjacent `contains`; a value of another type than the keyword's passes
module _ (argument : Value) (beside_contains : Bool) (v : Value) (matching : ℕ) where
  abbrev pub says_by : AssertionKeyword → Bool
  says_by (AnyType keyword) = any_type_says argument keyword v  -- 6.1
  says_by (Number keyword) = on_number v (number_says argument keyword)  -- 6.2
  says_by (String keyword) = on_string v (string_says argument keyword)  -- 6.3
  says_by (Array keyword) = on_array v (array_says argument beside_contains matching keyword)  -- 6.4
  says_by (Object keyword) = on_object v (object_says argument keyword)  -- 6.5

-- what the assertion says of v; `matching` of its items match the adjacent `contains`
abbrev pub says : Asserted → Value → ℕ → Bool
says a v matching = says_by a.argument a.beside_contains v matching a.keyword

-- the pattern that a string has to match, if the keyword asks for one (6.3.3)
abbrev pub pattern_asked_by : Value → AssertionKeyword → Option (List ℕ)
pattern_asked_by argument (String Pattern) = Some (string argument)
pattern_asked_by argument _ = None

abbrev pub pattern_asked : Asserted → Option (List ℕ)
pattern_asked a = pattern_asked_by a.argument a.keyword
