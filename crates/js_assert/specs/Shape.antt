-- Which arguments the keywords take (JSON Schema Validation, section 6), and when one is refused.
use Rattle.std.specs.Prelude.{◌≡◌, List, ℕ, Bool, true, false, codes}
use Rattle.std.specs.Option.{option_map_or}
use Rattle.js_doc.specs.Value.{Value}
use Rattle.js_assert.specs.AnyType.{any_type_takes}
use Rattle.js_assert.specs.Argument.{string}
pub use Rattle.js_assert.specs.ArgumentShape.{is_boolean, is_string}
use Rattle.js_assert.specs.Arrays.{array_takes}
use Rattle.js_keyword.specs.AssertionKeyword.{keyword_named}
use Rattle.js_assert.specs.Numbers.{number_takes}
use Rattle.js_assert.specs.Objects.{object_takes}
use Rattle.js_assert.specs.Pattern.{is_pattern}
use Rattle.js_assert.specs.Strings.{string_takes}
use Rattle.js_assert.specs.declared.fault.KeywordFault.{KeywordFault}
use Rattle.js_assert.specs.declared.fault.KeywordFault.TheVariants.{Memory, BadKeyword, NotAPattern, PatternTooLarge}
use Rattle.js_keyword.specs.declared.assertion_keyword.AssertionKeyword.{AssertionKeyword}
use Rattle.js_keyword.specs.declared.assertion_keyword.AssertionKeyword.TheVariants.{AnyType, Number, String, Array}
use Rattle.js_keyword.specs.declared.assertion_keyword.AssertionKeyword.TheVariants.{Object}
use Rattle.js_keyword.specs.declared.assertion_keyword.StringKeyword.TheVariants.{Pattern}

abbrev pub takes : Value → AssertionKeyword → Bool
takes argument (AnyType keyword) = any_type_takes argument keyword  -- 6.1
takes argument (Number keyword) = number_takes argument keyword  -- 6.2
takes argument (String keyword) = string_takes argument keyword  -- 6.3
takes argument (Array keyword) = array_takes argument keyword  -- 6.4
takes argument (Object keyword) = object_takes argument keyword  -- 6.5

-- the argument has the shape that a keyword of this name asks for; another name asks for none
abbrev pub has_shape : List ℕ → Value → Bool
has_shape name argument = option_map_or (takes argument) (keyword_named name) true

-- ---- faults

-- want of memory, or the argument isn't taken
abbrev pub IsBadUnless : Bool → KeywordFault → Type 0
IsBadUnless taken Memory = Unit {0}
IsBadUnless taken BadKeyword = taken ≡ false
IsBadUnless taken NotAPattern = ⊥
IsBadUnless taken PatternTooLarge = ⊥

-- when a keyword's argument is refused; want of memory may come at any time
abbrev pub IsFaultOf : AssertionKeyword → Value → KeywordFault → Type 0
IsFaultOf keyword argument Memory = Unit {0}
IsFaultOf keyword argument BadKeyword = takes argument keyword ≡ false
IsFaultOf keyword argument NotAPattern = (keyword ≡ String Pattern) × (is_string argument ≡ true)
    × (is_pattern (string argument) ≡ false)
IsFaultOf keyword argument PatternTooLarge = (keyword ≡ String Pattern) × (is_string argument ≡ true)
    × (is_pattern (string argument) ≡ true)

-- the same by the keyword's name: another name is never refused
abbrev pub IsKeywordFault : List ℕ → Value → KeywordFault → Type 0
IsKeywordFault name argument Memory = Unit {0}
IsKeywordFault name argument BadKeyword = has_shape name argument ≡ false
IsKeywordFault name argument NotAPattern = (name ≡ codes "pattern") × (has_shape name argument ≡ true)
    × (is_pattern (string argument) ≡ false)
IsKeywordFault name argument PatternTooLarge = (name ≡ codes "pattern") × (has_shape name argument ≡ true)
    × (is_pattern (string argument) ≡ true)

-- the argument of `pattern` is one
abbrev pub IsPatternIfAny : AssertionKeyword → Value → Type 0
IsPatternIfAny keyword argument = keyword ≡ String Pattern → is_pattern (string argument) ≡ true
