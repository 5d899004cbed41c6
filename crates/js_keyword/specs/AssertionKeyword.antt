-- The keywords that judge a value by themselves, and their names, each with its section of JSON Schema Validation.
use Rattle.std.specs.Prelude.{ℕ, List, [], ◌∷◌, Option, Some, None, codes, if◌then◌else◌}
use Rattle.std.specs.Str.{bytes_eq}
use Rattle.js_keyword.specs.declared.assertion_keyword.AssertionKeyword.{AssertionKeyword}
use Rattle.js_keyword.specs.declared.assertion_keyword.AssertionKeyword.TheVariants.{AnyType, Number, String, Array}
use Rattle.js_keyword.specs.declared.assertion_keyword.AssertionKeyword.TheVariants.{Object}
use Rattle.js_keyword.specs.declared.assertion_keyword.AnyTypeKeyword.TheVariants.{«Type», Enum, Const}
use Rattle.js_keyword.specs.declared.assertion_keyword.NumberKeyword.TheVariants.{MultipleOf, Maximum}
use Rattle.js_keyword.specs.declared.assertion_keyword.NumberKeyword.TheVariants.{ExclusiveMaximum, Minimum}
use Rattle.js_keyword.specs.declared.assertion_keyword.NumberKeyword.TheVariants.{ExclusiveMinimum}
use Rattle.js_keyword.specs.declared.assertion_keyword.StringKeyword.TheVariants.{MaxLength, MinLength, Pattern}
use Rattle.js_keyword.specs.declared.assertion_keyword.ArrayKeyword.TheVariants.{MaxItems, MinItems, UniqueItems}
use Rattle.js_keyword.specs.declared.assertion_keyword.ArrayKeyword.TheVariants.{MaxContains, MinContains}
use Rattle.js_keyword.specs.declared.assertion_keyword.ObjectKeyword.TheVariants.{MaxProperties, MinProperties}
use Rattle.js_keyword.specs.declared.assertion_keyword.ObjectKeyword.TheVariants.{Required, DependentRequired}

abbrev pub name_of : AssertionKeyword → List ℕ
name_of (AnyType «Type») = codes "type"  -- 6.1.1
name_of (AnyType Enum) = codes "enum"  -- 6.1.2
name_of (AnyType Const) = codes "const"  -- 6.1.3
name_of (Number MultipleOf) = codes "multipleOf"  -- 6.2.1
name_of (Number Maximum) = codes "maximum"  -- 6.2.2
name_of (Number ExclusiveMaximum) = codes "exclusiveMaximum"  -- 6.2.3
name_of (Number Minimum) = codes "minimum"  -- 6.2.4
name_of (Number ExclusiveMinimum) = codes "exclusiveMinimum"  -- 6.2.5
name_of (String MaxLength) = codes "maxLength"  -- 6.3.1
name_of (String MinLength) = codes "minLength"  -- 6.3.2
name_of (String Pattern) = codes "pattern"  -- 6.3.3
name_of (Array MaxItems) = codes "maxItems"  -- 6.4.1
name_of (Array MinItems) = codes "minItems"  -- 6.4.2
name_of (Array UniqueItems) = codes "uniqueItems"  -- 6.4.3
name_of (Array MaxContains) = codes "maxContains"  -- 6.4.4
name_of (Array MinContains) = codes "minContains"  -- 6.4.5
name_of (Object MaxProperties) = codes "maxProperties"  -- 6.5.1
name_of (Object MinProperties) = codes "minProperties"  -- 6.5.2
name_of (Object Required) = codes "required"  -- 6.5.3
name_of (Object DependentRequired) = codes "dependentRequired"  -- 6.5.4

-- in the order of the standard
abbrev pub assertion_keywords : List AssertionKeyword
assertion_keywords =
    AnyType «Type» ∷ AnyType Enum ∷ AnyType Const ∷ Number MultipleOf ∷ Number Maximum ∷ Number ExclusiveMaximum
    ∷ Number Minimum ∷ Number ExclusiveMinimum ∷ String MaxLength ∷ String MinLength ∷ String Pattern ∷ Array MaxItems
    ∷ Array MinItems ∷ Array UniqueItems ∷ Array MaxContains ∷ Array MinContains ∷ Object MaxProperties
    ∷ Object MinProperties ∷ Object Required ∷ Object DependentRequired ∷ []

-- the first of these with the name
abbrev pub assertion_among : List AssertionKeyword → List ℕ → Option AssertionKeyword
assertion_among [] name = None
assertion_among (k ∷ ks) name = if bytes_eq name (name_of k) then Some k else assertion_among ks name

-- the keyword of this name, if it is one of the twenty
unfoldable pub keyword_named : List ℕ → Option AssertionKeyword
keyword_named name = assertion_among assertion_keywords name
