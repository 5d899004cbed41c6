-- The assertions on arrays (JSON Schema Validation, section 6.4). The texts of their errors are this project's own
-- choice, since the standard leaves them open.
use Rattle.std.specs.Prelude.{ℕ, ◌+◌, pos, List, [], ◌∷◌, ◌++◌, Bool, true, not, ◌&&◌, Option, Some, None}
use Rattle.std.specs.Prelude.{codes, decimal, length, int_le, if◌then◌else◌}
use Rattle.std.specs.List.{list_any}
use Rattle.js_doc.specs.Value.{Value, truth, whole}
use Rattle.js_doc.specs.Equality.{same}
use Rattle.js_doc.specs.Parts.{items_of}
use Rattle.js_assert.specs.Argument.{boolean, number, implies}
use Rattle.js_assert.specs.ArgumentShape.{is_boolean, is_count}
use Rattle.js_assert.specs.TextParts.{at_most, at_least}
use Rattle.js_keyword.specs.declared.assertion_keyword.ArrayKeyword.{ArrayKeyword}
use Rattle.js_keyword.specs.declared.assertion_keyword.ArrayKeyword.TheVariants.{MaxItems, MinItems, UniqueItems}
use Rattle.js_keyword.specs.declared.assertion_keyword.ArrayKeyword.TheVariants.{MaxContains}
use Rattle.js_keyword.specs.declared.assertion_keyword.ArrayKeyword.TheVariants.{MinContains}
use Rattle.js_assert.specs.declared.arrays.ArrayTest.{ArrayTest}
use Rattle.js_assert.specs.declared.arrays.ArrayTest.TheVariants as test

-- ---- words of the table

-- no two of the values are equal
abbrev pub is_unique : List Value → Bool
is_unique [] = true
is_unique (v ∷ vs) = not (list_any (same v) vs) && is_unique vs

-- the position of the first that equals v; the first of them stands at n
abbrev pub first_equal : Value → ℕ → List Value → Option ℕ
first_equal v n [] = None
first_equal v n (w ∷ ws) = if same v w then Some n else first_equal v (n + 1) ws

abbrev pub pair_or : ℕ → Option ℕ → Option (ℕ × ℕ) → Option (ℕ × ℕ)
pair_or i None later = later
pair_or i (Some j) later = Some (i, j)

-- the least position that has an equal later one, with the least such later one; the first of them stands at n
abbrev pub equal_pair : ℕ → List Value → Option (ℕ × ℕ)
equal_pair n [] = None
equal_pair n (v ∷ vs) = pair_or n (first_equal v (n + 1) vs) (equal_pair (n + 1) vs)

abbrev pub pair_text : Option (ℕ × ℕ) → List ℕ
pair_text None = []
pair_text (Some p) = codes "items " ++ (decimal p.0 ++ (codes " and " ++ (decimal p.1 ++ codes " are equal")))

-- ---- the table

abbrev pub array_takes : Value → ArrayKeyword → Bool
array_takes argument MaxItems = is_count argument  -- 6.4.1
array_takes argument MinItems = is_count argument  -- 6.4.2
array_takes argument UniqueItems = is_boolean argument  -- 6.4.3
array_takes argument MaxContains = is_count argument  -- 6.4.4
array_takes argument MinContains = is_count argument  -- 6.4.5

-- whether the items meet it, beside `contains` or not; `matching` of them match that `contains`
module _ (argument : Value) (beside_contains : Bool) (matching : ℕ) where
  abbrev pub array_says : ArrayKeyword → List Value → Bool
  array_says MaxItems vs = int_le (pos (length vs)) (number argument)  -- 6.4.1
  array_says MinItems vs = int_le (number argument) (pos (length vs))  -- 6.4.2
  array_says UniqueItems vs = implies (boolean argument) (is_unique vs)  -- 6.4.3
  array_says MaxContains vs = implies beside_contains (int_le (pos matching) (number argument))  -- 6.4.4
  array_says MinContains vs = implies beside_contains (int_le (number argument) (pos matching))  -- 6.4.5

-- the text of the error that v makes, `matching` of whose items match the adjacent `contains`
module _ (argument : Value) (v : Value) (matching : ℕ) where
  abbrev pub array_text : ArrayKeyword → List ℕ
  array_text MaxItems = at_most (length (items_of v)) (codes " items") (number argument)
  array_text MinItems = at_least (length (items_of v)) (codes " items") (number argument)
  array_text UniqueItems = pair_text (equal_pair 0 (items_of v))
  array_text MaxContains = at_most matching (codes " matching items") (number argument)
  array_text MinContains = at_least matching (codes " matching items") (number argument)

-- ---- what a test of the code stands for

abbrev pub array_keyword : ArrayTest → ArrayKeyword
array_keyword (test.MaxItems limit) = MaxItems
array_keyword (test.MinItems limit) = MinItems
array_keyword (test.UniqueItems asked) = UniqueItems
array_keyword (test.MaxContains limit) = MaxContains
array_keyword (test.MinContains limit) = MinContains

abbrev pub array_argument : ArrayTest → Value
array_argument (test.MaxItems limit) = whole (pos limit)
array_argument (test.MinItems limit) = whole (pos limit)
array_argument (test.UniqueItems asked) = truth asked
array_argument (test.MaxContains limit) = whole (pos limit)
array_argument (test.MinContains limit) = whole (pos limit)
