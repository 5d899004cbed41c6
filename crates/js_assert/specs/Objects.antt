-- The assertions on objects (JSON Schema Validation, section 6.5). The texts of their errors are this project's own
-- choice, since the standard leaves them open.
use Rattle.std.specs.Prelude.{ℕ, pos, List, [], ◌∷◌, ◌++◌, Bool, not, map, filter, codes, length, int_le}
use Rattle.std.specs.Prelude.{if◌then◌else◌}
use Rattle.std.specs.BTreeSet.{insert_key}
use Rattle.std.specs.List.{flat_map, list_all}
use Rattle.js_doc.specs.Value.{Value, whole, text, list, Named, items}
use Rattle.js_doc.specs.Compact.{compact}
use Rattle.js_doc.specs.Members.{name_cmp, has_name}
use Rattle.js_doc.specs.Parts.{members_of}
use Rattle.js_assert.specs.Argument.{number, strings, implies}
use Rattle.js_assert.specs.ArgumentShape.{is_count, is_list_of_names, is_object_of_names}
use Rattle.js_assert.specs.Dependences.{dependences_value}
use Rattle.js_assert.specs.Names.{names_value}
use Rattle.js_assert.specs.TextParts.{at_most, at_least}
use Rattle.js_keyword.specs.declared.assertion_keyword.ObjectKeyword.{ObjectKeyword}
use Rattle.js_keyword.specs.declared.assertion_keyword.ObjectKeyword.TheVariants.{MaxProperties, MinProperties}
use Rattle.js_keyword.specs.declared.assertion_keyword.ObjectKeyword.TheVariants.{Required}
use Rattle.js_keyword.specs.declared.assertion_keyword.ObjectKeyword.TheVariants.{DependentRequired}
use Rattle.js_assert.specs.declared.objects.ObjectTest.{ObjectTest}
use Rattle.js_assert.specs.declared.objects.ObjectTest.TheVariants as test

-- ---- words of the table

abbrev pub has_each : List (List ℕ) → Named → Bool
has_each names ms = list_all (λ name. has_name name ms) names

-- those of the names that are no member's, in their order
abbrev pub without : Named → List (List ℕ) → List (List ℕ)
without ms names = filter (λ name. not (has_name name ms)) names

-- the names that the members present ask for, one after another
abbrev pub names_needed : Named → Named → List (List ℕ)
names_needed ms dependences = flat_map (λ d. if has_name d.0 ms then strings d.1 else []) dependences

-- the names and those in `sorted`, ascending by their bytes, each once
abbrev pub sorted_with : List (List ℕ) → List (List ℕ) → List (List ℕ)
sorted_with sorted [] = sorted
sorted_with sorted (name ∷ names) = sorted_with (insert_key name_cmp sorted name) names

-- the values as compact JSON
abbrev pub missing : List Value → List ℕ
missing vs = codes "missing: " ++ compact (list (items vs))

-- ---- the table

abbrev pub object_takes : Value → ObjectKeyword → Bool
object_takes argument MaxProperties = is_count argument  -- 6.5.1
object_takes argument MinProperties = is_count argument  -- 6.5.2
object_takes argument Required = is_list_of_names argument  -- 6.5.3
object_takes argument DependentRequired = is_object_of_names argument  -- 6.5.4

-- whether the members meet it
abbrev pub object_says : Value → ObjectKeyword → Named → Bool
object_says argument MaxProperties ms = int_le (pos (length ms)) (number argument)  -- 6.5.1
object_says argument MinProperties ms = int_le (number argument) (pos (length ms))  -- 6.5.2
object_says argument Required ms = has_each (strings argument) ms  -- 6.5.3
object_says argument DependentRequired ms =  -- 6.5.4
    list_all (λ d. implies (has_name d.0 ms) (has_each (strings d.1) ms)) (members_of argument)

-- the text of the error that v makes
abbrev pub object_text : Value → Value → ObjectKeyword → List ℕ
object_text argument v MaxProperties = at_most (length (members_of v)) (codes " members") (number argument)
object_text argument v MinProperties = at_least (length (members_of v)) (codes " members") (number argument)
object_text argument v Required = missing (map text (without (members_of v) (strings argument)))
object_text argument v DependentRequired =
    missing (map text (sorted_with [] (without (members_of v) (names_needed (members_of v) (members_of argument)))))

-- ---- what a test of the code stands for

abbrev pub object_keyword : ObjectTest → ObjectKeyword
object_keyword (test.MaxProperties limit) = MaxProperties
object_keyword (test.MinProperties limit) = MinProperties
object_keyword (test.Required names) = Required
object_keyword (test.DependentRequired dependences) = DependentRequired

abbrev pub object_argument : ObjectTest → Value
object_argument (test.MaxProperties limit) = whole (pos limit)
object_argument (test.MinProperties limit) = whole (pos limit)
object_argument (test.Required names) = names_value names.items
object_argument (test.DependentRequired dependences) = dependences_value dependences.items
