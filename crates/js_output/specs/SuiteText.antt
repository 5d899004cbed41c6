-- What a suite's text is read as: groups, each with a schema and its tests; or else the first value that is missing
-- or of the wrong kind: groups in order, the members of each ascending by name, its tests in order.
use Rattle.std.specs.Prelude.{◌≡◌, ℕ, ◌+◌, List, [], ◌∷◌, map, Option, Some, None, option_map, option_and_then}
use Rattle.std.specs.Prelude.{is_some, Result, Ok, Err, Bool, if◌then◌else◌, codes, decimal, ⊤}
use Rattle.std.specs.Str.{is_utf8}
use Rattle.serde_json.specs.Data as json
use Rattle.serde_json.specs.Data.{Data}
use Rattle.serde_json.specs.Find.{get, as_bool, as_str, as_array, as_object}
use Rattle.serde_json.specs.Read.{read as read_json}
use Rattle.js_doc.specs.Pointer.{Tokens}
use Rattle.js_doc.specs.Seen.{value_of}
use Rattle.js_doc.specs.Value.{Value}
use Rattle.js_doc.specs.declared.doc.Doc.{Doc}
use Rattle.js_doc.specs.WholeNumbers.{Found, under, found_map, found_both, value_in}
use Rattle.js_output.specs.declared.fault.Fault.{Fault}
use Rattle.js_output.specs.declared.fault.Fault.TheVariants as fault
use Rattle.js_output.specs.declared.fault.SuiteFault.{SuiteFault}
use Rattle.js_output.specs.declared.fault.SuiteFault.TheVariants as suite_fault
use Rattle.js_output.specs.declared.suite_text.SuiteGroup as rust_group
use Rattle.js_output.specs.declared.suite_text.SuiteTest as rust_test

-- a test: whether the instance is said to be valid. There is no instance where its numbers aren't whole
pub record SuiteTest : Type 0 where
  pub description : List ℕ
  pub instance : Option Value
  pub valid : Bool

-- tests of one schema. There is none where its numbers aren't whole
pub record SuiteGroup : Type 0 where
  pub schema : Option Value
  pub tests : List SuiteTest

-- ---- what is looked for, one thing after another

abbrev pub needed : {A : Type 0} → Option A → Found A
needed (Some a) = Ok a
needed None = Err []

abbrev pub found_then : {A B : Type 0} → Found A → (A → Found B) → Found B
found_then (Ok a) f = f a
found_then (Err place) f = Err place

abbrev pub is_json_object : Data → Bool
is_json_object d = is_some (as_object d)

-- a member of this kind
abbrev pub member_in : {A : Type 0} → (Data → Option A) → List ℕ → Data → Found A
member_in kind name d = under name (needed (option_and_then kind (get name d)))

-- each item, of which the first has the number n
abbrev pub each_in : {A : Type 0} → (Data → Found A) → ℕ → json.Items → Found (List A)
each_in read n json.no_items = Ok []
each_in read n (json.item d ds) = found_both ◌∷◌ (under (decimal n) (read d)) (each_in read (n + 1) ds)

-- a value, where its numbers are whole
abbrev pub found_value : Found Value → Option Value
found_value (Ok v) = Some v
found_value (Err place) = None

abbrev pub whole_in : Data → Option Value
whole_in d = found_value (value_in d)

-- ---- a suite

abbrev pub suite_test : Data → List ℕ → Bool → SuiteTest
suite_test instance description valid =
    record { description = description; instance = whole_in instance; valid = valid }

-- of what is found of its parts, in order
abbrev pub test_from : Bool → Found Data → Found (List ℕ) → Found Bool → Found SuiteTest
test_from object instance description valid =
    if object then found_then instance (λ i. found_then description (λ d. found_map (suite_test i d) valid)) else Err []

abbrev pub test_in : Data → Found SuiteTest
test_in d =
    test_from (is_json_object d) (member_in Some (codes "data") d) (member_in as_str (codes "description") d)
    (member_in as_bool (codes "valid") d)

abbrev pub suite_group : Data → List SuiteTest → SuiteGroup
suite_group schema tests = record { schema = whole_in schema; tests = tests }

abbrev pub tests_from : Found json.Items → Found (List SuiteTest)
tests_from items = found_then items (λ ds. under (codes "tests") (each_in test_in 0 ds))

abbrev pub group_from : Bool → Found (List ℕ) → Found Data → Found (List SuiteTest) → Found SuiteGroup
group_from object description schema tests =
    if object then found_then description (λ _. found_then schema (λ s. found_map (suite_group s) tests)) else Err []

abbrev pub group_in : Data → Found SuiteGroup
group_in d =
    group_from (is_json_object d) (member_in as_str (codes "description") d) (member_in Some (codes "schema") d)
    (tests_from (member_in as_array (codes "tests") d))

abbrev pub groups_in : Data → Found (List SuiteGroup)
groups_in d = found_then (needed (as_array d)) (λ ds. each_in group_in 0 ds)

abbrev pub suite_found : Found (List SuiteGroup) → Result (List SuiteGroup) SuiteFault
suite_found (Ok groups) = Ok groups
suite_found (Err place) = Err (suite_fault.BadSuite place)

abbrev pub suite_read : Option Data → Result (List SuiteGroup) SuiteFault
suite_read None = Err suite_fault.NotJson
suite_read (Some d) = suite_found (groups_in d)

-- a text is UTF-8 (RFC 8259, section 8.1)
unfoldable pub suite_reading : List ℕ → Result (List SuiteGroup) SuiteFault
suite_reading bytes = if is_utf8 bytes then suite_read (read_json bytes) else Err suite_fault.NotJson

-- ---- words for the parts: what the code keeps, and when each fault comes

abbrev pub test_seen : rust_test.SuiteTest → SuiteTest
test_seen t = record { description = t.description; instance = option_map value_of t.instance; valid = t.valid }

abbrev pub tests_seen : List rust_test.SuiteTest → List SuiteTest
tests_seen tests = map test_seen tests

abbrev pub group_seen : rust_group.SuiteGroup → SuiteGroup
group_seen g = record { schema = option_map value_of g.schema; tests = tests_seen g.tests.items }

abbrev pub groups_seen : List rust_group.SuiteGroup → List SuiteGroup
groups_seen groups = map group_seen groups

-- a value is missing or of the wrong kind, at a place of which P holds; lack of memory can come at any time
abbrev pub IsMisfitAt : (Tokens → Type 0) → Fault → Type 0
IsMisfitAt P fault.Memory = ⊤
IsMisfitAt P (fault.Suite (suite_fault.BadSuite place)) = P place
IsMisfitAt P _ = ⊥

abbrev pub IsMisfit : {A : Type 0} → Found A → Fault → Type 0
IsMisfit found = IsMisfitAt (λ place. found ≡ Err place)

-- the member of this name is missing or of the wrong kind
abbrev pub IsMissing : List ℕ → Fault → Type 0
IsMissing name = IsMisfitAt (λ place. place ≡ name ∷ [])

-- the new one is the old one, as seen from one level further up; no other fault comes of a part
abbrev pub LiftsMisfit : List ℕ → Fault → Fault → Type 0
LiftsMisfit token old fault.Memory = ⊤
LiftsMisfit token old (fault.Suite (suite_fault.BadSuite place)) = (inner : Tokens)
    × (old ≡ fault.Suite (suite_fault.BadSuite inner)) × (place ≡ token ∷ inner)
LiftsMisfit token old new = new ≡ old

-- the value found is kept, where its numbers are whole
abbrev pub Keeps : Found Data → Option Doc → Type 0
Keeps found kept = (d : Data) × (found ≡ Ok d) × (option_map value_of kept ≡ whole_in d)

abbrev pub IsSuiteFault : Result (List SuiteGroup) SuiteFault → Fault → Type 0
IsSuiteFault found fault.Memory = ⊤
IsSuiteFault found (fault.Suite e) = found ≡ Err e
IsSuiteFault found _ = ⊥
