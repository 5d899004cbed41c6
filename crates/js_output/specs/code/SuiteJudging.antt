-- Words for the parts of the judging of a suite: what the code keeps of a group's entry, and what comes of a test
-- there.
use Rattle.std.specs.Prelude.{◌≡◌, ℕ, Option, Some, None, option_map, Bool, true, false, ⊤}
use Rattle.js_doc.specs.Value.{Value}
use Rattle.js_bundle.specs.Document.{Documents}
use Rattle.js_bundle.specs.Schemas.{is_place, place_at}
use Rattle.js_output.specs.Entry.{IsEntry}
use Rattle.js_output.specs.Suite.{IsStatusOn, group_uri}
use Rattle.js_output.specs.declared.entry.Entry as rust
use Rattle.js_output.specs.declared.fault.Fault.{Fault}
use Rattle.js_output.specs.declared.fault.Fault.TheVariants as fault
use Rattle.js_output.specs.declared.suite_lines.TestStatus.{TestStatus}
use Rattle.js_output.specs.declared.suite_lines.TestStatus.TheVariants.{Pass, Fail, Skip}

-- the documents that the tests are judged by
abbrev pub basis_of : Option rust.Entry → Option Documents
basis_of entry = option_map (λ e. e.schemas) entry

-- the place is the one that the group's URI names
abbrev pub IsJudge : ℕ → Option rust.Entry → Type 0
IsJudge g None = ⊤
IsJudge g (Some e) = IsEntry e.schemas (group_uri g) e

abbrev pub IsThere : Option rust.Entry → Type 0
IsThere None = ⊤
IsThere (Some e) = is_place e.schemas e.place ≡ true

abbrev pub IsStatusAt : Option rust.Entry → Option Value → Bool → TestStatus → Type 0
IsStatusAt (Some e) (Some v) valid status = IsStatusOn e.schemas (place_at e.schemas e.place) v valid status
IsStatusAt _ _ valid status = status ≡ Skip

-- a fault other than lack of memory
abbrev pub IsNotMemory : Fault → Type 0
IsNotMemory fault.Memory = ⊥
IsNotMemory _ = ⊤

-- the verdict that was found, and the expected one
abbrev pub compared : Bool → Bool → TestStatus
compared true true = Pass
compared false false = Pass
compared _ _ = Fail
