-- The line that reports a fault: what was refused or failed, where, and the fault's name.
use Rattle.std.specs.Prelude.{ℕ, List, ◌++◌, Bool, true, false, if◌then◌else◌, codes, decimal}
use Rattle.js_doc.specs.Pointer.{Tokens, pointer_text}
use Rattle.js_doc.specs.Compact.{quoted}
use Rattle.js_doc.specs.declared.reading.ReadFault.{ReadFault}
use Rattle.js_doc.specs.declared.reading.ReadFault.TheVariants as read
use Rattle.js_output.specs.declared.fault.Fault.{Fault}
use Rattle.js_output.specs.declared.fault.Fault.TheVariants as fault
use Rattle.js_bundle.specs.declared.refusal.RefusalKind.{RefusalKind}
use Rattle.js_bundle.specs.declared.refusal.RefusalKind.TheVariants as kind
use Rattle.js_bundle.specs.declared.refusal.EntryFault.{EntryFault}
use Rattle.js_bundle.specs.declared.refusal.EntryFault.TheVariants as entry
use Rattle.js_output.specs.declared.fault.SuiteFault.{SuiteFault}
use Rattle.js_output.specs.declared.fault.SuiteFault.TheVariants as suite

abbrev pub kind_name : RefusalKind → List ℕ
kind_name kind.Memory = codes "Memory"
kind_name kind.NotJson = codes "NotJson"
kind_name kind.NotWhole = codes "NotWhole"
kind_name kind.BadUri = codes "BadUri"
kind_name kind.TooManyDocuments = codes "TooManyDocuments"
kind_name kind.UriTooLong = codes "UriTooLong"
kind_name kind.NotASchema = codes "NotASchema"
kind_name kind.BadKeyword = codes "BadKeyword"
kind_name kind.BadPattern = codes "BadPattern"
kind_name kind.PatternTooLarge = codes "PatternTooLarge"
kind_name kind.BadId = codes "BadId"
kind_name kind.BadAnchor = codes "BadAnchor"
kind_name kind.UnknownDialect = codes "UnknownDialect"
kind_name kind.DuplicateUri = codes "DuplicateUri"
kind_name kind.DuplicateAnchor = codes "DuplicateAnchor"
kind_name kind.TooManyPlaces = codes "TooManyPlaces"
kind_name kind.BadReference = codes "BadReference"
kind_name kind.Unresolved = codes "Unresolved"

-- lack of memory is reported alike, wherever it comes
abbrev pub failed_memory : List ℕ
failed_memory = codes "failed: Memory"

-- a pointer's text, as JSON text
abbrev pub place_text : Tokens → List ℕ
place_text place = quoted (pointer_text place)

abbrev pub wants_memory : RefusalKind → Bool
wants_memory kind.Memory = true
wants_memory _ = false

abbrev pub refused_at_line : ℕ → Tokens → RefusalKind → List ℕ
refused_at_line document place kind = codes "refused: document " ++ decimal document ++ codes " at " ++ place_text place
    ++ codes ": " ++ kind_name kind

abbrev pub refused_line : ℕ → Tokens → RefusalKind → List ℕ
refused_line document place kind = if wants_memory kind then failed_memory else refused_at_line document place kind

abbrev pub instance_line : ReadFault → List ℕ
instance_line read.Memory = failed_memory
instance_line read.NotJson = codes "refused: instance at \"\": NotJson"
instance_line (read.NotWhole place) = codes "refused: instance at " ++ place_text place ++ codes ": NotWhole"

abbrev pub entry_line : EntryFault → List ℕ
entry_line entry.Memory = failed_memory
entry_line entry.BadUri = codes "refused: entry: BadUri"
entry_line entry.UriTooLong = codes "refused: entry: UriTooLong"
entry_line entry.Unresolved = codes "refused: entry: Unresolved"

abbrev pub suite_line : SuiteFault → List ℕ
suite_line suite.NotJson = codes "refused: suite at \"\": NotJson"
suite_line (suite.BadSuite place) = codes "refused: suite at " ++ place_text place ++ codes ": BadSuite"

abbrev pub fault_line : Fault → List ℕ
fault_line fault.Memory = failed_memory
fault_line fault.Read = codes "failed: Read"
fault_line fault.InputTooLarge = codes "refused: input: InputTooLarge"
fault_line (fault.Refused r) = refused_line r.document r.place r.kind
fault_line (fault.Instance e) = instance_line e
fault_line (fault.Entry e) = entry_line e
fault_line fault.TooLarge = codes "refused: walk: TooLarge"
fault_line (fault.Suite e) = suite_line e
fault_line fault.Write = codes "failed: Write"
