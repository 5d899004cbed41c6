-- Why documents aren't upgraded, and the line that says so.
use Rattle.std.specs.Prelude.{ℕ, List, [], ◌++◌, Option, Some, None, codes, slice_get}
use Rattle.js_doc.specs.Compact.{quoted}
use Rattle.js_command.specs.Words.{DocumentPairs}
use Rattle.js_output.specs.Line.{fault_line}
use Rattle.js_output.specs.declared.fault.Fault.{Fault}
use Rattle.js_output.specs.declared.fault.Fault.TheVariants as fault
use Rattle.js_upgrade_cli.specs.Names.{path_in}
use Rattle.js_doc.specs.Value.{Text}
use Rattle.js_upgrade_cli.specs.Words.{UpgradeRequest}
use Rattle.js_upgrade_cli.specs.declared.stop.RequestStop.{RequestStop}

-- a refusal is about the document that it names
abbrev pub stopped_by : Fault → RequestStop
stopped_by (fault.Refused r) = record { document = Some r.document; fault = fault.Refused r }
stopped_by f = record { document = None; fault = f }

abbrev pub file_of : Option (Text × Text) → Text
file_of None = []
file_of (Some p) = p.1

-- the file of the document with this number
abbrev pub file_at : DocumentPairs → ℕ → Text
file_at pairs number = file_of (slice_get pairs number)

-- a file that can't be written is the one in the folder
abbrev pub written_to : Option Text → Text → Text
written_to None file = file
written_to (Some folder) file = path_in folder file

-- the file that it is about
abbrev pub subject_of : UpgradeRequest → ℕ → Fault → Text
subject_of request document fault.Write = written_to request.into (file_at request.documents document)
subject_of request document f = file_at request.documents document

abbrev pub named_line : UpgradeRequest → Option ℕ → Fault → List ℕ
named_line request None f = fault_line f
named_line request (Some document) f = quoted (subject_of request document f) ++ (codes ": " ++ fault_line f)

-- without a line feed: the file as a JSON string, if it is about one, and the fault as `jschema` reports it
abbrev pub stop_line : UpgradeRequest → RequestStop → List ℕ
stop_line request stop = named_line request stop.document stop.fault
