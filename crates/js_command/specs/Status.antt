-- The program's status.
use Rattle.std.specs.Prelude.{ℕ}
use Rattle.js_output.specs.declared.fault.Fault.{Fault}
use Rattle.js_output.specs.declared.fault.Fault.TheVariants as fault
use Rattle.js_command.specs.declared.words.Misuse.{Misuse}
use Rattle.js_command.specs.declared.words.Misuse.TheVariants as misuse

-- of a fault: 4 where memory, a read or a write failed, and 3 of what was refused
abbrev pub fault_status : Fault → ℕ
fault_status fault.Memory = 4
fault_status fault.Read = 4
fault_status fault.Write = 4
fault_status _ = 3

-- of misused words
abbrev pub misuse_status : Misuse → ℕ
misuse_status misuse.Memory = 4
misuse_status _ = 2
