-- A whole input.
use Rattle.std.specs.Prelude.{⊤}
use Rattle.js_output.specs.declared.fault.Fault.{Fault}
use Rattle.js_output.specs.declared.fault.Fault.TheVariants as fault

-- the faults of reading one
abbrev pub IsInputFault : Fault → Type 0
IsInputFault fault.Memory = ⊤
IsInputFault fault.Read = ⊤
IsInputFault fault.InputTooLarge = ⊤
IsInputFault _ = ⊥
