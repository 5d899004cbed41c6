-- The number that C sees of what a call answers.
use Rattle.std.specs.Prelude.{ℕ}
use Rattle.jschema_c.specs.declared.status.Status.{Status}
use Rattle.jschema_c.specs.declared.status.Status.TheVariants as status

abbrev pub code : Status → ℕ
code status.Done = 0
code status.Invalid = 1
code status.Misused = 2
code status.Refused = 3
code status.Failed = 4
