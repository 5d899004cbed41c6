-- Files by their paths, and why one can't be taken.
use Rattle.std.specs.Prelude.{◌≤◌, ◌<◌, ◌⊎◌, ℕ, List, [], ◌∷◌, length, Option, Some, None, ⊤}
use Rattle.js_output.specs.Device.{input_limit}
use Rattle.js_output.specs.Input.{IsInputFault}
use Rattle.js_output.specs.declared.fault.Fault.{Fault}
use Rattle.js_output.specs.declared.fault.Fault.TheVariants as fault

-- what a file holds, by its path, where that is known
abbrev pub ContentsByPath : Type 0
ContentsByPath = List ℕ → Option (List ℕ)

-- what it holds is within the limit, where it is known
abbrev pub MayFit : Option (List ℕ) → Type 0
MayFit None = ⊤
MayFit (Some bytes) = length bytes ≤ input_limit

-- why a file isn't taken; one whose bytes are known can be read, and is too large only where they are
abbrev pub IsFileFault : Option (List ℕ) → Fault → Type 0
IsFileFault None f = IsInputFault f
IsFileFault (Some bytes) fault.Memory = ⊤
IsFileFault (Some bytes) fault.InputTooLarge = input_limit < length bytes
IsFileFault (Some bytes) _ = ⊥

-- the fault of the first of these files that isn't taken
abbrev pub IsFirstFileFault : ContentsByPath → List (List ℕ) → Fault → Type 0
IsFirstFileFault contents [] f = ⊥
IsFirstFileFault contents (path ∷ paths) f = IsFileFault (contents path) f
    ⊎ (MayFit (contents path) × IsFirstFileFault contents paths f)
