-- Tokens that were added to a pointer.
use Rattle.std.specs.Prelude.{◌≡◌, Bool, true, false, Option, Some, None, option_map, ◌++◌}
use Rattle.js_doc.specs.Pointer.{Tokens}
use Rattle.js_upgrade.specs.Moved.{TokenStep}
use Rattle.js_upgrade.specs.declared.moving.Held.{Held}

-- these, if there are some
abbrev pub IsPushed : Tokens → Tokens → Option Tokens → Bool → Type 0
IsPushed old new tokens true = option_map (λ ts. old ++ ts) tokens ≡ Some new
IsPushed old new tokens false = tokens ≡ None

-- a step was made
abbrev pub IsStepped : Tokens → Tokens → TokenStep → Option Held → Type 0
IsStepped old new step None = step.into ≡ None
IsStepped old new step (Some held) =
    (held.holding ≡ step.holding) × (held.dialect ≡ step.dialect)
    × (option_map (λ ts. old ++ ts) step.into ≡ Some new)
