-- Where a step back has led.
use Rattle.std.specs.Prelude.{◌≡◌, Option, Some, None, option_map, ◌++◌}
use Rattle.js_doc.specs.Pointer.{Tokens}
use Rattle.js_doc.specs.Seen.{value_of}
use Rattle.js_doc.specs.Value.{Value}
use Rattle.js_upgrade.specs.Originals.{Back}
use Rattle.js_upgrade.specs.declared.dialect.Dialect.{Dialect}
use Rattle.js_upgrade.specs.declared.originals.At.{At}
use Rattle.js_upgrade.specs.declared.originals.Way.{Way}

-- how the value is read on, its dialect, itself, and all tokens up to it
abbrev pub Reached : Type 0
Reached = Way × (Dialect × (Value × Tokens))

abbrev pub reached_by : Tokens → Back → Reached
reached_by before b = (b.way, (b.dialect, (b.value, before ++ b.into)))

abbrev pub reached_at : Tokens → At → Reached
reached_at tokens at = (at.way, (at.dialect, (value_of at.value.now, tokens)))

-- to this, with these tokens behind those before
abbrev pub IsStepBack : Tokens → Tokens → Option Back → Option At → Type 0
IsStepBack old new found None = found ≡ None
IsStepBack old new found (Some at) = option_map (reached_by old) found ≡ Some (reached_at new at)
