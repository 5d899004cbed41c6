-- How a part is held on the way to what a reference leads to.
use Rattle.std.specs.Prelude.{[], ◌∷◌, Bool, false, Option, Some, None, if◌then◌else◌}
use Rattle.js_doc.specs.Pointer.{Tokens}
use Rattle.js_doc.specs.Value.{Value}
use Rattle.js_upgrade.specs.Apart.{is_resource}
use Rattle.js_upgrade.specs.declared.dialect.Dialect.{Dialect}
use Rattle.js_upgrade.specs.declared.holding.SchemaHolding.{SchemaHolding}
use Rattle.js_upgrade.specs.declared.moving.Held.{Held}

abbrev pub goes_over : SchemaHolding → Dialect → Value → Tokens → Bool
goes_over h d part [] = false
goes_over h d part (token ∷ rest) = is_resource h d part

-- none where there is more to come, in another resource
abbrev pub kept_on : SchemaHolding → Dialect → SchemaHolding → Value → Tokens → Option Held
kept_on h d kept part rest =
    if goes_over h d part rest then None else Some (record { holding = kept; dialect = d })
