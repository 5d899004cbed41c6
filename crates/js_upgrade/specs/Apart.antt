-- What stands apart: in 2020-12 it is no schema where it stands, as below a keyword that isn't known, in one that goes,
-- or beside a `$ref`. A reference takes it as a schema (draft-03, 5.28; JSON Reference, 3; draft-06 Core, 8; draft-07
-- Core, 8.3; 2019-09 Core, 8.2.4.1).
use Rattle.std.specs.Prelude.{[], ◌∷◌, Bool, true, false, ◌&&◌, Option, Some, None, is_none}
use Rattle.std.specs.Prelude.{option_and_then, option_map, if◌then◌else◌}
use Rattle.js_doc.specs.Lookup.{part_named}
use Rattle.js_doc.specs.Members.{get}
use Rattle.js_doc.specs.Parts.{member_list, members_of}
use Rattle.js_doc.specs.Pointer.{Tokens}
use Rattle.js_doc.specs.Value.{Value, truth, object, Text, Named}
use Rattle.js_upgrade.specs.CopyName.{definitions_name, free_name}
use Rattle.js_upgrade.specs.Dialect.{is_before}
use Rattle.js_upgrade.specs.Moved.{TokenStep, step}
use Rattle.js_upgrade.specs.Schema.{members_found}
use Rattle.js_upgrade.specs.Upgrade.{identifies, own_dialect}
use Rattle.js_upgrade.specs.declared.dialect.Dialect.{Dialect}
use Rattle.js_upgrade.specs.declared.dialect.Dialect.TheVariants.{Draft2020}
use Rattle.js_upgrade.specs.declared.holding.SchemaHolding.{SchemaHolding}
use Rattle.js_upgrade.specs.declared.holding.SchemaHolding.TheVariants.{One, OneOrListed, Nothing}
use Rattle.js_upgrade.specs.declared.moving.Held.{Held}

-- it is held as a schema
abbrev pub holds_schema : SchemaHolding → Bool
holds_schema One = true
holds_schema OneOrListed = true
holds_schema _ = false

-- a schema with an identifier
abbrev pub is_resource : SchemaHolding → Dialect → Value → Bool
is_resource h d v = holds_schema h && identifies (own_dialect d (members_of v)) (members_of v)

-- there is more to come, in another resource: there the base is another
abbrev pub crosses : TokenStep → Value → Tokens → Bool
crosses s part [] = false
crosses s part (token ∷ rest) = is_resource s.holding s.dialect part

-- what goes holds no schema in 2020-12
abbrev pub held_on : TokenStep → SchemaHolding
held_on s = if is_none s.into then Nothing else s.holding

-- how the part is held, and in which dialect
abbrev pub onward : TokenStep → Value → Tokens → Option Held
onward s part rest =
    if crosses s part rest then None else Some (record { holding = held_on s; dialect = s.dialect })

-- what stands at the tokens, where it stands apart, and in no other resource
abbrev pub apart : SchemaHolding → Dialect → Value → Tokens → Option Value
apart h d v [] = if holds_schema h then None else Some v
apart h d v (token ∷ rest) =
    option_and_then
    (λ part. option_and_then (λ held. apart held.holding held.dialect part rest)
    (onward (step h d v token part rest) part rest))
    (part_named token v)

-- ---- what is copied

-- a schema is an object or a truth value
abbrev pub if_schema : Value → Option Value
if_schema (object ms) = Some (object ms)
if_schema (truth b) = Some (truth b)
if_schema _ = None

abbrev pub definitions_of : Dialect → Value → Named
definitions_of d root = members_found (get (definitions_name d) (members_of root))

-- there are no definitions, or they are an object
abbrev pub is_open : Option Value → Bool
is_open None = true
is_open (Some (object ms)) = true
is_open (Some v) = false

-- a document to which definitions can be added
abbrev pub takes_copies : Dialect → Value → Bool
takes_copies d (object ms) = is_before d Draft2020 && is_open (get (definitions_name d) (member_list ms))
takes_copies d v = false

abbrev pub under_name : Value → Text → Text × Value
under_name v name = (name, v)

-- of a document's root, the copy of what stands at the tokens, under its name
abbrev pub copy_of : Dialect → Value → Tokens → Option (Text × Value)
copy_of d root tokens =
    if takes_copies d root
    then option_and_then (λ v. option_map (under_name v) (free_name (definitions_of d root) tokens))
    (option_and_then if_schema (apart One d root tokens)) else None
