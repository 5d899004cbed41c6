-- What a keyword of a schema becomes in 2020-12: a line for each change. Its argument comes with the schemas that it
-- holds upgraded already; its siblings come as they were.
use Rattle.std.specs.Prelude.{ℕ, ◌==◌, List, [], ◌∷◌, ◌++◌, Bool, true, false, not, ◌&&◌, Option, Some, None}
use Rattle.std.specs.Prelude.{codes, map, bytes_eq, if◌then◌else◌}
use Rattle.std.specs.List.{after_first, before_first, list_any}
use Rattle.js_doc.specs.Value.{Value, truth, text, list, object, no_items}
use Rattle.js_doc.specs.Value.{item, Text, Values, Named, items, members}
use Rattle.js_doc.specs.Members.{get, put, has_name}
use Rattle.js_doc.specs.Parts.{item_list, member_list, members_of}
use Rattle.percent_encoding.specs.Percent.{percent_decode}
use Rattle.js_upgrade.specs.AnchorName.{anchor_name, anchor_upgraded}
use Rattle.js_upgrade.specs.CopyName.{is_rooted}
use Rattle.js_upgrade.specs.Dialect.{is_before}
use Rattle.js_upgrade.specs.Keyword.{change_in}
use Rattle.js_upgrade.specs.declared.dialect.Dialect.{Dialect}
use Rattle.js_upgrade.specs.declared.dialect.Dialect.TheVariants.{Draft2019}
use Rattle.js_upgrade.specs.declared.keyword.Change.{Change}
use Rattle.js_upgrade.specs.declared.keyword.Change.TheVariants.{Stays, Refers}
use Rattle.js_upgrade.specs.declared.keyword.Change.TheVariants.{Goes, Identifier, Definitions, Items as ItemsChange}
use Rattle.js_upgrade.specs.declared.keyword.Change.TheVariants.{AdditionalItems, Dependencies, Minimum}
use Rattle.js_upgrade.specs.declared.keyword.Change.TheVariants.{Maximum, Divisor}
use Rattle.js_upgrade.specs.declared.keyword.Change.TheVariants.{Types, Disallowed, Extended, Properties}
use Rattle.js_upgrade.specs.declared.keyword.Change.TheVariants.{Contains, Anchor, RecursiveReference, RecursiveAnchor}

-- ---- beside a reference

-- before 2019-09 a reference hides its siblings (draft-03, 5.28; JSON Reference, 3; draft-06 Core, 8; draft-07 Core,
-- 8.3)
abbrev pub hides : Dialect → Named → Bool
hides d siblings = is_before d Draft2019 && has_name (codes "$ref") siblings

-- what stands in `definitions` can be referred to, and what doesn't act may stay
abbrev pub beside_reference : Change → Change
beside_reference Refers = Refers
beside_reference Definitions = Definitions
beside_reference Stays = Stays
beside_reference _ = Goes

abbrev pub change_of : Dialect → Named → Text → Change
change_of d siblings name =
    if hides d siblings then beside_reference (change_in d name) else change_in d name

-- ---- words of the table

abbrev pub one : Text → Value → Named
one name v = (name, v) ∷ []

-- these members among those
abbrev pub put_all : Named → Named → Named
put_all [] among = among
put_all (m ∷ ms) among = put_all ms (put m.0 m.1 among)

-- what becomes of each member, among those
abbrev pub gathered_members : (Text → Value → Named) → Named → Named → Named
gathered_members becomes [] among = among
gathered_members becomes (m ∷ ms) among = gathered_members becomes ms (put_all (becomes m.0 m.1) among)

-- the members under the name, if there are some
abbrev pub some_members : Text → Named → Named
some_members name [] = []
some_members name ms = one name (object (members ms))

-- the items under the name, if there are some
abbrev pub some_items : Text → Values → Named
some_items name [] = []
some_items name vs = one name (list (items vs))

abbrev pub is_true : Option Value → Bool
is_true (Some (truth b)) = b
is_true _ = false

abbrev pub is_some_list : Option Value → Bool
is_some_list (Some (list vs)) = true
is_some_list _ = false

-- more than a fragment
abbrev pub is_uri : Text → Bool
is_uri [] = false
is_uri (b ∷ bs) = not (b == 35)

abbrev pub is_identifier : Option Value → Bool
is_identifier (Some (text uri)) = is_uri uri
is_identifier _ = false

-- ---- each text once, where it comes first

abbrev pub is_new : List Text → Value → Bool
is_new seen (text s) = not (list_any (bytes_eq s) seen)
is_new seen _ = true

abbrev pub seen_with : List Text → Value → List Text
seen_with seen (text s) = s ∷ seen
seen_with seen _ = seen

abbrev pub once : List Text → Values → Values
once seen [] = []
once seen (v ∷ vs) = if is_new seen v then v ∷ once (seen_with seen v) vs else once (seen_with seen v) vs

-- ---- identifiers (draft-03, 5.27; draft-04 Core, 7.2; draft-06 Core, 9.2; draft-07 Core, 8.2)
-- A URI, and as its fragment a name for the schema. 2020-12 has them apart (Core, 8.2.1 and 8.2.2).

-- `#`
abbrev pub is_mark : ℕ → Bool
is_mark b = b == 35

abbrev pub some_uri : Text → Named
some_uri [] = []
some_uri (b ∷ bs) = one (codes "$id") (text (b ∷ bs))

-- a pointer is no name
abbrev pub some_name : Text → Named
some_name [] = []
some_name (b ∷ bs) =
    if is_rooted (b ∷ bs) then [] else one (codes "$anchor") (text (anchor_name (percent_decode (b ∷ bs))))

abbrev pub identifier_upgraded : Value → Named
identifier_upgraded (text t) = some_uri (before_first is_mark t) ++ some_name (after_first is_mark t)
identifier_upgraded v = one (codes "$id") v

-- ---- items (draft-03, 5.5; draft-04, 5.3.1; draft-06, 6.9; draft-07, 6.4.1; 2019-09, 9.3.1.1)

abbrev pub list_or_schema_upgraded : Value → Named
list_or_schema_upgraded (list vs) = some_items (codes "prefixItems") (item_list vs)
list_or_schema_upgraded v = one (codes "items") v

-- ---- dependencies (draft-03, 5.8; draft-04, 5.4.5; draft-06, 6.21; draft-07, 6.5.7)

-- a member that lists names, or is one
abbrev pub dependent_names : Text → Value → Named
dependent_names name (list vs) = one name (list (items (once [] (item_list vs))))
dependent_names name (text s) = one name (list (item (text s) no_items))
dependent_names name v = []

-- a member that is a schema
abbrev pub dependent_schema : Text → Value → Named
dependent_schema name (list vs) = []
dependent_schema name (text s) = []
dependent_schema name v = one name v

abbrev pub dependencies_upgraded : Value → Named
dependencies_upgraded (object ms) =
    some_members (codes "dependentRequired") (gathered_members dependent_names (member_list ms) [])
    ++ some_members (codes "dependentSchemas") (gathered_members dependent_schema (member_list ms) [])
dependencies_upgraded _ = []

-- ---- type and disallow of draft-03 (5.1, 5.25)

abbrev pub simple_types : List Text
simple_types = codes "string" ∷ codes "number" ∷ codes "integer" ∷ codes "boolean" ∷ codes "object" ∷ codes "array"
    ∷ codes "null" ∷ []

unfoldable pub is_simple_type : Text → Bool
is_simple_type name = list_any (bytes_eq name) simple_types

-- `any`, or a name that isn't known: it stands for any type
abbrev pub is_any : Value → Bool
is_any (text s) = not (is_simple_type s)
is_any (object ms) = false
is_any _ = true

-- a name of a type, or a schema
abbrev pub alternative : Value → Value
alternative (text s) = object (members (one (codes "type") (text s)))
alternative v = v

-- one of them has to hold
abbrev pub alternatives_upgraded : Values → Named
alternatives_upgraded [] = one (codes "anyOf") (list (item (truth false) no_items))
alternatives_upgraded vs =
    if list_any is_any vs then [] else one (codes "anyOf") (list (items (map alternative vs)))

-- the keywords that say it
abbrev pub types_upgraded : Value → Named
types_upgraded (text s) = if is_simple_type s then one (codes "type") (text s) else []
types_upgraded (list vs) = alternatives_upgraded (item_list vs)
types_upgraded v = alternatives_upgraded (v ∷ [])

-- ---- extends (draft-03, 5.26)

abbrev pub extends_upgraded : Value → Named
extends_upgraded (list vs) = some_items (codes "allOf") (item_list vs)
extends_upgraded v = one (codes "allOf") (list (item v no_items))

-- ---- required of draft-03 stands in the members that it speaks of (5.7)

abbrev pub required_names : Named → Values
required_names [] = []
required_names (m ∷ ms) =
    if is_true (get (codes "required") (members_of m.1)) then text m.0 ∷ required_names ms else required_names ms

abbrev pub members_found : Option Value → Named
members_found None = []
members_found (Some v) = members_of v

-- ---- contains of 2019-09 evaluates no items for `unevaluatedItems` (Core, 9.3.1.3 and 9.3.1.4); in 2020-12 it does
-- (Core, 10.3.1.3 and 11.2), but not behind `not`, which drops annotations (Core, 7.7.1.1)

abbrev pub some_value : Text → Option Value → Named
some_value name None = []
some_value name (Some v) = one name v

-- with the limits beside it
abbrev pub contains_with_limits : Named → Value → Value
contains_with_limits siblings v =
    object (members (put_all (one (codes "contains") v
    ++ (some_value (codes "maxContains") (get (codes "maxContains") siblings)
    ++ some_value (codes "minContains") (get (codes "minContains") siblings))) []))

abbrev pub negation : Value → Value
negation v = object (members (one (codes "not") v))

-- the first of the lists of schemas that isn't there; beside all of them, `contains` has no place
abbrev pub holder : Named → Text
holder siblings =
    if has_name (codes "allOf") siblings
    then (if has_name (codes "anyOf") siblings
    then (if has_name (codes "oneOf") siblings then codes "contains" else codes "oneOf") else codes "anyOf")
    else codes "allOf"

abbrev pub contains_upgraded : Named → Value → Named
contains_upgraded siblings v = one (holder siblings) (list (item (negation (negation
    (contains_with_limits siblings v))) no_items))

-- ---- $recursiveAnchor of 2019-09 (Core, 8.2.4.2.2), at the root of a resource

abbrev pub recursive_name : Value
recursive_name = text (codes "recursiveAnchor")

abbrev pub recursive_anchor : Named → Value → Named
recursive_anchor siblings v =
    if is_true (Some v) && is_identifier (get (codes "$id") siblings) then one (codes "$dynamicAnchor") recursive_name
    else []

-- ---- the table

module _ (siblings : Named) (name : Text) (v : Value) where
  abbrev pub upgraded_by : Change → Named
  upgraded_by Goes = []
  upgraded_by Identifier = identifier_upgraded v
  upgraded_by Definitions = one (codes "$defs") v
  upgraded_by ItemsChange = list_or_schema_upgraded v
  upgraded_by AdditionalItems = if is_some_list (get (codes "items") siblings) then one (codes "items") v else []
  upgraded_by Dependencies = dependencies_upgraded v
  upgraded_by Minimum =
      one (if is_true (get (codes "exclusiveMinimum") siblings) then codes "exclusiveMinimum" else codes "minimum") v
  upgraded_by Maximum =
      one (if is_true (get (codes "exclusiveMaximum") siblings) then codes "exclusiveMaximum" else codes "maximum") v
  upgraded_by Divisor = one (codes "multipleOf") v
  upgraded_by Types = types_upgraded v
  upgraded_by Disallowed = one (codes "not") (object (members (put_all (types_upgraded v) [])))
  upgraded_by Extended = extends_upgraded v
  upgraded_by Properties =
      one (codes "properties") v
      ++ some_items (codes "required") (required_names (members_found (get (codes "properties") siblings)))
  upgraded_by Contains = contains_upgraded siblings v
  upgraded_by Anchor = one (codes "$anchor") (anchor_upgraded v)
  upgraded_by RecursiveReference = one (codes "$dynamicRef") v
  upgraded_by RecursiveAnchor = recursive_anchor siblings v
  upgraded_by _ = one name v
