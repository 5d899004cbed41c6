-- What a keyword becomes is of 2020-12, where its schemas are.
use Rattle.std.proofs.Common.{◌≡◌, [], ◌∷◌, ◌++◌, Bool, true, false, not, ◌&&◌, Option, Some, None, cond, map, refl}
use Rattle.std.proofs.Common.{sym, ap, ◌∙◌, subst, codes, option_and_then}
use Rattle.std.specs.List.{after_first, before_first, list_any}
use Rattle.percent_encoding.specs.Percent.{percent_decode}
use Rattle.js_doc.specs.Value.{Value, null, truth, whole, text, list, object, Items as ItemList, no_items, item, items}
use Rattle.js_doc.specs.Value.{members, Text, Values, Named}
use Rattle.js_doc.specs.Members.{get, has_name}
use Rattle.js_doc.specs.Parts.{item_list, member_list}
use Rattle.js_doc.proofs.FiniteMaps.{get_past}
use Rattle.js_doc.proofs.PartLists.{items-item_list, member_list-members}
use Rattle.js_upgrade.specs.AnchorName.{anchor_name, anchor_upgraded}
use Rattle.js_upgrade.specs.CopyName.{is_rooted}
use Rattle.js_upgrade.specs.Current.{IsCurrent, ItemsAreCurrent}
use Rattle.js_upgrade.specs.Dialect.{is_before}
use Rattle.js_upgrade.specs.Keyword.{applicator_change, assertion_change, change_in, core_change}
use Rattle.js_upgrade.specs.Schema.{alternative, alternatives_upgraded, change_of, dependencies_upgraded}
use Rattle.js_upgrade.specs.Schema.{dependent_names, dependent_schema, extends_upgraded, gathered_members, is_any}
use Rattle.js_upgrade.specs.Schema.{is_some_list}
use Rattle.js_upgrade.specs.Schema.{identifier_upgraded, is_mark, some_name, some_uri}
use Rattle.js_upgrade.specs.Schema.{is_simple_type, is_true, list_or_schema_upgraded, members_found, one, put_all}
use Rattle.js_upgrade.specs.Schema.{required_names, some_items, some_members, types_upgraded, upgraded_by}
use Rattle.js_upgrade.specs.Schema.{contains_upgraded, contains_with_limits, is_identifier, negation, recursive_name}
use Rattle.js_upgrade.specs.Schema.{some_value}
use Rattle.js_upgrade.specs.Upgrade.{becomes, dialect_in, dialect_or, holding_in, holding_by_change, own_dialect}
use Rattle.js_upgrade.specs.declared.dialect.Dialect.{Dialect}
use Rattle.js_upgrade.specs.declared.dialect.Dialect.TheVariants.{Draft2020}
use Rattle.js_upgrade.specs.declared.keyword.Change.{Change}
use Rattle.js_upgrade.specs.declared.keyword.Change.TheVariants.{Stays, Asserts, Refers}
use Rattle.js_upgrade.specs.declared.keyword.Change.TheVariants.{HoldsOne, HoldsList, HoldsNamed}
use Rattle.js_upgrade.specs.declared.keyword.Change.TheVariants.{Goes, Identifier, Definitions, Items, AdditionalItems}
use Rattle.js_upgrade.specs.declared.keyword.Change.TheVariants.{Dependencies, Minimum, Maximum, Divisor, Types}
use Rattle.js_upgrade.specs.declared.keyword.Change.TheVariants.{Disallowed, Extended, Properties}
use Rattle.js_upgrade.specs.declared.keyword.Change.TheVariants.{Contains, Anchor, RecursiveReference, RecursiveAnchor}
use Rattle.js_upgrade.specs.declared.holding.SchemaHolding.{SchemaHolding}
use Rattle.js_upgrade.specs.declared.holding.SchemaHolding.TheVariants.{One, Listed, Named as ByName, OneOrListed}
use Rattle.js_upgrade.specs.declared.holding.SchemaHolding.TheVariants.{Nothing}
use Rattle.js_upgrade.proofs.ByCases.{is_plain}
use Rattle.js_upgrade.proofs.Agreeing.{IsFit, may_stand, stays_fit}
use Rattle.js_upgrade.proofs.Each.{Each, are_current, each_append, each_current, each_gathered, each_put_all}

-- ---- a member with a known name

held_fit : (last : Bool) (name : Text) (v : Value) (h : SchemaHolding)
    → holding_by_change (change_in Draft2020 name) ≡ h
    → may_stand last name ≡ true → IsCurrent h v → IsFit last name v
held_fit last name v h is stands c = (subst (λ k. IsCurrent k v) (sym is) c, stands)

pub nothing_current : (v : Value) → IsCurrent Nothing v
nothing_current null = tt
nothing_current (truth b) = tt
nothing_current (whole z) = tt
nothing_current (text s) = tt
nothing_current (list vs) = tt
nothing_current (object ms) = tt

listed_fit : (last : Bool) (name : Text) (vs : ItemList) → holding_by_change (change_in Draft2020 name) ≡ Listed
    → may_stand last name ≡ true → ItemsAreCurrent vs → Each (IsFit last) (some_items name (item_list vs))
listed_fit last name no_items is stands c = tt
listed_fit last name (item v vs) is stands c = (
  held_fit last name (list (items (v ∷ item_list vs))) Listed is stands
      (c.0, subst ItemsAreCurrent (sym (items-item_list vs)) c.1),
  tt,
)

-- ---- a schema without `$schema` is of 2020-12

without_schema : (ks : Named) → Each (IsFit false) ks → get (codes "$schema") ks ≡ None
without_schema [] e = refl
without_schema (m ∷ ms) e =
    get_past (codes "$schema") m ms (λ same.
    let wrong : false ≡ true = ap (may_stand false) same ∙ e.0.1 in absurd (cc))
    ∙ without_schema ms e.1

each_held : (last : Bool) (ms : Named) → Each (IsFit last) ms
    → Each (λ k v. IsCurrent (holding_by_change (change_in Draft2020 k)) v) ms
each_held last [] e = tt
each_held last (m ∷ ms) e = (e.0.0, each_held last ms e.1)

pub schema_fit : (ks : Named) → Each (IsFit false) ks → IsCurrent One (object (members ks))
schema_fit ks e = (
  ap (own_dialect Draft2020) (member_list-members ks)
      ∙ ap (λ found. dialect_or Draft2020 ks (option_and_then dialect_in found)) (without_schema ks e),
  are_current (λ name. holding_by_change (change_in Draft2020 name)) ks (each_held false ks e),
)

-- ---- identifiers

uri_fit : (last : Bool) (t : Text) → Each (IsFit last) (some_uri t)
unfolding core_change applicator_change assertion_change
uri_fit last [] = tt
uri_fit last (b ∷ bs) = (held_fit last (codes "$id") (text (b ∷ bs)) Nothing refl refl tt, tt)

name_by : (last rooted : Bool) (v : Value) → Each (IsFit last) (cond rooted [] (one (codes "$anchor") v))
unfolding core_change applicator_change assertion_change
name_by last true v = tt
name_by last false v = (held_fit last (codes "$anchor") v Nothing refl refl (nothing_current v), tt)

name_fit : (last : Bool) (t : Text) → Each (IsFit last) (some_name t)
name_fit last [] = tt
name_fit last (b ∷ bs) = name_by last (is_rooted (b ∷ bs)) (text (anchor_name (percent_decode (b ∷ bs))))

id_fit : (last : Bool) (v : Value) → Each (IsFit last) (one (codes "$id") v)
unfolding core_change applicator_change assertion_change
id_fit last v = (held_fit last (codes "$id") v Nothing refl refl (nothing_current v), tt)

identifier_fit : (last : Bool) (v : Value) → Each (IsFit last) (identifier_upgraded v)
identifier_fit last (text t) =
    each_append (IsFit last) (some_uri (before_first is_mark t)) (some_name (after_first is_mark t))
    (uri_fit last (before_first is_mark t))
    (name_fit last (after_first is_mark t))
identifier_fit last null = id_fit last null
identifier_fit last (truth b) = id_fit last (truth b)
identifier_fit last (whole z) = id_fit last (whole z)
identifier_fit last (list vs) = id_fit last (list vs)
identifier_fit last (object ms) = id_fit last (object ms)

-- ---- items

items_fit : (last : Bool) (v : Value) → IsCurrent OneOrListed v → Each (IsFit last) (list_or_schema_upgraded v)
unfolding core_change applicator_change assertion_change
items_fit last (list vs) c = listed_fit last (codes "prefixItems") vs refl refl c
items_fit last (object ms) c = (held_fit last (codes "items") (object ms) One refl refl c, tt)
items_fit last null c = (held_fit last (codes "items") null One refl refl tt, tt)
items_fit last (truth b) c = (held_fit last (codes "items") (truth b) One refl refl tt, tt)
items_fit last (whole z) c = (held_fit last (codes "items") (whole z) One refl refl tt, tt)
items_fit last (text s) c = (held_fit last (codes "items") (text s) One refl refl tt, tt)

behind_list_fit : (last there : Bool) (v : Value) → IsCurrent One v
    → Each (IsFit last) (cond there (one (codes "items") v) [])
unfolding core_change applicator_change assertion_change
behind_list_fit last true v c = (held_fit last (codes "items") v One refl refl c, tt)
behind_list_fit last false v c = tt

-- ---- dependencies

names_fit : (last : Bool) (ms : Named) → Each (IsFit last) (some_members (codes "dependentRequired") ms)
unfolding core_change applicator_change assertion_change
names_fit last [] = tt
names_fit last (m ∷ ms) =
    (held_fit last (codes "dependentRequired") (object (members (m ∷ ms))) Nothing refl refl tt, tt)

schemas_fit : (last : Bool) (ms : Named) → Each (λ k v. IsCurrent One v) ms
    → Each (IsFit last) (some_members (codes "dependentSchemas") ms)
unfolding core_change applicator_change assertion_change
schemas_fit last [] e = tt
schemas_fit last (m ∷ ms) e = (
  held_fit last (codes "dependentSchemas") (object (members (m ∷ ms))) ByName refl refl
      (are_current (λ name. One) (m ∷ ms) e),
  tt,
)

dependent_one : (name : Text) (v : Value) → IsCurrent One v → Each (λ k w. IsCurrent One w) (dependent_schema name v)
dependent_one name null c = (tt, tt)
dependent_one name (truth b) c = (tt, tt)
dependent_one name (whole z) c = (tt, tt)
dependent_one name (text s) c = tt
dependent_one name (list vs) c = tt
dependent_one name (object ms) c = (c, tt)

dependencies_fit : (last : Bool) (v : Value) → IsCurrent ByName v → Each (IsFit last) (dependencies_upgraded v)
dependencies_fit last (object ms) c =
    each_append (IsFit last) _ _ (names_fit last (gathered_members dependent_names (member_list ms) []))
    (schemas_fit last (gathered_members dependent_schema (member_list ms) [])
    (each_gathered (λ k w. IsCurrent One w) (λ k w. IsCurrent One w) dependent_schema dependent_one (member_list ms) []
    (each_current (λ name. One) ms c) tt))
dependencies_fit last null c = tt
dependencies_fit last (truth b) c = tt
dependencies_fit last (whole z) c = tt
dependencies_fit last (text s) c = tt
dependencies_fit last (list vs) c = tt

-- ---- limits

minimum_fit : (last exclusive : Bool) (v : Value)
    → Each (IsFit last) (one (cond exclusive (codes "exclusiveMinimum") (codes "minimum")) v)
unfolding core_change applicator_change assertion_change
minimum_fit last true v = (held_fit last (codes "exclusiveMinimum") v Nothing refl refl (nothing_current v), tt)
minimum_fit last false v = (held_fit last (codes "minimum") v Nothing refl refl (nothing_current v), tt)

maximum_fit : (last exclusive : Bool) (v : Value)
    → Each (IsFit last) (one (cond exclusive (codes "exclusiveMaximum") (codes "maximum")) v)
unfolding core_change applicator_change assertion_change
maximum_fit last true v = (held_fit last (codes "exclusiveMaximum") v Nothing refl refl (nothing_current v), tt)
maximum_fit last false v = (held_fit last (codes "maximum") v Nothing refl refl (nothing_current v), tt)

-- ---- types of draft-03

alternative_current : (v : Value) → IsCurrent One v → IsCurrent One (alternative v)
unfolding core_change applicator_change assertion_change
alternative_current null c = tt
alternative_current (truth b) c = tt
alternative_current (whole z) c = tt
alternative_current (text s) c = (refl, (tt, tt))
alternative_current (list vs) c = tt
alternative_current (object ms) c = c

alternatives_current : (vs : Values) → ItemsAreCurrent (items vs) → ItemsAreCurrent (items (map alternative vs))
alternatives_current [] c = tt
alternatives_current (v ∷ vs) c = (alternative_current v c.0, alternatives_current vs c.1)

any_of_fit : (last any : Bool) (vs : Values) → ItemsAreCurrent (items vs)
    → Each (IsFit last) (cond any [] (one (codes "anyOf") (list (items vs))))
unfolding core_change applicator_change assertion_change
any_of_fit last true vs c = tt
any_of_fit last false vs c = (held_fit last (codes "anyOf") (list (items vs)) Listed refl refl c, tt)

alternatives_fit : (last : Bool) (vs : Values) → ItemsAreCurrent (items vs)
    → Each (IsFit last) (alternatives_upgraded vs)
alternatives_fit last [] c = any_of_fit last false (truth false ∷ []) (tt, tt)
alternatives_fit last (v ∷ vs) c =
    any_of_fit last (list_any is_any (v ∷ vs)) (map alternative (v ∷ vs)) (alternatives_current (v ∷ vs) c)

type_fit : (last simple : Bool) (v : Value) → Each (IsFit last) (cond simple (one (codes "type") v) [])
unfolding core_change applicator_change assertion_change
type_fit last true v = (held_fit last (codes "type") v Nothing refl refl (nothing_current v), tt)
type_fit last false v = tt

types_fit : (last : Bool) (v : Value) → IsCurrent OneOrListed v → Each (IsFit last) (types_upgraded v)
types_fit last (text s) c = type_fit last (is_simple_type s) (text s)
types_fit last (list vs) c =
    alternatives_fit last (item_list vs) (subst ItemsAreCurrent (sym (items-item_list vs)) c)
types_fit last (object ms) c = alternatives_fit last (object ms ∷ []) (c, tt)
types_fit last null c = alternatives_fit last (null ∷ []) (tt, tt)
types_fit last (truth b) c = alternatives_fit last (truth b ∷ []) (tt, tt)
types_fit last (whole z) c = alternatives_fit last (whole z ∷ []) (tt, tt)

disallowed_fit : (last : Bool) (v : Value) → IsCurrent OneOrListed v
    → Each (IsFit last) (one (codes "not") (object (members (put_all (types_upgraded v) []))))
unfolding core_change applicator_change assertion_change
disallowed_fit last v c = (
  held_fit last (codes "not") (object (members (put_all (types_upgraded v) []))) One refl refl
      (schema_fit (put_all (types_upgraded v) [])
      (each_put_all (IsFit false) (types_upgraded v) [] (types_fit false v c) tt)),
  tt,
)

-- ---- extends and properties of draft-03

extends_one : (last : Bool) (v : Value) → IsCurrent One v
    → Each (IsFit last) (one (codes "allOf") (list (item v no_items)))
unfolding core_change applicator_change assertion_change
extends_one last v c = (held_fit last (codes "allOf") (list (item v no_items)) Listed refl refl (c, tt), tt)

extends_fit : (last : Bool) (v : Value) → IsCurrent OneOrListed v → Each (IsFit last) (extends_upgraded v)
unfolding core_change applicator_change assertion_change
extends_fit last (list vs) c = listed_fit last (codes "allOf") vs refl refl c
extends_fit last (object ms) c = extends_one last (object ms) c
extends_fit last null c = extends_one last null tt
extends_fit last (truth b) c = extends_one last (truth b) tt
extends_fit last (whole z) c = extends_one last (whole z) tt
extends_fit last (text s) c = extends_one last (text s) tt

required_fit : (last : Bool) (vs : Values) → Each (IsFit last) (some_items (codes "required") vs)
unfolding core_change applicator_change assertion_change
required_fit last [] = tt
required_fit last (v ∷ vs) =
    (held_fit last (codes "required") (list (items (v ∷ vs))) Nothing refl refl tt, tt)

properties_fit : (last : Bool) (v : Value) (vs : Values) → IsCurrent ByName v
    → Each (IsFit last) (one (codes "properties") v ++ some_items (codes "required") vs)
unfolding core_change applicator_change assertion_change
properties_fit last v vs c = (held_fit last (codes "properties") v ByName refl refl c, required_fit last vs)

-- ---- contains of 2019-09

limit_fit : (last : Bool) (found : Option Value) → Each (IsFit last) (some_value (codes "maxContains") found)
unfolding core_change applicator_change assertion_change
limit_fit last None = tt
limit_fit last (Some v) = (held_fit last (codes "maxContains") v Nothing refl refl (nothing_current v), tt)

least_fit : (last : Bool) (found : Option Value) → Each (IsFit last) (some_value (codes "minContains") found)
unfolding core_change applicator_change assertion_change
least_fit last None = tt
least_fit last (Some v) = (held_fit last (codes "minContains") v Nothing refl refl (nothing_current v), tt)

own_contains : (last : Bool) (v : Value) → IsCurrent One v → Each (IsFit last) (one (codes "contains") v)
unfolding core_change applicator_change assertion_change
own_contains last v c = (held_fit last (codes "contains") v One refl refl c, tt)

counted_current : (siblings : Named) (v : Value) → IsCurrent One v → IsCurrent One (contains_with_limits siblings v)
counted_current siblings v c =
    let most = some_value (codes "maxContains") (get (codes "maxContains") siblings) in
    let least = some_value (codes "minContains") (get (codes "minContains") siblings) in
    let all = one (codes "contains") v ++ (most ++ least) in
    schema_fit (put_all all [])
    (each_put_all (IsFit false) all [] (each_append (IsFit false) (one (codes "contains") v) (most ++ least)
    (own_contains false v c) (each_append (IsFit false) most least
    (limit_fit false (get (codes "maxContains") siblings)) (least_fit false (get (codes "minContains") siblings)))) tt)

negation_current : (v : Value) → IsCurrent One v → IsCurrent One (negation v)
unfolding core_change applicator_change assertion_change
negation_current v c = schema_fit (one (codes "not") v) (held_fit false (codes "not") v One refl refl c, tt)

held_by : (last a b c : Bool) (v : Value) → IsCurrent One v → Each (IsFit last)
    (one (cond a (cond b (cond c (codes "contains") (codes "oneOf")) (codes "anyOf")) (codes "allOf"))
    (list (item v no_items)))
unfolding core_change applicator_change assertion_change
held_by last false b c v is = (held_fit last (codes "allOf") (list (item v no_items)) Listed refl refl (is, tt), tt)
held_by last true false c v is =
    (held_fit last (codes "anyOf") (list (item v no_items)) Listed refl refl (is, tt), tt)
held_by last true true false v is =
    (held_fit last (codes "oneOf") (list (item v no_items)) Listed refl refl (is, tt), tt)
held_by last true true true v is =
    (held_fit last (codes "contains") (list (item v no_items)) One refl refl tt, tt)

contains_fit : (last : Bool) (siblings : Named) (v : Value) → IsCurrent One v
    → Each (IsFit last) (contains_upgraded siblings v)
contains_fit last siblings v c =
    held_by last (has_name (codes "allOf") siblings) (has_name (codes "anyOf") siblings)
    (has_name (codes "oneOf") siblings) (negation (negation (contains_with_limits siblings v)))
    (negation_current (negation (contains_with_limits siblings v))
    (negation_current (contains_with_limits siblings v) (counted_current siblings v c)))

-- ---- $recursiveAnchor of 2019-09

anchor_fit : (last there : Bool) (v : Value) → Each (IsFit last) (cond there (one (codes "$dynamicAnchor") v) [])
unfolding core_change applicator_change assertion_change
anchor_fit last true v = (held_fit last (codes "$dynamicAnchor") v Nothing refl refl (nothing_current v), tt)
anchor_fit last false v = tt

-- ---- each change

module _ (last : Bool) (siblings : Named) (name : Text) (v : Value) where
  outcome : (change : Change) → (is_plain change ≡ true → IsFit last name v) → IsCurrent (holding_by_change change) v
      → Each (IsFit last) (upgraded_by siblings name v change)
  unfolding core_change applicator_change assertion_change
  outcome Stays plain c = (plain refl, tt)
  outcome Asserts plain c = (plain refl, tt)
  outcome Refers plain c = (plain refl, tt)
  outcome HoldsOne plain c = (plain refl, tt)
  outcome HoldsList plain c = (plain refl, tt)
  outcome HoldsNamed plain c = (plain refl, tt)
  outcome Goes plain c = tt
  outcome Identifier plain c = identifier_fit last v
  outcome Definitions plain c = (held_fit last (codes "$defs") v ByName refl refl c, tt)
  outcome Items plain c = items_fit last v c
  outcome AdditionalItems plain c = behind_list_fit last (is_some_list (get (codes "items") siblings)) v c
  outcome Dependencies plain c = dependencies_fit last v c
  outcome Minimum plain c = minimum_fit last (is_true (get (codes "exclusiveMinimum") siblings)) v
  outcome Maximum plain c = maximum_fit last (is_true (get (codes "exclusiveMaximum") siblings)) v
  outcome Divisor plain c = (held_fit last (codes "multipleOf") v Nothing refl refl (nothing_current v), tt)
  outcome Types plain c = types_fit last v c
  outcome Disallowed plain c = disallowed_fit last v c
  outcome Extended plain c = extends_fit last v c
  outcome Properties plain c =
      properties_fit last v (required_names (members_found (get (codes "properties") siblings))) c
  outcome Contains plain c = contains_fit last siblings v c
  outcome Anchor plain c = name_by last false (anchor_upgraded v)
  outcome RecursiveReference plain c =
      (held_fit last (codes "$dynamicRef") v Nothing refl refl (nothing_current v), tt)
  outcome RecursiveAnchor plain c =
      anchor_fit last (is_true (Some v) && is_identifier (get (codes "$id") siblings)) recursive_name

pub keyword_fit : (d : Dialect) (siblings : Named) (name : Text) (v : Value) → IsCurrent (holding_in d siblings name) v
    → Each (IsFit (not (is_before d Draft2020))) (becomes d siblings name v)
keyword_fit d siblings name v c =
    outcome (not (is_before d Draft2020)) siblings name v (change_of d siblings name)
    (λ plain. stays_fit d siblings name v plain c) c
