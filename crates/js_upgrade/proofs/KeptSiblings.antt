-- Where the references of a schema have been rewritten, its keywords become the same: what becomes of one depends on
-- nothing that has changed beside it.
use Rattle.std.proofs.Common.{◌≡◌, List, [], ◌∷◌, ◌++◌, true, not, ◌&&◌, Option, Some, None, cond, codes, is_some}
use Rattle.std.proofs.Common.{option_and_then, option_map, refl, ap, ap₂, ◌∙◌}
use Rattle.url.specs.Parts.{Parts}
use Rattle.js_doc.specs.Members.{get, has_name}
use Rattle.js_doc.specs.Parts.{member_list, members_of}
use Rattle.js_doc.specs.Value.{Value, null, truth, whole, text, list, object, Members, no_members, member, members}
use Rattle.js_doc.specs.Value.{item, no_items, Text, Named}
use Rattle.js_doc.proofs.PartLists.{member_list-members}
use Rattle.js_upgrade.specs.Dialect.{is_before}
use Rattle.js_upgrade.specs.Reference.{as_it_is, members_relocated, relocated}
use Rattle.js_upgrade.specs.Resource.{Resource, own_base}
use Rattle.js_upgrade.specs.Schema.{beside_reference, change_of, contains_with_limits, hides, holder, is_identifier}
use Rattle.js_upgrade.specs.Schema.{is_some_list, is_true, members_found, negation, one, recursive_name, required_names}
use Rattle.js_upgrade.specs.Schema.{some_items, some_value, upgraded_by, put_all}
use Rattle.js_upgrade.specs.Keyword.{change_in}
use Rattle.js_upgrade.specs.Upgrade.{becomes, dialect_in, dialect_or, holding_by_change, identifier, identifies}
use Rattle.js_upgrade.specs.Upgrade.{own_dialect}
use Rattle.js_upgrade.specs.declared.dialect.Dialect.{Dialect}
use Rattle.js_upgrade.specs.declared.dialect.Dialect.TheVariants.{Draft2019}
use Rattle.js_upgrade.specs.declared.keyword.Change.{Change}
use Rattle.js_upgrade.specs.declared.keyword.Change.TheVariants.{Stays, Asserts, Refers}
use Rattle.js_upgrade.specs.declared.keyword.Change.TheVariants.{HoldsOne, HoldsList, HoldsNamed}
use Rattle.js_upgrade.specs.declared.keyword.Change.TheVariants.{Goes, Identifier, Definitions, Items, AdditionalItems}
use Rattle.js_upgrade.specs.declared.keyword.Change.TheVariants.{Dependencies, Minimum, Maximum, Divisor, Types}
use Rattle.js_upgrade.specs.declared.keyword.Change.TheVariants.{Disallowed, Extended, Properties}
use Rattle.js_upgrade.specs.declared.keyword.Change.TheVariants.{Contains, Anchor, RecursiveReference, RecursiveAnchor}
use Rattle.js_upgrade.specs.declared.holding.SchemaHolding.{SchemaHolding}
use Rattle.js_upgrade.specs.declared.holding.SchemaHolding.TheVariants.{One, Listed, Named as ByName, OneOrListed}
use Rattle.js_upgrade.specs.declared.holding.SchemaHolding.TheVariants.{Nothing}
use Rattle.js_upgrade.proofs.ByCases.{by_dialect, is_no_reference}
use Rattle.js_upgrade.proofs.KeptArguments.{are_kept, is_named, keeps_names, split}
use Rattle.js_upgrade.proofs.Relocated.{argument_of, key_got, nothing_relocated, plain_argument, schema_got}
use Rattle.js_upgrade.proofs.Relocated.{schema_got_as}
use Rattle.js_upgrade.proofs.Relocated.{schema_members}

still_there : (f : Value → Value) (found : Option Value) → is_some (option_map f found) ≡ is_some found
still_there f None = refl
still_there f (Some v) = refl

module _ (all : List Resource) where
  -- ---- a list stays one

  stays_list : (h : SchemaHolding) (d : Dialect) (base : Parts) (v : Value)
      → is_some_list (Some (relocated all h d base v)) ≡ is_some_list (Some v)
  stays_list One d base null = refl
  stays_list One d base (truth b) = refl
  stays_list One d base (whole z) = refl
  stays_list One d base (text t) = refl
  stays_list One d base (list vs) = refl
  stays_list One d base (object ms) = refl
  stays_list Listed d base null = refl
  stays_list Listed d base (truth b) = refl
  stays_list Listed d base (whole z) = refl
  stays_list Listed d base (text t) = refl
  stays_list Listed d base (list vs) = refl
  stays_list Listed d base (object ms) = refl
  stays_list ByName d base null = refl
  stays_list ByName d base (truth b) = refl
  stays_list ByName d base (whole z) = refl
  stays_list ByName d base (text t) = refl
  stays_list ByName d base (list vs) = refl
  stays_list ByName d base (object ms) = refl
  stays_list OneOrListed d base null = refl
  stays_list OneOrListed d base (truth b) = refl
  stays_list OneOrListed d base (whole z) = refl
  stays_list OneOrListed d base (text t) = refl
  stays_list OneOrListed d base (list vs) = refl
  stays_list OneOrListed d base (object ms) = refl
  stays_list Nothing d base null = refl
  stays_list Nothing d base (truth b) = refl
  stays_list Nothing d base (whole z) = refl
  stays_list Nothing d base (text t) = refl
  stays_list Nothing d base (list vs) = refl
  stays_list Nothing d base (object ms) = refl

  found_list : (change : Change) (d : Dialect) (base : Parts) (found : Option Value) → is_no_reference change ≡ true
      → is_some_list (option_map (argument_of all change d base) found) ≡ is_some_list found
  found_list change d base None e = refl
  found_list change d base (Some v) e =
      ap (λ w. is_some_list (Some w)) (plain_argument all change d base v e)
      ∙ stays_list (holding_by_change change) d base v

  -- ---- the names that draft-03 requires

  required_in : (d : Dialect) (base : Parts) (v : Value)
      → get (codes "required") (members_of (relocated all One d base v)) ≡ get (codes "required") (members_of v)
  required_in d base (object ms) =
      ap (get (codes "required")) (member_list-members (schema_members all d base ms))
      ∙ key_got all (codes "required") are_kept.required d base ms
  required_in d base null = refl
  required_in d base (truth b) = refl
  required_in d base (whole z) = refl
  required_in d base (text t) = refl
  required_in d base (list vs) = refl

  required_by_members : (d : Dialect) (base : Parts) (ms : Members)
      → required_names (members_relocated all (λ name. One) as_it_is d base ms) ≡ required_names (member_list ms)
  required_by_members d base no_members = refl
  required_by_members d base (member name v ms) =
      ap₂ (λ b names. cond b (text name ∷ names) names) (ap is_true (required_in d base v))
      (required_by_members d base ms)

  required_named : (d : Dialect) (base : Parts) (v : Value)
      → required_names (members_of (relocated all ByName d base v)) ≡ required_names (members_of v)
  required_named d base (object ms) =
      ap required_names (member_list-members (members_relocated all (λ name. One) as_it_is d base ms))
      ∙ required_by_members d base ms
  required_named d base null = refl
  required_named d base (truth b) = refl
  required_named d base (whole z) = refl
  required_named d base (text t) = refl
  required_named d base (list vs) = refl

  required_held : (h : SchemaHolding) (d : Dialect) (base : Parts) (v : Value) → is_named h ≡ true
      → required_names (members_of (relocated all h d base v)) ≡ required_names (members_of v)
  required_held ByName d base v e = required_named d base v
  required_held Nothing d base v e = ap (λ w. required_names (members_of w)) (nothing_relocated all d base v)
  required_held One d base v e = absurd (cc)
  required_held Listed d base v e = absurd (cc)
  required_held OneOrListed d base v e = absurd (cc)

  required_found : (change : Change) (d : Dialect) (base : Parts) (found : Option Value) → keeps_names change ≡ true
      → required_names (members_found (option_map (argument_of all change d base) found))
      ≡ required_names (members_found found)
  required_found change d base None e = refl
  required_found change d base (Some v) e =
      let parts = split (is_no_reference change) (is_named (holding_by_change change)) e in
      ap (λ w. required_names (members_of w)) (plain_argument all change d base v parts.0)
      ∙ required_held (holding_by_change change) d base v parts.1

  -- ---- a schema

  module _ (d : Dialect) (base : Parts) (ms : Members) where
    abbrev old : Named
    old = member_list ms

    abbrev new : Named
    new = schema_members all d base ms

    there : (k : Text) → has_name k new ≡ has_name k old
    there k =
        let own = own_dialect d old in
        ap is_some (schema_got_as all d base ms k)
        ∙ still_there (argument_of all (change_of own old k) own (own_base own base old)) (get k old)

    hides_so : (e : Dialect) → hides e new ≡ hides e old
    hides_so e = ap (λ b. is_before e Draft2019 && b) (there (codes "$ref"))

    pub change_so : (e : Dialect) (k : Text) → change_of e new k ≡ change_of e old k
    change_so e k = ap (λ b. cond b (beside_reference (change_in e k)) (change_in e k)) (hides_so e)

    identifier_got : (e : Dialect) → get (identifier e) new ≡ get (identifier e) old
    identifier_got e =
        let old_id = key_got all (codes "id") are_kept.id d base ms in
        let id = key_got all (codes "$id") are_kept.dollar_id d base ms in
        by_dialect (λ f. get (identifier f) new ≡ get (identifier f) old) old_id old_id id id id id e

    identifies_so : (e : Dialect) → identifies e new ≡ identifies e old
    identifies_so e = ap₂ (λ found b. is_identifier found && not b) (identifier_got e) (hides_so e)

    dialect_so : (e : Dialect) (found : Option Dialect) → dialect_or e new found ≡ dialect_or e old found
    dialect_so e None = refl
    dialect_so e (Some f) = ap (λ b. cond b f e) (identifies_so f)

    -- it is of the same dialect
    pub own_so : (e : Dialect) → own_dialect e new ≡ own_dialect e old
    own_so e =
        ap (λ found. dialect_or e new (option_and_then dialect_in found)) (schema_got all d base ms)
        ∙ dialect_so e (option_and_then dialect_in (get (codes "$schema") old))

    holder_so : holder new ≡ holder old
    holder_so =
        ap (λ b. cond b (cond (has_name (codes "anyOf") new) (cond (has_name (codes "oneOf") new)
        (codes "contains") (codes "oneOf")) (codes "anyOf")) (codes "allOf")) (there (codes "allOf"))
        ∙ ap (λ b. cond (has_name (codes "allOf") old) (cond b (cond (has_name (codes "oneOf") new)
        (codes "contains") (codes "oneOf")) (codes "anyOf")) (codes "allOf")) (there (codes "anyOf"))
        ∙ ap (λ b. cond (has_name (codes "allOf") old) (cond (has_name (codes "anyOf") old) (cond b
        (codes "contains") (codes "oneOf")) (codes "anyOf")) (codes "allOf")) (there (codes "oneOf"))

    contains_so : (v : Value) → contains_with_limits new v ≡ contains_with_limits old v
    contains_so v =
        ap₂ (λ most least. object (members (put_all (one (codes "contains") v
        ++ (some_value (codes "maxContains") most ++ some_value (codes "minContains") least)) [])))
        (key_got all (codes "maxContains") are_kept.max_contains d base ms)
        (key_got all (codes "minContains") are_kept.min_contains d base ms)

    list_so : is_some_list (get (codes "items") new) ≡ is_some_list (get (codes "items") old)
    list_so =
        let own = own_dialect d old in
        ap is_some_list (schema_got_as all d base ms (codes "items"))
        ∙ found_list (change_of own old (codes "items")) own (own_base own base old) (get (codes "items") old)
        (are_kept.items own (hides own old))

    required_so : required_names (members_found (get (codes "properties") new))
        ≡ required_names (members_found (get (codes "properties") old))
    required_so =
        let own = own_dialect d old in
        ap (λ found. required_names (members_found found)) (schema_got_as all d base ms (codes "properties"))
        ∙ required_found (change_of own old (codes "properties")) own (own_base own base old)
        (get (codes "properties") old) (are_kept.properties own (hides own old))

    upgraded_so : (k : Text) (v : Value) (change : Change) → upgraded_by new k v change ≡ upgraded_by old k v change
    upgraded_so k v AdditionalItems = ap (λ b. cond b (one (codes "items") v) []) list_so
    upgraded_so k v Minimum =
        ap (λ found. one (cond (is_true found) (codes "exclusiveMinimum") (codes "minimum")) v)
        (key_got all (codes "exclusiveMinimum") are_kept.exclusive_minimum d base ms)
    upgraded_so k v Maximum =
        ap (λ found. one (cond (is_true found) (codes "exclusiveMaximum") (codes "maximum")) v)
        (key_got all (codes "exclusiveMaximum") are_kept.exclusive_maximum d base ms)
    upgraded_so k v Properties =
        ap (λ names. one (codes "properties") v ++ some_items (codes "required") names) required_so
    upgraded_so k v Contains =
        ap₂ (λ name w. one name (list (item (negation (negation w)) no_items))) holder_so (contains_so v)
    upgraded_so k v RecursiveAnchor =
        ap (λ found. cond (is_true (Some v) && is_identifier found) (one (codes "$dynamicAnchor") recursive_name) [])
        (key_got all (codes "$id") are_kept.dollar_id d base ms)
    upgraded_so k v Stays = refl
    upgraded_so k v Asserts = refl
    upgraded_so k v Refers = refl
    upgraded_so k v HoldsOne = refl
    upgraded_so k v HoldsList = refl
    upgraded_so k v HoldsNamed = refl
    upgraded_so k v Goes = refl
    upgraded_so k v Identifier = refl
    upgraded_so k v Definitions = refl
    upgraded_so k v Items = refl
    upgraded_so k v Dependencies = refl
    upgraded_so k v Divisor = refl
    upgraded_so k v Types = refl
    upgraded_so k v Disallowed = refl
    upgraded_so k v Extended = refl
    upgraded_so k v Anchor = refl
    upgraded_so k v RecursiveReference = refl

    -- a keyword becomes the same
    pub becomes_so : (e : Dialect) (k : Text) (v : Value) → becomes e new k v ≡ becomes e old k v
    becomes_so e k v =
        ap (upgraded_by new k v) (change_so e k) ∙ upgraded_so k v (change_of e old k)
