-- Each keyword that a keyword becomes comes from it.
use Rattle.std.proofs.Common.{◌≡◌, List, [], ◌∷◌, Bool, true, false, ◌&&◌, Some, cond, refl}
use Rattle.std.proofs.Common.{map, codes, bytes_eq}
use Rattle.std.specs.List.{after_first, before_first, list_any}
use Rattle.std.proofs.lemmas.Bool.{and_parts}
use Rattle.percent_encoding.specs.Percent.{percent_decode}
use Rattle.js_doc.specs.Members.{get}
use Rattle.js_doc.specs.Parts.{item_list, member_list}
use Rattle.js_doc.specs.Value.{Value, null, truth, whole, text, list, object, items}
use Rattle.js_doc.specs.Value.{Text, Values, Named}
use Rattle.js_doc.proofs.TokenLookup.{is_text-sound}
use Rattle.js_upgrade.specs.AnchorName.{anchor_name}
use Rattle.js_upgrade.specs.CopyName.{is_rooted}
use Rattle.js_upgrade.specs.Schema.{alternative, alternatives_upgraded, dependencies_upgraded, dependent_names}
use Rattle.js_upgrade.specs.Schema.{dependent_schema, extends_upgraded, gathered_members, identifier_upgraded, is_any}
use Rattle.js_upgrade.specs.Schema.{is_some_list}
use Rattle.js_upgrade.specs.Schema.{is_mark, is_simple_type, is_true, list_or_schema_upgraded}
use Rattle.js_upgrade.specs.Schema.{members_found}
use Rattle.js_upgrade.specs.Schema.{one, required_names, some_items, some_members, some_name, some_uri}
use Rattle.js_upgrade.specs.Schema.{holder, is_identifier, recursive_name, types_upgraded, upgraded_by}
use Rattle.js_upgrade.specs.declared.keyword.Change.{Change}
use Rattle.js_upgrade.specs.declared.keyword.Change.TheVariants.{Stays, Asserts, Refers}
use Rattle.js_upgrade.specs.declared.keyword.Change.TheVariants.{HoldsOne, HoldsList, HoldsNamed}
use Rattle.js_upgrade.specs.declared.keyword.Change.TheVariants.{Goes, Identifier, Definitions, Items, AdditionalItems}
use Rattle.js_upgrade.specs.declared.keyword.Change.TheVariants.{Dependencies, Minimum, Maximum, Divisor, Types}
use Rattle.js_upgrade.specs.declared.keyword.Change.TheVariants.{Disallowed, Extended, Properties}
use Rattle.js_upgrade.specs.declared.keyword.Change.TheVariants.{Contains, Anchor, RecursiveReference, RecursiveAnchor}
use Rattle.js_upgrade.proofs.ByCases.{is_plain}
use Rattle.js_upgrade.proofs.Each.{Each, each_append}
use Rattle.js_upgrade.proofs.Origins.{all_from, outputs}

-- the first two names, and the rest
pub from_first : (f : Text → Text) (k n : Text) (ns : List Text) → all_from f k (n ∷ ns) ≡ true → f n ≡ k
from_first f k n ns e = is_text-sound (f n) k (and_parts (bytes_eq (f n) k) (all_from f k ns) e).0

pub from_second : (f : Text → Text) (k n m : Text) (ns : List Text) → all_from f k (n ∷ m ∷ ns) ≡ true → f m ≡ k
from_second f k n m ns e = from_first f k m ns (and_parts (bytes_eq (f n) k) (all_from f k (m ∷ ns)) e).1

module _ (f : Text → Text) (k : Text) where
  abbrev AllFrom : Named → Type 0
  AllFrom ms = Each (λ n w. f n ≡ k) ms

  uri_from : (t : Text) → f (codes "$id") ≡ k → AllFrom (some_uri t)
  uri_from [] e = tt
  uri_from (b ∷ bs) e = (e, tt)

  choice_from : (b : Bool) (n : Text) (v : Value) → f n ≡ k → AllFrom (cond b (one n v) [])
  choice_from true n v e = (e, tt)
  choice_from false n v e = tt

  either_from : (b : Bool) (n m : Text) (v : Value) → f n ≡ k → f m ≡ k → AllFrom (one (cond b n m) v)
  either_from true n m v e g = (e, tt)
  either_from false n m v e g = (g, tt)

  items_from : (n : Text) (vs : Values) → f n ≡ k → AllFrom (some_items n vs)
  items_from n [] e = tt
  items_from n (v ∷ vs) e = (e, tt)

  members_from : (n : Text) (ms : Named) → f n ≡ k → AllFrom (some_members n ms)
  members_from n [] e = tt
  members_from n (m ∷ ms) e = (e, tt)

  name_by : (rooted : Bool) (v : Value) → f (codes "$anchor") ≡ k → AllFrom (cond rooted [] (one (codes "$anchor") v))
  name_by true v g = tt
  name_by false v g = (g, tt)

  name_from : (t : Text) → f (codes "$anchor") ≡ k → AllFrom (some_name t)
  name_from [] g = tt
  name_from (b ∷ bs) g = name_by (is_rooted (b ∷ bs)) (text (anchor_name (percent_decode (b ∷ bs)))) g

  identifier_from : (v : Value) → f (codes "$id") ≡ k → f (codes "$anchor") ≡ k → AllFrom (identifier_upgraded v)
  identifier_from (text t) e g =
      each_append (λ n w. f n ≡ k) (some_uri (before_first is_mark t)) (some_name (after_first is_mark t))
      (uri_from (before_first is_mark t) e)
      (name_from (after_first is_mark t) g)
  identifier_from null e g = (e, tt)
  identifier_from (truth b) e g = (e, tt)
  identifier_from (whole z) e g = (e, tt)
  identifier_from (list vs) e g = (e, tt)
  identifier_from (object ms) e g = (e, tt)

  list_or_schema_from : (listed : Bool) (v : Value) → is_some_list (Some v) ≡ listed
      → f (cond listed (codes "prefixItems") (codes "items")) ≡ k → AllFrom (list_or_schema_upgraded v)
  list_or_schema_from true (list vs) is e = items_from (codes "prefixItems") (item_list vs) e
  list_or_schema_from false (list vs) is e = absurd (cc)
  list_or_schema_from true null is e = absurd (cc)
  list_or_schema_from true (truth b) is e = absurd (cc)
  list_or_schema_from true (whole z) is e = absurd (cc)
  list_or_schema_from true (text t) is e = absurd (cc)
  list_or_schema_from true (object ms) is e = absurd (cc)
  list_or_schema_from false null is e = (e, tt)
  list_or_schema_from false (truth b) is e = (e, tt)
  list_or_schema_from false (whole z) is e = (e, tt)
  list_or_schema_from false (text t) is e = (e, tt)
  list_or_schema_from false (object ms) is e = (e, tt)

  behind_from : (listed there : Bool) (v : Value) → there ≡ listed
      → all_from f k (cond listed (codes "items" ∷ []) []) ≡ true
      → AllFrom (cond there (one (codes "items") v) [])
  behind_from true true v is e = (from_first f k (codes "items") [] e, tt)
  behind_from true false v is e = tt
  behind_from false true v is e = absurd (cc)
  behind_from false false v is e = tt

  dependencies_from : (v : Value) → f (codes "dependentRequired") ≡ k → f (codes "dependentSchemas") ≡ k
      → AllFrom (dependencies_upgraded v)
  dependencies_from (object ms) e g =
      let names = gathered_members dependent_names (member_list ms) [] in
      let schemas = gathered_members dependent_schema (member_list ms) [] in
      each_append (λ n w. f n ≡ k) (some_members (codes "dependentRequired") names)
      (some_members (codes "dependentSchemas") schemas) (members_from (codes "dependentRequired") names e)
      (members_from (codes "dependentSchemas") schemas g)
  dependencies_from null e g = tt
  dependencies_from (truth b) e g = tt
  dependencies_from (whole z) e g = tt
  dependencies_from (text t) e g = tt
  dependencies_from (list vs) e g = tt

  some_from : (any : Bool) (v : Value) → f (codes "anyOf") ≡ k → AllFrom (cond any [] (one (codes "anyOf") v))
  some_from true v e = tt
  some_from false v e = (e, tt)

  alternatives_from : (vs : Values) → f (codes "anyOf") ≡ k → AllFrom (alternatives_upgraded vs)
  alternatives_from [] e = (e, tt)
  alternatives_from (v ∷ vs) e =
      some_from (list_any is_any (v ∷ vs)) (list (items (map alternative (v ∷ vs)))) e

  types_from : (v : Value) → f (codes "type") ≡ k → f (codes "anyOf") ≡ k → AllFrom (types_upgraded v)
  types_from (text t) e g = choice_from (is_simple_type t) (codes "type") (text t) e
  types_from (list vs) e g = alternatives_from (item_list vs) g
  types_from null e g = alternatives_from (null ∷ []) g
  types_from (truth b) e g = alternatives_from (truth b ∷ []) g
  types_from (whole z) e g = alternatives_from (whole z ∷ []) g
  types_from (object ms) e g = alternatives_from (object ms ∷ []) g

  extends_from : (v : Value) → f (codes "allOf") ≡ k → AllFrom (extends_upgraded v)
  extends_from (list vs) e = items_from (codes "allOf") (item_list vs) e
  extends_from null e = (e, tt)
  extends_from (truth b) e = (e, tt)
  extends_from (whole z) e = (e, tt)
  extends_from (text t) e = (e, tt)
  extends_from (object ms) e = (e, tt)

  -- ---- each change

  pub each_from : (siblings : Named) (listed : Bool) (v : Value) → is_some_list (get (codes "items") siblings) ≡ listed
      → (change : Change) → all_from f k (outputs listed change) ≡ true → (is_plain change ≡ true → f k ≡ k)
      → (change ≡ Items → is_some_list (Some v) ≡ listed) → (change ≡ Contains → f (holder siblings) ≡ k)
      → AllFrom (upgraded_by siblings k v change)
  each_from siblings listed v is Stays e plain same held = (plain refl, tt)
  each_from siblings listed v is Asserts e plain same held = (plain refl, tt)
  each_from siblings listed v is Refers e plain same held = (plain refl, tt)
  each_from siblings listed v is HoldsOne e plain same held = (plain refl, tt)
  each_from siblings listed v is HoldsList e plain same held = (plain refl, tt)
  each_from siblings listed v is HoldsNamed e plain same held = (plain refl, tt)
  each_from siblings listed v is Goes e plain same held = tt
  each_from siblings listed v is Identifier e plain same held =
      identifier_from v (from_first f k (codes "$id") (codes "$anchor" ∷ []) e)
      (from_second f k (codes "$id") (codes "$anchor") [] e)
  each_from siblings listed v is Definitions e plain same held = (from_first f k (codes "$defs") [] e, tt)
  each_from siblings listed v is Items e plain same held =
      list_or_schema_from listed v (same refl)
      (from_first f k (cond listed (codes "prefixItems") (codes "items")) [] e)
  each_from siblings listed v is AdditionalItems e plain same held =
      behind_from listed (is_some_list (get (codes "items") siblings)) v is e
  each_from siblings listed v is Dependencies e plain same held =
      dependencies_from v (from_first f k (codes "dependentRequired") (codes "dependentSchemas" ∷ []) e)
      (from_second f k (codes "dependentRequired") (codes "dependentSchemas") [] e)
  each_from siblings listed v is Minimum e plain same held =
      either_from (is_true (get (codes "exclusiveMinimum") siblings)) (codes "exclusiveMinimum") (codes "minimum") v
      (from_first f k (codes "exclusiveMinimum") (codes "minimum" ∷ []) e)
      (from_second f k (codes "exclusiveMinimum") (codes "minimum") [] e)
  each_from siblings listed v is Maximum e plain same held =
      either_from (is_true (get (codes "exclusiveMaximum") siblings)) (codes "exclusiveMaximum") (codes "maximum") v
      (from_first f k (codes "exclusiveMaximum") (codes "maximum" ∷ []) e)
      (from_second f k (codes "exclusiveMaximum") (codes "maximum") [] e)
  each_from siblings listed v is Divisor e plain same held = (from_first f k (codes "multipleOf") [] e, tt)
  each_from siblings listed v is Types e plain same held =
      types_from v (from_first f k (codes "type") (codes "anyOf" ∷ []) e)
      (from_second f k (codes "type") (codes "anyOf") [] e)
  each_from siblings listed v is Disallowed e plain same held = (from_first f k (codes "not") [] e, tt)
  each_from siblings listed v is Extended e plain same held = extends_from v (from_first f k (codes "allOf") [] e)
  each_from siblings listed v is Properties e plain same held = (
    from_first f k (codes "properties") (codes "required" ∷ []) e,
    items_from (codes "required") (required_names (members_found (get (codes "properties") siblings)))
        (from_second f k (codes "properties") (codes "required") [] e),
  )
  each_from siblings listed v is Contains e plain same held = (held refl, tt)
  each_from siblings listed v is Anchor e plain same held = (from_first f k (codes "$anchor") [] e, tt)
  each_from siblings listed v is RecursiveReference e plain same held =
      (from_first f k (codes "$dynamicRef") [] e, tt)
  each_from siblings listed v is RecursiveAnchor e plain same held =
      choice_from (is_true (Some v) && is_identifier (get (codes "$id") siblings)) (codes "$dynamicAnchor")
      recursive_name (from_first f k (codes "$dynamicAnchor") [] e)
