-- What was upgraded is of 2020-12, and stays as it is.
use Rattle.std.proofs.Common.{◌≡◌, [], Bool, true, false, not, ◌&&◌, Option, Some, None, cond, refl, sym, ap, ap₂}
use Rattle.std.proofs.Common.{◌∙◌, subst, codes, option_and_then, option_map, is_some, Ordering, Less, Equal, Greater}
use Rattle.std.specs.Ordering.{match_ordering}
use Rattle.js_doc.specs.Lawful.{IsLawful}
use Rattle.js_doc.specs.Value.{Value, null, truth, whole, text, list, object, Items, no_items, item, items}
use Rattle.js_doc.specs.Value.{Members, no_members, member, members, Text, Named}
use Rattle.js_doc.specs.Members.{get, name_cmp, put, IsAscending, NamesAscend, NamesAscendInItems}
use Rattle.js_doc.specs.Members.{NamesAscendInMembers}
use Rattle.js_doc.specs.Parts.{member_list}
use Rattle.js_doc.proofs.FiniteMaps.{get-put, name_equal}
use Rattle.js_doc.proofs.PartLists.{member_list-members, members-member_list}
use Rattle.js_upgrade.specs.Current.{IsCurrent, ItemsAreCurrent}
use Rattle.js_upgrade.specs.Dialect.{is_before, version_named}
use Rattle.js_upgrade.specs.Keyword.{applicator_change, assertion_change, change_in, core_change}
use Rattle.js_upgrade.specs.Laws.{TwiceIsOnce}
use Rattle.js_upgrade.specs.Upgrade.{becomes, declared, dialect_found, dialect_in, dialect_or, document_dialect}
use Rattle.js_upgrade.specs.Schema.{is_identifier}
use Rattle.js_upgrade.specs.Upgrade.{document_upgraded, holding_in, holding_by_change, identifier, identifies}
use Rattle.js_upgrade.specs.Upgrade.{items_upgraded, keywords_upgraded, members_upgraded, own_dialect, root_upgraded}
use Rattle.js_upgrade.specs.Upgrade.{schema_uri, upgraded, with_schema_uri}
use Rattle.js_upgrade.specs.declared.dialect.Dialect.{Dialect}
use Rattle.js_upgrade.specs.declared.dialect.Dialect.TheVariants.{Draft03, Draft04, Draft06}
use Rattle.js_upgrade.specs.declared.dialect.Dialect.TheVariants.{Draft07, Draft2019, Draft2020}
use Rattle.js_upgrade.specs.declared.holding.SchemaHolding.{SchemaHolding}
use Rattle.js_upgrade.specs.declared.holding.SchemaHolding.TheVariants.{One, Listed, Named as ByName, OneOrListed}
use Rattle.js_upgrade.specs.declared.holding.SchemaHolding.TheVariants.{Nothing}
use Rattle.js_upgrade.proofs.ByCases.{by_dialect}
use Rattle.js_upgrade.proofs.Agreeing.{IsFit}
use Rattle.js_upgrade.proofs.Each.{Each, are_current, each_current, each_gathered, each_put}
use Rattle.js_upgrade.proofs.InOrder.{names_ascend}
use Rattle.js_upgrade.proofs.Outcome.{keyword_fit, schema_fit}
use Rattle.js_upgrade.proofs.Staying.{ascending, current_stays, keywords_stay}

-- ---- what holds no schema is there afterwards

pub nothing_upgraded : (d : Dialect) (v : Value) → upgraded Nothing d v ≡ v
nothing_upgraded d null = refl
nothing_upgraded d (truth b) = refl
nothing_upgraded d (whole z) = refl
nothing_upgraded d (text s) = refl
nothing_upgraded d (list vs) = refl
nothing_upgraded d (object ms) = refl

kept_by : (k name : Text) (held : Text
    → SchemaHolding) (d : Dialect) (v : Value) (new old : Option Value) (o : Ordering)
    → name_cmp k name ≡ o → held k ≡ Nothing → new ≡ old
    → match_ordering o new (Some (upgraded (held name) d v)) new ≡ match_ordering o old (Some v) old
kept_by k name held d v new old Less is h same = same
kept_by k name held d v new old Equal is h same =
    ap (λ n. Some (upgraded (held n) d v)) (sym (name_equal k name is)) ∙ ap (λ x. Some (upgraded x d v)) h
    ∙ ap Some (nothing_upgraded d v)
kept_by k name held d v new old Greater is h same = same

get_kept : (held : Text → SchemaHolding) (d : Dialect) (k : Text) → held k ≡ Nothing → (ms : Members)
    → get k (members_upgraded held d ms) ≡ get k (member_list ms)
get_kept held d k h no_members = refl
get_kept held d k h (member name v ms) =
    kept_by k name held d v (get k (members_upgraded held d ms)) (get k (member_list ms)) (name_cmp k name) refl h
    (get_kept held d k h ms)

-- ---- so is the dialect

abbrev pub in_2020 : Text → SchemaHolding
in_2020 name = holding_by_change (change_in Draft2020 name)

schema_held : in_2020 (codes "$schema") ≡ Nothing
unfolding core_change applicator_change assertion_change
schema_held = refl

reference_held : in_2020 (codes "$ref") ≡ Nothing
unfolding core_change applicator_change assertion_change
reference_held = refl

identifier_held : (e : Dialect) → in_2020 (identifier e) ≡ Nothing
unfolding core_change applicator_change assertion_change
identifier_held e = by_dialect (λ d. in_2020 (identifier d) ≡ Nothing) refl refl refl refl refl refl e

identifies_kept : (ms : Members) (e : Dialect)
    → identifies e (members_upgraded in_2020 Draft2020 ms) ≡ identifies e (member_list ms)
identifies_kept ms e =
    ap₂ (λ i r. is_identifier i && not (is_before e Draft2019 && is_some r))
    (get_kept in_2020 Draft2020 (identifier e) (identifier_held e) ms)
    (get_kept in_2020 Draft2020 (codes "$ref") reference_held ms)

or_same : (x y : Named) → ((e : Dialect) → identifies e x ≡ identifies e y) → (found : Option Dialect)
    → dialect_or Draft2020 x found ≡ dialect_or Draft2020 y found
or_same x y same None = refl
or_same x y same (Some e) = ap (λ b. cond b e Draft2020) (same e)

own_kept : (ms : Members)
    → own_dialect Draft2020 (members_upgraded in_2020 Draft2020 ms) ≡ own_dialect Draft2020 (member_list ms)
own_kept ms =
    ap (λ found. dialect_or Draft2020 (members_upgraded in_2020 Draft2020 ms) (option_and_then dialect_in found))
    (get_kept in_2020 Draft2020 (codes "$schema") schema_held ms)
    ∙ or_same (members_upgraded in_2020 Draft2020 ms) (member_list ms) (identifies_kept ms) (declared (member_list ms))

again_if : (b : Bool) (e d : Dialect) → cond b e d ≡ Draft2020 → cond b e Draft2020 ≡ Draft2020
again_if true e d is = is
again_if false e d is = refl

again_by : (d : Dialect) (siblings : Named) (found : Option Dialect) → dialect_or d siblings found ≡ Draft2020
    → dialect_or Draft2020 siblings found ≡ Draft2020
again_by d siblings None is = refl
again_by d siblings (Some e) is = again_if (identifies e siblings) e d is

-- ---- a schema

pub upgraded_members_ascend : (held : Text → SchemaHolding) (d : Dialect) (ms : Members) → NamesAscendInMembers ms
    → IsAscending (members_upgraded held d ms)
upgraded_members_ascend held d ms s =
    subst (λ ns. IsAscending (members_upgraded held d ns)) (members-member_list ms)
    (names_ascend held d (member_list ms) (ascending ms s))

abbrev pub parts : Dialect → Members → Named
parts own ms = members_upgraded (holding_in own (member_list ms)) own ms

abbrev pub made : Dialect → Members → Named
made own ms = keywords_upgraded own (member_list ms) (parts own ms)

made_stay : (ms : Members) → NamesAscendInMembers ms → made Draft2020 ms ≡ parts Draft2020 ms
made_stay ms s = keywords_stay (member_list ms) (parts Draft2020 ms) (upgraded_members_ascend in_2020 Draft2020 ms s)

abbrev PartsCurrent : Dialect → Members → Type 0
PartsCurrent own ms = Each (λ k v. IsCurrent (holding_in own (member_list ms) k) v) (parts own ms)

older_made : (own : Dialect) (ms : Members) → not (is_before own Draft2020) ≡ false → PartsCurrent own ms
    → IsCurrent One (object (members (made own ms)))
older_made own ms older e =
    schema_fit (made own ms)
    (subst (λ last. Each (IsFit last) (made own ms)) older
    (each_gathered (IsFit (not (is_before own Draft2020))) (λ k v. IsCurrent (holding_in own (member_list ms) k) v)
    (becomes own (member_list ms)) (keyword_fit own (member_list ms)) (parts own ms) [] e tt))

current_made : (own : Dialect) (ms : Members) → NamesAscendInMembers ms
    → (own ≡ Draft2020 → own_dialect Draft2020 (member_list ms) ≡ Draft2020) → PartsCurrent own ms
    → IsCurrent One (object (members (made own ms)))
current_made Draft03 ms s same e = older_made Draft03 ms refl e
current_made Draft04 ms s same e = older_made Draft04 ms refl e
current_made Draft06 ms s same e = older_made Draft06 ms refl e
current_made Draft07 ms s same e = older_made Draft07 ms refl e
current_made Draft2019 ms s same e = older_made Draft2019 ms refl e
current_made Draft2020 ms s same e =
    subst (λ ks. IsCurrent One (object (members ks))) (sym (made_stay ms s)) (
      ap (own_dialect Draft2020) (member_list-members (parts Draft2020 ms)) ∙ own_kept ms ∙ same refl,
      are_current in_2020 (parts Draft2020 ms) e,
    )

schema_current : (d : Dialect) (ms : Members) → NamesAscendInMembers ms
    → PartsCurrent (own_dialect d (member_list ms)) ms
    → IsCurrent One (object (members (made (own_dialect d (member_list ms)) ms)))
schema_current d ms s e =
    current_made (own_dialect d (member_list ms)) ms s (again_by d (member_list ms) (declared (member_list ms))) e

mutual
  pub current : (h : SchemaHolding) (d : Dialect) (v : Value) → NamesAscend v → IsCurrent h (upgraded h d v)
  current One d (object ms) s =
      schema_current d ms s (members_current (holding_in (own_dialect d (member_list ms)) (member_list ms))
      (own_dialect d (member_list ms)) ms s)
  current OneOrListed d (object ms) s =
      schema_current d ms s (members_current (holding_in (own_dialect d (member_list ms)) (member_list ms))
      (own_dialect d (member_list ms)) ms s)
  current ByName d (object ms) s = are_current (λ name. One) _ (members_current (λ name. One) d ms s)
  current Listed d (object ms) s = tt
  current Nothing d (object ms) s = tt
  current Listed d (list vs) s = items_current d vs s
  current OneOrListed d (list vs) s = items_current d vs s
  current One d (list vs) s = tt
  current ByName d (list vs) s = tt
  current Nothing d (list vs) s = tt
  current One d null s = tt
  current Listed d null s = tt
  current ByName d null s = tt
  current OneOrListed d null s = tt
  current Nothing d null s = tt
  current One d (truth b) s = tt
  current Listed d (truth b) s = tt
  current ByName d (truth b) s = tt
  current OneOrListed d (truth b) s = tt
  current Nothing d (truth b) s = tt
  current One d (whole z) s = tt
  current Listed d (whole z) s = tt
  current ByName d (whole z) s = tt
  current OneOrListed d (whole z) s = tt
  current Nothing d (whole z) s = tt
  current One d (text t) s = tt
  current Listed d (text t) s = tt
  current ByName d (text t) s = tt
  current OneOrListed d (text t) s = tt
  current Nothing d (text t) s = tt

  items_current : (d : Dialect) (vs : Items) → NamesAscendInItems vs → ItemsAreCurrent (items (items_upgraded d vs))
  items_current d no_items s = tt
  items_current d (item v vs) s = (current One d v s.0, items_current d vs s.1)

  members_current : (held : Text → SchemaHolding) (d : Dialect) (ms : Members) → NamesAscendInMembers ms
      → Each (λ k v. IsCurrent (held k) v) (members_upgraded held d ms)
  members_current held d no_members s = tt
  members_current held d (member name v ms) s = (current (held name) d v s.1, members_current held d ms s.2)

-- ---- a document

either_way : (b : Bool) → cond b Draft2020 Draft2020 ≡ Draft2020
either_way true = refl
either_way false = refl

uri_names : dialect_in schema_uri ≡ Some Draft2020
unfolding version_named
uri_names = refl

abbrev pub with_uri : Members → Named
with_uri ms = put (codes "$schema") schema_uri (member_list ms)

uri_got : (ms : Members) → get (codes "$schema") (member_list (members (with_uri ms))) ≡ Some schema_uri
uri_got ms = ap (get (codes "$schema")) (member_list-members (with_uri ms))
    ∙ get-put (codes "$schema") schema_uri (member_list ms)

pub uri_current : (ms : Members) → IsCurrent One (object ms) → IsCurrent One (with_schema_uri (object ms))
unfolding core_change applicator_change assertion_change
uri_current ms c =
    let ns = member_list (members (with_uri ms)) in (
      ap (λ found. dialect_or Draft2020 ns (option_and_then dialect_in found)) (uri_got ms)
          ∙ ap (dialect_or Draft2020 ns) uri_names ∙ either_way (identifies Draft2020 ns),
      are_current in_2020 (with_uri ms)
          (each_put (λ k v. IsCurrent (in_2020 k) v) (codes "$schema") schema_uri (member_list ms) tt
          (each_current in_2020 ms c.1)),
    )

pub uri_declared : (assumed : Dialect) (ms : Members)
    → document_dialect assumed (with_schema_uri (object ms)) ≡ Some Draft2020
uri_declared assumed ms = ap (dialect_found assumed) (uri_got ms) ∙ uri_names

pub own_by : (assumed : Dialect) (siblings : Named) (found : Option Value)
    → dialect_found assumed found ≡ Some Draft2020
    → dialect_or Draft2020 siblings (option_and_then dialect_in found) ≡ Draft2020
own_by assumed siblings None is = refl
own_by assumed siblings (Some v) is =
    ap (dialect_or Draft2020 siblings) is ∙ either_way (identifies Draft2020 siblings)

pub same_declared : (assumed : Dialect) (ms : Members) → NamesAscendInMembers ms
    → document_dialect assumed (object ms) ≡ Some Draft2020
    → document_dialect assumed (upgraded One Draft2020 (object ms)) ≡ Some Draft2020
same_declared assumed ms s is =
    ap (λ own. document_dialect assumed (object (members (made own ms))))
    (own_by assumed (member_list ms) (get (codes "$schema") (member_list ms)) is)
    ∙ ap (λ ks. document_dialect assumed (object (members ks))) (made_stay ms s)
    ∙ ap (λ ks. dialect_found assumed (get (codes "$schema") ks)) (member_list-members (parts Draft2020 ms))
    ∙ ap (dialect_found assumed) (get_kept in_2020 Draft2020 (codes "$schema") schema_held ms) ∙ is

older_twice : (assumed d : Dialect) (ms : Members) → NamesAscendInMembers ms
    → IsLawful (with_schema_uri (upgraded One d (object ms)))
    → document_upgraded assumed (with_schema_uri (upgraded One d (object ms)))
    ≡ Some (with_schema_uri (upgraded One d (object ms)))
older_twice assumed d ms s l =
    let ns = members (made (own_dialect d (member_list ms)) ms) in
    current_stays assumed (with_schema_uri (object ns)) l (uri_declared assumed ns)
    (uri_current ns (current One d (object ms) s))

object_twice : (assumed d : Dialect) (ms : Members) → NamesAscendInMembers ms
    → document_dialect assumed (object ms) ≡ Some d → IsLawful (root_upgraded d (object ms))
    → document_upgraded assumed (root_upgraded d (object ms)) ≡ Some (root_upgraded d (object ms))
object_twice assumed Draft03 ms s is l = older_twice assumed Draft03 ms s l
object_twice assumed Draft04 ms s is l = older_twice assumed Draft04 ms s l
object_twice assumed Draft06 ms s is l = older_twice assumed Draft06 ms s l
object_twice assumed Draft07 ms s is l = older_twice assumed Draft07 ms s l
object_twice assumed Draft2019 ms s is l = older_twice assumed Draft2019 ms s l
object_twice assumed Draft2020 ms s is l =
    current_stays assumed (upgraded One Draft2020 (object ms)) l (same_declared assumed ms s is)
    (current One Draft2020 (object ms) s)

abbrev value_or : Value → Option Value → Value
value_or v None = v
value_or v (Some w) = w

object_by : (assumed : Dialect) (ms : Members) (once : Value) (found : Option Dialect)
    → document_dialect assumed (object ms) ≡ found → NamesAscendInMembers ms → IsLawful once
    → option_map (λ d. root_upgraded d (object ms)) found ≡ Some once → document_upgraded assumed once ≡ Some once
object_by assumed ms once None is s l e = absurd (cc)
object_by assumed ms once (Some d) is s l e =
    let same : root_upgraded d (object ms) ≡ once = ap (value_or once) e in
    subst (λ v. document_upgraded assumed v ≡ Some v) same
    (object_twice assumed d ms s is (subst IsLawful (sym same) l))

-- what is no object stays
cond_same : (b : Bool) (v : Value) → cond b v v ≡ v
cond_same true v = refl
cond_same false v = refl

other_twice : (assumed : Dialect) (v once : Value) → document_upgraded assumed v ≡ Some v
    → document_upgraded assumed v ≡ Some once → document_upgraded assumed once ≡ Some once
other_twice assumed v once stays is =
    let same : v ≡ once = ap (value_or v) (sym stays ∙ is) in
    subst (λ w. document_upgraded assumed w ≡ Some w) same stays

pub twice_is_once : TwiceIsOnce
twice_is_once assumed (object ms) once lawful l is =
    object_by assumed ms once (document_dialect assumed (object ms)) refl lawful.0 l is
twice_is_once assumed null once lawful l is =
    other_twice assumed null once (ap Some (cond_same (is_before assumed Draft2020) null)) is
twice_is_once assumed (truth b) once lawful l is =
    other_twice assumed (truth b) once (ap Some (cond_same (is_before assumed Draft2020) (truth b))) is
twice_is_once assumed (whole z) once lawful l is =
    other_twice assumed (whole z) once (ap Some (cond_same (is_before assumed Draft2020) (whole z))) is
twice_is_once assumed (text t) once lawful l is =
    other_twice assumed (text t) once (ap Some (cond_same (is_before assumed Draft2020) (text t))) is
twice_is_once assumed (list vs) once lawful l is =
    other_twice assumed (list vs) once (ap Some (cond_same (is_before assumed Draft2020) (list vs))) is
