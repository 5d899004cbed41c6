-- In documents that are accepted each application that a keyword of a place asks for is of a place that is found.
use Rattle.std.specs.Prelude.{◌≡◌, ℕ, suc, ◌+◌, Bool, true, false, not, ◌||◌, cond, List, [], ◌∷◌, ◌++◌, Option}
use Rattle.std.specs.Prelude.{Some, None, is_some, option_and_then, option_map, unwrap_or, slice_get}
use Rattle.std.specs.Prelude.{find, filter, map, length, nat_lt, codes, refl}
use Rattle.std.specs.List.{AllByRecursion, flat_map, list_all}
use Rattle.std.specs.Option.{option_or}
use Rattle.std.specs.Str.{bytes_eq}
use Rattle.std.specs.Ordering.{match_ordering}
use Rattle.std.specs.declared.cmp.Ordering.{Ordering}
use Rattle.std.specs.declared.cmp.Ordering.TheVariants.{Less, Equal, Greater}
use Rattle.std.proofs.Common.{sym, ◌∙◌, ap, subst, arith}
use Rattle.std.proofs.lemmas.Option.{slice_get-get_or}
use Rattle.std.proofs.lemmas.Slice.Eq.{bytes_eq-Decides}
use borrow.Author.Tests.{ltb-true}
use Rattle.url.specs.Parts.{Parts}
use Rattle.js_doc.proofs.FiniteMaps.{get_here}
use Rattle.js_doc.specs.Members.{get, name_cmp, IsAscending, IsBelowFirst, IsBelowHead}
use Rattle.js_doc.specs.Members.{NamesAscend, NamesAscendInMembers}
use Rattle.js_doc.specs.Parts.{member_list}
use Rattle.js_doc.specs.Value.{Value, null, object, Members, no_members, member, Named}
use Rattle.js_assert.specs.Argument.{entries, values, has}
use Rattle.js_assert.specs.Pattern.{matches}
use Rattle.js_bundle.specs.Document.{Documents}
use Rattle.js_bundle.specs.FindingLaws.{EachIsFound, FindsAll}
use Rattle.js_bundle.specs.Keyword.{Text, argument, has_argument}
use Rattle.js_bundle.specs.Names.{named, names as are_named, stands_at}
use Rattle.js_bundle.specs.Place.{holding}
use Rattle.js_bundle.specs.Resource.{Site, sites}
use Rattle.js_bundle.specs.Schemas.{below, fits, step_tokens, Holds, Step, Alone, Index, Name}
use Rattle.js_bundle.specs.Target.{reference, first_target, ref_target, dynamic_anchor, outermost}
use Rattle.js_bundle.specs.Target.{is_dynamic, dynamic_of, dynamic_ref_target}
use Rattle.js_bundle.specs.Url.{decoded_fragment}
use Rattle.js_bundle.proofs.Finding.StepsFit.{applies_fits}
use Rattle.js_bundle.proofs.SchemaBelow.{is_one, is_listed, is_named}
use Rattle.js_bundle.proofs.Standing.{standing}
use Rattle.js_keyword.proofs.KeywordNames.{known_by_name}
use Rattle.js_eval.specs.Applications.{Application, asks_of, indexed, indexed_from}
use Rattle.js_eval.specs.Bundle.{schemas_of}
use Rattle.js_eval.specs.Keywords.{Member, keywords}
use Rattle.js_keyword.specs.Keyword.{which_keyword}
use Rattle.js_eval.specs.Laws.{looked_for, IsFound, IsOfFound, NothingStandsIn}
use Rattle.js_eval.specs.SchemaSet.{SchemaSet}
use Rattle.js_eval.specs.code.Holding.{IsIn}
use Rattle.js_bundle.specs.Ranked.{applies_at}
use Rattle.js_keyword.specs.declared.keyword.Keyword.{Keyword}
use Rattle.js_keyword.specs.declared.other_keyword.OtherKeyword.{OtherKeyword}
use Rattle.js_keyword.specs.declared.keyword.Keyword.TheVariants.{Ref, DynamicRef, AllOf, AnyOf, OneOf, Not}
use Rattle.js_keyword.specs.declared.keyword.Keyword.TheVariants.{If, Then, Else}
use Rattle.js_keyword.specs.declared.keyword.Keyword.TheVariants.{DependentSchemas, PrefixItems, Items}
use Rattle.js_keyword.specs.declared.keyword.Keyword.TheVariants.{Contains, Properties, PatternProperties}
use Rattle.js_keyword.specs.declared.keyword.Keyword.TheVariants.{AdditionalProperties}
use Rattle.js_keyword.specs.declared.keyword.Keyword.TheVariants.{PropertyNames, UnevaluatedItems}
use Rattle.js_keyword.specs.declared.keyword.Keyword.TheVariants.{UnevaluatedProperties, Assertion, Other}
use Rattle.js_eval.proofs.AssertionThere.{same_members}
use Rattle.js_eval.proofs.FoundByName.{all_of_filter, keywords_among}
use Rattle.js_eval.proofs.Holding.{argument_is, items_are}

-- ---- what is found is among the places

abbrev Among : List Site → Site → Type 0
Among all t = (n : ℕ) × (slice_get all n ≡ Some t)

later_among : (x : Site) (all : List Site) (t : Site) → Among all t → Among (x ∷ all) t
later_among x all t a = (suc a.0, a.1)

found_at : (b : Bool) (x t : Site) (all : List Site) (rest : Option Site) → cond b (Some x) rest ≡ Some t
    → (rest ≡ Some t → Among all t) → Among (x ∷ all) t
found_at true x t all rest e more = (0, e)
found_at false x t all rest e more = later_among x all t (more e)

found_among : (test : Site → Bool) (all : List Site) (t : Site) → find test all ≡ Some t → Among all t
found_among test [] t e = absurd (cc)
found_among test (x ∷ all) t e = found_at (test x) x t all (find test all) e (found_among test all t)

named_among : (all : List Site) (o : Option Parts) (t : Site) → option_and_then (named all) o ≡ Some t → Among all t
named_among all None t e = absurd (cc)
named_among all (Some uri) t e = found_among (are_named all uri) all t e

first_of : (all : List Site) (o : Option Site) (rest : Option Site) (t : Site) → ((u : Site) → o ≡ Some u → Among all u)
    → ((u : Site) → rest ≡ Some u → Among all u) → option_or o rest ≡ Some t → Among all t
first_of all None rest t f g e = g t e
first_of all (Some x) rest t f g e = f t e

outermost_among : (all : List Site) (name : Text) (path : List Site) (t : Site)
    → outermost all name path ≡ Some t → Among all t
outermost_among all name [] t e = absurd (cc)
outermost_among all name (p ∷ path) t e =
    first_of all (dynamic_anchor all name p) (outermost all name path) t (λ u h. found_among _ all u h)
    (outermost_among all name path) e

unwrapped_among : (all : List Site) (o : Option Site) (d : Site) → ((u : Site) → o ≡ Some u → Among all u) → Among all d
    → Among all (unwrap_or o d)
unwrapped_among all None d f a = a
unwrapped_among all (Some x) d f a = f x refl

scope_among : (all path : List Site) (o : Option Parts) (t : Site)
    → option_and_then (λ u. outermost all (decoded_fragment u) path) o ≡ Some t → Among all t
scope_among all path None t e = absurd (cc)
scope_among all path (Some uri) t e = outermost_among all (decoded_fragment uri) path t e

chosen_among : (all : List Site) (b : Bool) (s t : Site) → Among all s → Among all t → Among all (cond b s t)
chosen_among all true s t a c = a
chosen_among all false s t a c = c

abbrev HoldsAmong : List Site → Option Site → Type 0
HoldsAmong all None = ⊥
HoldsAmong all (Some t) = Among all t

dynamic_among : (all path : List Site) (uri : Option Parts) (o : Option Site) (t : Site)
    → ((u : Site) → o ≡ Some u → Among all u) → option_map (dynamic_of all path uri) o ≡ Some t → Among all t
dynamic_among all path uri None t f e = absurd (cc)
dynamic_among all path uri (Some first) t f e =
    let a = f first refl in
    let there = chosen_among all (is_dynamic uri first) _ first
    (unwrapped_among all (option_and_then (λ u. outermost all (decoded_fragment u) path) uri) first
    (scope_among all path uri) a) a in
    subst (λ o. HoldsAmong all o) e there

below_at : (b : Bool) (all : List Site) (test : Site → Bool) (t : Site)
    → cond b (find test all) None ≡ Some t → Among all t
below_at true all test t e = found_among test all t e
below_at false all test t e = absurd (cc)

-- ---- parts of an argument

some_there : {A : Type 0} (o : Option A) → is_some o ≡ true → (x : A) × (o ≡ Some x)
some_there None e = absurd (cc)
some_there (Some x) e = (x, refl)

stays : (o : Ordering) (r : Option Value) (u : Value) → is_some r ≡ true
    → is_some (match_ordering o r (Some u) r) ≡ true
stays Less r u e = e
stays Equal r u e = refl
stays Greater r u e = e

all_stay : (m : Text × Value) (ms xs : Named) → AllByRecursion (λ x. has x.0 ms ≡ true) xs
    → AllByRecursion (λ x. has x.0 (m ∷ ms) ≡ true) xs
all_stay m ms [] h = tt
all_stay m ms (x ∷ xs) h = (stays (name_cmp x.0 m.0) (get x.0 ms) m.1 h.0, all_stay m ms xs h.1)

each_has : (ms : Named) → AllByRecursion (λ m. has m.0 ms ≡ true) ms
each_has [] = tt
each_has (m ∷ ms) = (ap is_some (get_here m.0 m.1 ms), all_stay m ms ms (each_has ms))

each_from : (all : List Value) (i : ℕ) (vs : List Value) → ((j : ℕ) → slice_get all (i + j) ≡ slice_get vs j)
    → AllByRecursion (λ e. is_some (slice_get all e.0) ≡ true) (indexed_from i vs)
each_from all i [] h = tt
each_from all i (v ∷ vs) h =
    let at : i ≡ i + 0 = omega arith in
    let here : slice_get all i ≡ Some v = ap (slice_get all) at ∙ h 0 in (
      ap is_some here,
      each_from all (suc i) vs (λ j. let n : suc i + j ≡ i + suc j = omega arith in
          ap (slice_get all) n ∙ h (suc j)),
    )

each_indexed : (v : Value) → AllByRecursion (λ e. is_some (slice_get (values v) e.0) ≡ true) (indexed v)
each_indexed v = each_from (values v) 0 (values v) (λ j. let n : 0 + j ≡ j = omega arith in ap (slice_get (values v)) n)

within_there : (vs : List Value) (i : ℕ) → nat_lt i (length vs) ≡ true → is_some (slice_get vs i) ≡ true
within_there vs i e = ap is_some (slice_get-get_or vs i null (ltb-true i (length vs) e))

-- ---- each of a list

module _ {X Y : Type 0} (Q : X → Type 0) (P : Y → Type 0) where
  each_mapped : (f : X → Y) → ((x : X) → Q x → P (f x)) → (xs : List X) → AllByRecursion Q xs
      → AllByRecursion P (map f xs)
  each_mapped f h [] all = tt
  each_mapped f h (x ∷ xs) all = (h x all.0, each_mapped f h xs all.1)

  behind : (ys zs : List Y) → AllByRecursion P ys → AllByRecursion P zs → AllByRecursion P (ys ++ zs)
  behind [] zs a b = b
  behind (y ∷ ys) zs a b = (a.0, behind ys zs a.1 b)

  each_of_each : (f : X → List Y) → ((x : X) → Q x → AllByRecursion P (f x)) → (xs : List X) → AllByRecursion Q xs
      → AllByRecursion P (flat_map f xs)
  each_of_each f h [] all = tt
  each_of_each f h (x ∷ xs) all = behind (f x) (flat_map f xs) (h x all.0) (each_of_each f h xs all.1)

module _ {X : Type 0} (q : X → Bool) where
  passed_at : (b : Bool) (x : X) (xs : List X) → q x ≡ b → AllByRecursion (λ y. q y ≡ true) xs
      → AllByRecursion (λ y. q y ≡ true) (cond b (x ∷ xs) xs)
  passed_at true x xs e r = (e, r)
  passed_at false x xs e r = r

  each_passes : (xs : List X) → AllByRecursion (λ y. q y ≡ true) (filter q xs)
  each_passes [] = tt
  each_passes (x ∷ xs) = passed_at (q x) x (filter q xs) refl (each_passes xs)

any_of : {X : Type 0} (xs : List X) → AllByRecursion (λ _. Unit {0}) xs
any_of [] = tt
any_of (x ∷ xs) = (tt, any_of xs)

-- ---- each application

or_it : (o : Option Site) (t d : Site) → o ≡ Some t → o ≡ Some (unwrap_or o d)
or_it None t d e = absurd (cc)
or_it (Some x) t d e = refl

module _ (documents : Documents) (place : Site) (finds : FindsAll documents place) (k : Member)
    (there : IsIn place.schema k) where
  abbrev S : SchemaSet Site
  S = schemas_of documents

  is_found : (o : Option Site) (t : Site) → o ≡ Some t → ((u : Site) → o ≡ Some u → Among (sites documents) u)
      → IsFound documents o (unwrap_or o place)
  is_found o t e among =
      let is = or_it o t place e in
      let a = among (unwrap_or o place) is in
      record { is = is; number = a.0; stands = a.1 }

  held_found : (step : Step) (u : Value) → Holds place.schema k.0 step u
      → IsFound documents (below documents place k.0 step) (S.below place k.0 step)
  held_found step u h =
      let t = finds.below k.0 step u h in
      is_found (below documents place k.0 step) t.0 t.1
      (below_at (fits (holding k.0) step) (sites documents)
      (stands_at place.document (place.pointer ++ k.0 ∷ step_tokens step)))

  argument_there : argument k.0 place.schema ≡ Some k.1
  argument_there = argument_is place.schema k there

  has_named : (name : Text) → k.0 ≡ name → has_argument name place.schema ≡ true
  has_named name e = ap (λ n. has_argument n place.schema) (sym e) ∙ ap is_some argument_there

  module _ (κ : Keyword) (does : which_keyword k.0 ≡ κ) where
    one_found : applies_at κ Alone ≡ true → IsFound documents (below documents place k.0 Alone)
        (S.below place k.0 Alone)
    one_found h = held_found Alone k.1
        (is_one (holding k.0) (applies_fits k.0 Alone (ap (λ c. applies_at c Alone) does ∙ h)), argument_there)

    item_found : (i : ℕ) → applies_at κ (Index i) ≡ true → is_some (slice_get (values k.1) i) ≡ true
        → IsFound documents (below documents place k.0 (Index i)) (S.below place k.0 (Index i))
    item_found i h e =
        let u = some_there (slice_get (values k.1) i) e in
        held_found (Index i) u.0 (
          is_listed (holding k.0) i (applies_fits k.0 (Index i) (ap (λ c. applies_at c (Index i)) does ∙ h)),
          (k.1, argument_there, ap (λ us. slice_get us i) (items_are k.1) ∙ u.1),
        )

    member_found : (n : Text) → applies_at κ (Name n) ≡ true → has n (entries k.1) ≡ true
        → IsFound documents (below documents place k.0 (Name n)) (S.below place k.0 (Name n))
    member_found n h e =
        let u = some_there (get n (entries k.1)) e in
        held_found (Name n) u.0 (
          is_named (holding k.0) n (applies_fits k.0 (Name n) (ap (λ c. applies_at c (Name n)) does ∙ h)),
          (k.1, argument_there, ap (get n) (same_members k.1) ∙ u.1),
        )

  module _ (path : List Site) (siblings : Named) (v : Value) (condition : Option Bool) (names : List Text)
      (indexes : List ℕ) where
    abbrev Found : Keyword → Application Site → Type 0
    Found κ a = IsFound documents (looked_for documents path place k.0 a.step κ) a.place

    abbrev asked : Keyword → List (Application Site)
    asked κ = asks_of S path place siblings v condition names indexes k κ

    then_found : (c : Option Bool) → which_keyword k.0 ≡ Then → AllByRecursion (Found Then)
        (asks_of S path place siblings v c names indexes k Then)
    then_found None e = tt
    then_found (Some true) e = (one_found Then e refl, tt)
    then_found (Some false) e = tt

    else_found : (c : Option Bool) → which_keyword k.0 ≡ Else → AllByRecursion (Found Else)
        (asks_of S path place siblings v c names indexes k Else)
    else_found None e = tt
    else_found (Some true) e = tt
    else_found (Some false) e = (one_found Else e refl, tt)

    found_by : (κ : Keyword) → which_keyword k.0 ≡ κ → AllByRecursion (Found κ) (asked κ)
    found_by Ref e =
        let t = finds.target (has_named (codes "$ref") (known_by_name k.0 Ref e refl)) in (
          is_found (ref_target (sites documents) place) t.0 t.1
              (named_among (sites documents) (reference (codes "$ref") place)),
          tt,
        )
    found_by DynamicRef e =
        let t = finds.dynamic_target path (has_named (codes "$dynamicRef")
        (known_by_name k.0 DynamicRef e refl)) in
        let uri = reference (codes "$dynamicRef") place in (
          is_found (dynamic_ref_target (sites documents) path place) t.0 t.1
              (λ u. dynamic_among (sites documents) path uri (first_target (sites documents) (codes "$dynamicRef")
              place) u (named_among (sites documents) uri)),
          tt,
        )
    found_by AllOf e = each_mapped _ (Found AllOf) _ (λ x h. item_found AllOf e x.0 refl h)
        (indexed k.1) (each_indexed k.1)
    found_by AnyOf e = each_mapped _ (Found AnyOf) _ (λ x h. item_found AnyOf e x.0 refl h)
        (indexed k.1) (each_indexed k.1)
    found_by OneOf e = each_mapped _ (Found OneOf) _ (λ x h. item_found OneOf e x.0 refl h)
        (indexed k.1) (each_indexed k.1)
    found_by Not e = (one_found Not e refl, tt)
    found_by If e = (one_found If e refl, tt)
    found_by Then e = then_found condition e
    found_by Else e = else_found condition e
    found_by DependentSchemas e =
        each_mapped _ (Found DependentSchemas) _ (λ m h. member_found DependentSchemas e m.0 refl h)
        (filter (λ m. has m.0 (entries v)) (entries k.1))
        (all_of_filter (λ m. has m.0 (entries k.1) ≡ true) (λ m. has m.0 (entries v)) (entries k.1)
        (each_has (entries k.1)))
    found_by PrefixItems e =
        each_mapped _ (Found PrefixItems) _ (λ x h. item_found PrefixItems e x.0 refl (within_there (values k.1) x.0 h))
        _ (each_passes _ (indexed v))
    found_by Items e = each_mapped _ (Found Items) _ (λ x h. one_found Items e refl) _ (any_of _)
    found_by Contains e = each_mapped _ (Found Contains) _ (λ x h. one_found Contains e refl) _ (any_of _)
    found_by Properties e = each_mapped _ (Found Properties) _ (λ m h. member_found Properties e m.0 refl h) _
        (each_passes _ (entries v))
    found_by PatternProperties e =
        each_of_each _ (Found PatternProperties) _
        (λ p h. each_mapped _ (Found PatternProperties) _ (λ m _. member_found PatternProperties e p.0 refl h)
        (filter (λ m. matches p.0 m.0) (entries v)) (any_of _))
        (entries k.1) (each_has (entries k.1))
    found_by AdditionalProperties e = each_mapped _ (Found AdditionalProperties) _
        (λ m h. one_found AdditionalProperties e refl) _ (any_of _)
    found_by PropertyNames e = each_mapped _ (Found PropertyNames) _
        (λ m h. one_found PropertyNames e refl) _ (any_of _)
    found_by UnevaluatedItems e = each_mapped _ (Found UnevaluatedItems) _
        (λ x h. one_found UnevaluatedItems e refl) _ (any_of _)
    found_by UnevaluatedProperties e = each_mapped _ (Found UnevaluatedProperties) _
        (λ m h. one_found UnevaluatedProperties e refl) _ (any_of _)
    found_by (Assertion _) e = tt
    found_by (Other _) e = tt

-- ---- of each keyword of a place

below_first : (k : Text) (ms : Members) → IsBelowFirst k ms → IsBelowHead k (member_list ms)
below_first k no_members h = tt
below_first k (member l v ms) h = h

ascending_members : (ms : Members) → NamesAscendInMembers ms → IsAscending (member_list ms)
ascending_members no_members a = tt
ascending_members (member k v ms) a = (below_first k ms a.0, ascending_members ms a.2)

ascending : (v : Value) → NamesAscend v → IsAscending (entries v)
ascending (object ms) a = ascending_members ms a
ascending _ a = tt

module _ (documents : Documents) (place : Site) (finds : FindsAll documents place) (path : List Site) (v : Value)
    (condition : Option Bool) (names : List Text) (indexes : List ℕ) where
  each_found : (ks : List Member) → AllByRecursion (IsIn place.schema) ks
      → AllByRecursion (λ k. AllByRecursion (IsOfFound documents path place k)
      (asks_of (schemas_of documents) path place (entries place.schema) v condition names indexes k
      (which_keyword k.0))) ks
  each_found [] all = tt
  each_found (k ∷ ks) all = (
    found_by documents place finds k all.0 path (entries place.schema) v condition names
        indexes (which_keyword k.0) refl,
    each_found ks all.1,
  )

pub all_found : EachIsFound → NothingStandsIn
all_found each documents read clear n place e path v condition names indexes =
    let among = keywords_among place.schema
    (ascending place.schema (standing documents read.ordered read.short n place e).ascends) in
    each_found documents place (each documents read clear n place e) path v condition names indexes
    (keywords place.schema) among
