-- What a dynamic reference leads to.
use Rattle.std.proofs.Common.{◌≡◌, ◌&&◌, ℕ, ◌+◌, ◌≤◌, List, ◌∷◌, Bool, true, false, if◌then◌else◌, Option}
use Rattle.std.proofs.Common.{Some, None, option_map, option_and_then, unwrap_or, is_some, slice_get, bytes_eq}
use Rattle.std.proofs.Common.{codes, drop, length, refl, sym, ap, ◌∙◌, subst}
use Rattle.std.specs.List.{position_from}
use Rattle.std.specs.Option.{option_map_or}
use Rattle.std.proofs.lemmas.Bool.{lt-ltb}
use Rattle.std.proofs.lemmas.List.{drop_more, drop_all}
use Rattle.std.proofs.lemmas.Option.{slice_get_within, get_or_from_slice_get}
use Rattle.url.specs.Parts.{Parts}
use Rattle.js_doc.proofs.TokenLookup.{is_text-sound}
use Rattle.js_bundle.specs.declared.check.references.DynamicReference.{DynamicReference}
use Rattle.js_bundle.specs.Candidate.{IsClear}
use Rattle.js_bundle.specs.code.SparseList.{IsSparseList}
use Rattle.js_bundle.specs.Document.{Documents}
use Rattle.js_bundle.specs.Finding.{number_of_target, goes_by_name, dynamic_as, dynamic_at, scope_name, IsFirstTarget}
use Rattle.js_bundle.specs.Keyword.{Text, has_argument, text_argument}
use Rattle.js_bundle.specs.Names.{belongs_to, makes}
use Rattle.js_bundle.specs.Refusals.{candidates}
use Rattle.js_bundle.specs.Resource.{Site, sites}
use Rattle.js_bundle.specs.PlaceNumber.{is_place, place_at}
use Rattle.js_bundle.specs.Schemas.{has_keyword, StandsFor, Finds}
use Rattle.js_bundle.specs.code.CheckedSite.{CheckedSite, checked_site}
use Rattle.js_bundle.specs.Target as spec
use Rattle.js_bundle.specs.Url.{decoded_fragment}
use Rattle.js_bundle.proofs.Finding.NumbersStandForPlaces.{finds_place}
use Rattle.js_bundle.proofs.Finding.ListedUnderNumber.{has_listed, has_target, listed_under, not_missing}
use Rattle.js_bundle.proofs.Indexing.PartsOfPlaces.{there}
use Rattle.js_bundle.proofs.Checking.TargetsFound.{first_target_there, number_is_target}

-- ---- a search by numbers, one number on

pub drop_at : {A : Type 0} (xs : List A) (i : ℕ) (x : A) → slice_get xs i ≡ Some x → drop i xs ≡ x ∷ drop (i + 1) xs
drop_at xs i x e = drop_more xs i x (slice_get_within xs i x e)
    ∙ ap (λ y. y ∷ drop (i + 1) xs) (get_or_from_slice_get xs i x x e)

pub stop_at : {A : Type 0} (f : A → Bool) (xs : List A) (i : ℕ) (o : Option A) → slice_get xs i ≡ o
    → option_map f o ≡ Some true → position_from f i (drop i xs) ≡ Some i
stop_at f xs i None e h = absurd (cc)
stop_at f xs i (Some x) e h = let passes : f x ≡ true = cc in rw (drop_at xs i x e) (rw passes refl)

pub go_on : {A : Type 0} (f : A → Bool) (xs : List A) (i : ℕ) (o : Option A) → slice_get xs i ≡ o
    → option_map f o ≡ Some false
    → position_from f i (drop i xs) ≡ position_from f (i + 1) (drop (i + 1) xs)
go_on f xs i None e h = absurd (cc)
go_on f xs i (Some x) e h = let fails : f x ≡ false = cc in rw (drop_at xs i x e) (rw fails refl)

pub past_all : {A : Type 0} (f : A → Bool) (xs : List A) (i : ℕ) → length xs ≤ i → position_from f i (drop i xs) ≡ None
past_all f xs i h = ap (position_from f i) (drop_all i xs h)

-- ---- the name in the resource of a place

anchored_by : (documents : Documents) (name : Text) (x : CheckedSite) (n : Option ℕ) (o : Option Site)
    → option_map checked_site o ≡ Some x
    → n ≡ position_from (λ t. belongs_to x.document x.own.resource t
    && makes (codes "$dynamicAnchor") name t) 0 (sites documents)
    → Finds documents n (option_and_then (spec.dynamic_anchor (sites documents) name) o)
anchored_by documents name x n None e h = absurd (cc)
anchored_by documents name x n (Some s) e h =
    let same : checked_site s ≡ x = cc in
    finds_place documents (λ t. belongs_to s.document s.own.resource t && makes (codes "$dynamicAnchor") name t) n
    (subst (λ y. n ≡ position_from (λ t. belongs_to y.document y.own.resource t
    && makes (codes "$dynamicAnchor") name t) 0 (sites documents)) (sym same) h)

pub anchored : (documents : Documents) (name : Text) (place : ℕ) (x : CheckedSite) (n : Option ℕ)
    → option_map checked_site (place_at documents place) ≡ Some x
    → n ≡ position_from (λ t. belongs_to x.document x.own.resource t
    && makes (codes "$dynamicAnchor") name t) 0 (sites documents)
    → Finds documents n (option_and_then (spec.dynamic_anchor (sites documents) name) (place_at documents place))
anchored documents name place x n e h = anchored_by documents name x n (place_at documents place) e h

-- ---- where a first target leads

-- by its own name, which is the reference's fragment
same_name : (all path : List Site) (f : Text) (o : Option Text) (first : Site) (b : Bool)
    → option_map_or (bytes_eq f) o false ≡ b
    → unwrap_or (option_and_then (λ name. spec.outermost all name path) (if b then o else None)) first
    ≡ (if b then unwrap_or (spec.outermost all f path) first else first)
same_name all path f o first false e = refl
same_name all path f None first true e = absurd (cc)
same_name all path f (Some t) first true e =
    ap (λ name. unwrap_or (spec.outermost all name path) first) (sym (is_text-sound f t e))

scope_is : (all path : List Site) (u : Option Parts) (first : Site)
    → unwrap_or (option_and_then (λ name. spec.outermost all name path) (scope_name (spec.is_dynamic u first) first))
    first ≡ spec.dynamic_of all path u first
scope_is all path None first = refl
scope_is all path (Some u) first =
    same_name all path (decoded_fragment u) (text_argument (codes "$dynamicAnchor") first.schema) first
    (makes (codes "$dynamicAnchor") (decoded_fragment u) first) refl

pub leads_first : (documents : Documents) (scope : List Site) (place first : ℕ) (name : Option Text)
    → IsFirstTarget documents place first name → name ≡ None
    → StandsFor documents first
    (option_and_then (spec.dynamic_ref_target (sites documents) scope) (place_at documents place))
leads_first documents scope place first name h none = (
  h.target,
  h.decides scope ∙ ap (λ o.
      Some (unwrap_or (option_and_then (λ n. spec.outermost (sites documents) n scope) o) h.target)) none,
  h.stands,
)

pub leads_by_name : (documents : Documents) (scope : List Site) (place first n : ℕ) (name : Option Text) (text : Text)
    (found : Option ℕ) → IsFirstTarget documents place first name → name ≡ Some text
    → Finds documents found (spec.outermost (sites documents) text scope) → n ≡ unwrap_or found first
    → StandsFor documents n (option_and_then (spec.dynamic_ref_target (sites documents) scope)
    (place_at documents place))
leads_by_name documents scope place first n name text found h some = by_found found
  where
    decided : option_and_then (spec.dynamic_ref_target (sites documents) scope) (place_at documents place)
        ≡ Some (unwrap_or (spec.outermost (sites documents) text scope) h.target)
    decided = h.decides scope
        ∙ ap (λ o. Some (unwrap_or (option_and_then (λ t. spec.outermost (sites documents) t scope) o) h.target)) some

    by_found : (o : Option ℕ) → Finds documents o (spec.outermost (sites documents) text scope) → n ≡ unwrap_or o first
        → StandsFor documents n (option_and_then (spec.dynamic_ref_target (sites documents) scope)
        (place_at documents place))
    by_found None none is =
        (h.target, decided ∙ ap (λ o. Some (unwrap_or o h.target)) none, ap (place_at documents) is ∙ h.stands)
    by_found (Some m) one is =
        (one.0, decided ∙ ap (λ o. Some (unwrap_or o h.target)) one.1, ap (place_at documents) is ∙ one.2)

-- ---- the reference that is kept of a place

pub record IsReference (documents : Documents) (place : ℕ) (r : DynamicReference) : Type 0 where
  pub site : Site
  pub stands : place_at documents place ≡ Some site
  pub first : Site
  pub target : place_at documents r.target ≡ Some first
  pub named : spec.first_target (sites documents) (codes "$dynamicRef") site ≡ Some first
  pub by_name : r.by_name ≡ goes_by_name (sites documents) site

abbrev dynamic_in : Documents → Site → Option DynamicReference
dynamic_in documents = dynamic_at (sites documents)

reference_by : (documents : Documents) (i : ℕ) (r : DynamicReference) (o : Option Site) → place_at documents i ≡ o
    → option_and_then (dynamic_in documents) o ≡ Some r → IsReference documents i r
reference_by documents i r None e h = absurd (cc)
reference_by documents i r (Some s) e h = by_target (number_of_target (sites documents) (codes "$dynamicRef") s) refl h
  where
    by_target : (o : Option ℕ) → number_of_target (sites documents) (codes "$dynamicRef") s ≡ o
        → option_map (dynamic_as (goes_by_name (sites documents) s)) o ≡ Some r → IsReference documents i r
    by_target None is h = absurd (cc)
    by_target (Some t) is h =
        let made : dynamic_as (goes_by_name (sites documents) s) t ≡ r = cc in
        let found = number_is_target (sites documents) (codes "$dynamicRef") s t is in
        record {
          site = s;
          stands = e;
          first = found.place;
          target = ap (λ q. place_at documents q.target) (sym made) ∙ found.stands;
          named = found.target;
          by_name = ap (λ q. q.by_name) (sym made);
        }

pub reference_is : (docs documents : Documents) (checked : ℕ
    → Option DynamicReference) (n place : ℕ) (r : DynamicReference) → docs ≡ documents → n ≡ place
    → IsSparseList checked (dynamic_in docs) (sites docs) → Some r ≡ checked n → IsReference documents place r
reference_is docs documents checked n place r same number e h =
    reference_by documents place r (place_at documents place) refl
    (sym (listed_under dynamic_in docs documents checked n place (Some r) same number e h))

pub target_place : (documents : Documents) (place : ℕ) (r : DynamicReference) → IsReference documents place r
    → is_place documents r.target ≡ true
target_place documents place r h =
    lt-ltb r.target (length (sites documents)) (slice_get_within (sites documents) r.target h.first h.target)

pub leads : (documents : Documents) (place : ℕ) (r : DynamicReference) (name : Option Text)
    → IsReference documents place r
    → name ≡ option_and_then (scope_name r.by_name) (place_at documents r.target)
    → IsFirstTarget documents place r.target name
leads documents place r name h is =
    let all = sites documents in
    let u = spec.reference (codes "$dynamicRef") h.site in
    let dynamic : r.by_name ≡ spec.is_dynamic u h.first = h.by_name
    ∙ ap (λ o. option_map_or (spec.is_dynamic u) o false) h.named in
    let same : name ≡ scope_name (spec.is_dynamic u h.first) h.first = is
    ∙ ap (option_and_then (scope_name r.by_name)) h.target ∙ ap (λ b. scope_name b h.first) dynamic in
    record {
      target = h.first;
      stands = h.target;
      decides = λ scope.
          let by_name = ap (λ o. unwrap_or (option_and_then (λ n. spec.outermost all n scope) o) h.first) same
          ∙ scope_is all scope u h.first in
          ap (option_and_then (spec.dynamic_ref_target all scope)) h.stands
          ∙ ap (option_map (spec.dynamic_of all scope u)) h.named ∙ ap Some (sym by_name);
    }

-- ---- there is one

some_of_map : {A B : Type 0} (f : A → B) (o : Option A) → is_some (option_map f o) ≡ is_some o
some_of_map f None = refl
some_of_map f (Some x) = refl

pub has_dynamic_ref_listed : (docs documents : Documents) (checked : ℕ → Option DynamicReference) (n place : ℕ)
    → docs ≡ documents → n ≡ place → IsClear (candidates docs)
    → IsSparseList checked (dynamic_in docs) (sites docs)
    → is_some (checked n) ≡ has_keyword (codes "$dynamicRef") documents place
has_dynamic_ref_listed docs documents checked n place same number clear e =
    has_listed dynamic_in (codes "$dynamicRef") docs documents checked n place same number e
    (λ s is. some_of_map (dynamic_as (goes_by_name (sites documents) s))
    (number_of_target (sites documents) (codes "$dynamicRef") s)
    ∙ has_target (sites documents) (codes "$dynamicRef") s (has_argument (codes "$dynamicRef") s.schema) refl
    (first_target_there documents (subst (λ ds. IsClear (candidates ds)) same clear) place s is))

pub reference_missing : (docs documents : Documents) (checked : ℕ → Option DynamicReference) (n place : ℕ)
    → docs ≡ documents → n ≡ place → IsClear (candidates docs)
    → IsSparseList checked (dynamic_in docs) (sites docs)
    → has_keyword (codes "$dynamicRef") documents place ≡ true → ¬ (None ≡ checked n)
reference_missing docs documents checked n place same number clear e there =
    not_missing (checked n) (has_dynamic_ref_listed docs documents checked n place same number clear e ∙ there)
