-- Where documents aren't refused, each reference has its target.
use Rattle.std.proofs.Common.{◌≡◌, ℕ, zero, suc, List, [], ◌∷◌, ◌++◌, length, Bool, true, false, not, nat_lt}
use Rattle.std.proofs.Common.{inl, inr, codes, if◌then◌else◌, Ok, Err, Option, Some, None, option_and_then}
use Rattle.std.proofs.Common.{is_some, is_none, slice_get, refl, sym, ap, ◌∙◌, subst}
use Rattle.std.specs.List.{flat_map, list_any}
use Rattle.std.specs.Str.{bytes_eq}
use Rattle.url.specs.Parts.{Parts}
use Rattle.url.specs.Parser.{Parsed, parse_url}
use Rattle.js_doc.specs.Pointer.{Tokens}
use Rattle.js_doc.specs.Value.{Value, null, truth, whole, text, list, object}
use Rattle.js_doc.specs.Parts.{members_of}
use Rattle.js_keyword.proofs.KeywordNames.{which_by_name}
use Rattle.js_keyword.specs.Keyword.{row_of, which_keyword}
use Rattle.js_keyword.specs.declared.argument_form.ArgumentForm.TheVariants as form
use Rattle.js_keyword.specs.declared.keyword.Keyword.TheVariants.{Ref, DynamicRef}
use Rattle.js_bundle.specs.declared.refusal.RefusalKind.{RefusalKind}
use Rattle.js_bundle.specs.declared.refusal.RefusalKind.TheVariants.{BadKeyword, BadReference, Unresolved, UriTooLong}
use Rattle.js_bundle.specs.Candidate.{Candidate, IsClear}
use Rattle.js_bundle.specs.Document.{Documents}
use Rattle.js_bundle.specs.code.PlaceNumbers.{number_named}
use Rattle.js_bundle.specs.Finding.{number_of_target}
use Rattle.js_assert.specs.Shape.{is_string}
use Rattle.js_bundle.specs.Shape.{has_form, is_shaped}
use Rattle.js_bundle.specs.Keyword.{Text, argument, has_argument, as_text, text_argument}
use Rattle.js_bundle.specs.Names.{names, named, is_read}
use Rattle.js_bundle.specs.Refusals.{when, decided, assertion_rules, on_text, text_rules, name_rules, at_place}
use Rattle.js_bundle.specs.Refusals.{at_member, at_site, first_pass, at_joined_reference, at_reference_text}
use Rattle.js_bundle.specs.Refusals.{at_reference, at_references, second_pass, candidates}
use Rattle.js_bundle.specs.Resource.{Site, sites, joined}
use Rattle.js_bundle.specs.Target.{reference, first_target}
use Rattle.js_bundle.specs.Url.{longest_uri, parsed, decoded_fragment}
use Rattle.js_bundle.proofs.Finding.HeldIsFound.{get_among}
use Rattle.js_bundle.proofs.Listing.LeastSetListed.{Among}
use Rattle.js_bundle.proofs.Indexing.FoundByText.{none_alike}
use Rattle.js_bundle.proofs.Indexing.FirstFound.{number_finds}
use Rattle.js_bundle.proofs.Checking.CheckStops.{clear_here, clear_there}

-- ---- what is clear at one of several

pub never : (place : Site) (further : Tokens) (kind : RefusalKind) → ¬ (IsClear (decided place further kind))
never place further kind h = let no : true ≡ false = h.0.0 in absurd (cc)

pub not_when : (b : Bool) (place : Site) (further : Tokens) (kind : RefusalKind)
    → IsClear (when b (decided place further kind)) → b ≡ false
not_when false place further kind h = refl
not_when true place further kind h = absurd (never place further kind h)

pub clear_among : {A : Type 0} (f : A → List Candidate) (xs : List A) (x : A) → IsClear (flat_map f xs)
    → Among x xs → IsClear (f x)
clear_among f [] x h a = absurd a
clear_among f (y ∷ xs) x h (inl e) = subst (λ z. IsClear (f z)) (sym e) (clear_here (f y) (flat_map f xs) h)
clear_among f (y ∷ xs) x h (inr a) = clear_among f xs x (clear_there (f y) (flat_map f xs) h) a

clear_at : {A : Type 0} (f : A → List Candidate) (xs : List A) (n : ℕ) (x : A) → IsClear (flat_map f xs)
    → slice_get xs n ≡ Some x → IsClear (f x)
clear_at f [] n x h e = absurd (cc)
clear_at f (y ∷ xs) zero x h e = let same : y ≡ x = cc in
    subst (λ z. IsClear (f z)) same (clear_here (f y) (flat_map f xs) h)
clear_at f (y ∷ xs) (suc n) x h e = clear_at f xs n x (clear_there (f y) (flat_map f xs) h) e

site_clear : (before all : List Site) (n : ℕ) (s : Site) → IsClear (first_pass before all) → slice_get all n ≡ Some s
    → (b : List Site) × IsClear (at_site b s)
site_clear before [] n s h e = absurd (cc)
site_clear before (x ∷ all) zero s h e =
    let same : x ≡ s = cc in (
      before,
      subst (λ y. IsClear (at_site before y)) same
          (clear_here (at_site before x) (first_pass (before ++ x ∷ []) all) h),
    )
site_clear before (x ∷ all) (suc n) s h e =
    site_clear (before ++ x ∷ []) all n s (clear_there (at_site before x) (first_pass (before ++ x ∷ []) all) h) e

-- the shape of each keyword of each place
pub shape_clear : (before all : List Site) (n : ℕ) (s : Site) → IsClear (first_pass before all)
    → slice_get all n ≡ Some s → (k : Text) (v : Value) → argument k s.schema ≡ Some v → is_shaped k v ≡ true
shape_clear before all n s h e k v g =
    let there = site_clear before all n s h e in
    let b = there.0 in
    let keyword = clear_among (at_member b s) (members_of s.schema) (k, v) (clear_there (at_place b s)
    (flat_map (at_member b s) (members_of s.schema)) there.1) (get_among k v (members_of s.schema) g) in
    shaped (is_shaped k v) (not_when (not (is_shaped k v)) s (k ∷ []) BadKeyword
    (clear_here (when (not (is_shaped k v)) (decided s (k ∷ []) BadKeyword))
    (assertion_rules s k v ++ (on_text (text_rules b s k) v ++ name_rules s k v)) keyword))
  where
    shaped : (b : Bool) → not b ≡ false → b ≡ true
    shaped true e = refl
    shaped false e = absurd (let no : true ≡ false = e in cc)

-- ---- a reference is a text

abbrev IsTextual : Text → Type 0
IsTextual k = (row_of (which_keyword k)).form ≡ form.Text

text_shape : (k : Text) (v : Value) → IsTextual k → is_shaped k v ≡ true → is_string v ≡ true
text_shape k v e h = ap (λ f. has_form f v) (sym e) ∙ h

is_as_text : (v : Value) → is_string v ≡ true → is_some (as_text v) ≡ true
is_as_text null e = absurd (cc)
is_as_text (truth b) e = absurd (cc)
is_as_text (whole z) e = absurd (cc)
is_as_text (text t) e = refl
is_as_text (list vs) e = absurd (cc)
is_as_text (object ms) e = absurd (cc)

some_text : (o : Option Value) → is_some o ≡ true → ((v : Value) → o ≡ Some v → is_string v ≡ true)
    → is_some (option_and_then as_text o) ≡ true
some_text None e h = absurd (cc)
some_text (Some v) e h = is_as_text v (h v refl)

-- ---- and leads to a place

found_by : (all : List Site) (uri : Parts) (place : Site) (further : Tokens) (b : Bool)
    → IsClear (if b then when (is_none (named all uri)) (decided place further Unresolved) else decided place further
    BadReference) → is_none (named all uri) ≡ false
found_by all uri place further true h = not_when (is_none (named all uri)) place further Unresolved h
found_by all uri place further false h = absurd (never place further BadReference h)

some_of : {A : Type 0} (o : Option A) → is_none o ≡ false → is_some o ≡ true
some_of None e = absurd (cc)
some_of (Some x) e = refl

joined_found : (all : List Site) (place : Site) (further : Tokens) (p : Parsed Parts)
    → IsClear (at_joined_reference all place further p) → is_some (option_and_then (number_named all) (parsed p)) ≡ true
joined_found all place further (Ok uri) h = some_of (number_named all uri)
    (none_alike (names all uri) 0 all ∙ found_by all uri place further (is_read (decoded_fragment uri)) h)
joined_found all place further (Err e) h = absurd (never place further BadReference h)

short_found : (all : List Site) (place : Site) (further : Tokens) (p : Parsed Parts) (b : Bool)
    → IsClear (if b then decided place further UriTooLong else at_joined_reference all place further p)
    → is_some (option_and_then (number_named all) (if b then None else parsed p)) ≡ true
short_found all place further p true h = absurd (never place further UriTooLong h)
short_found all place further p false h = joined_found all place further p h

text_found : (all : List Site) (place : Site) (further : Tokens) (o : Option Text) → is_some o ≡ true
    → IsClear (at_reference_text all place further o)
    → is_some (option_and_then (number_named all) (option_and_then (joined place.own.base) o)) ≡ true
text_found all place further None e h = absurd (cc)
text_found all place further (Some t) e h =
    short_found all place further (parse_url (Some place.own.base) t) (nat_lt longest_uri (length t)) h

resolved : (all : List Site) (n : ℕ) (s : Site) (k : Text) → IsTextual k → IsClear
    (first_pass [] all) → IsClear (at_reference all k s) → slice_get all n ≡ Some s → has_argument k s.schema ≡ true
    → is_some (number_of_target all k s) ≡ true
resolved all n s k is h g e there =
    text_found all s (k ∷ []) (text_argument k s.schema)
    (some_text (argument k s.schema) there (λ v a. text_shape k v is (shape_clear [] all n s h e k v a))) g

references_clear : (documents : Documents) (n : ℕ) (s : Site) → IsClear (candidates documents)
    → slice_get (sites documents) n ≡ Some s → IsClear (at_references (sites documents) s)
references_clear documents n s h e =
    let all = sites documents in
    clear_at (at_references all) all n s (clear_there (first_pass [] all) (second_pass all) h) e

-- where the reference of a place is clear, it has a target
reference_found : (documents : Documents) → IsClear (candidates documents) → (n : ℕ) (s : Site) (k : Text)
    → IsTextual k → slice_get (sites documents) n ≡ Some s
    → IsClear (at_reference (sites documents) k s) → has_argument k s.schema ≡ true
    → is_some (number_of_target (sites documents) k s) ≡ true
reference_found documents h n s k is e clear there =
    resolved (sites documents) n s k is
    (clear_here (first_pass [] (sites documents)) (second_pass (sites documents)) h) clear e there

both_clear : (documents : Documents) (n : ℕ) (s : Site) → IsClear (candidates documents)
    → slice_get (sites documents) n ≡ Some s
    → IsClear (at_reference (sites documents) (codes "$dynamicRef") s)
    × IsClear (at_reference (sites documents) (codes "$ref") s)
both_clear documents n s h e =
    let dynamic = at_reference (sites documents) (codes "$dynamicRef") s in
    let plain = at_reference (sites documents) (codes "$ref") s in
    let clear = references_clear documents n s h e in
    (clear_here dynamic plain clear, clear_there dynamic plain clear)

-- each `$ref` of a place has a target
pub target_there : (documents : Documents) → IsClear (candidates documents) → (n : ℕ) (s : Site)
    → slice_get (sites documents) n ≡ Some s → has_argument (codes "$ref") s.schema ≡ true
    → is_some (number_of_target (sites documents) (codes "$ref") s) ≡ true
target_there documents h n s e there =
    reference_found documents h n s (codes "$ref") (ap (λ k. (row_of k).form) (which_by_name Ref)) e
    (both_clear documents n s h e).1 there

-- each `$dynamicRef` of a place has a first target
pub first_target_there : (documents : Documents) → IsClear (candidates documents) → (n : ℕ) (s : Site)
    → slice_get (sites documents) n ≡ Some s → has_argument (codes "$dynamicRef") s.schema ≡ true
    → is_some (number_of_target (sites documents) (codes "$dynamicRef") s) ≡ true
first_target_there documents h n s e there =
    reference_found documents h n s (codes "$dynamicRef") (ap (λ k. (row_of k).form) (which_by_name DynamicRef)) e
    (both_clear documents n s h e).0 there

-- ---- the target of that number

pub record IsTarget (all : List Site) (k : Text) (s : Site) (number : ℕ) : Type 0 where
  pub place : Site
  pub stands : slice_get all number ≡ Some place
  pub target : first_target all k s ≡ Some place

pub number_is_target : (all : List Site) (k : Text) (s : Site) (t : ℕ)
    → number_of_target all k s ≡ Some t → IsTarget all k s t
number_is_target all k s t e = by_reference (reference k s) refl e
  where
    by_reference : (o : Option Parts) → reference k s ≡ o
        → option_and_then (number_named all) o ≡ Some t → IsTarget all k s t
    by_reference None is e = absurd (cc)
    by_reference (Some uri) is e =
        let f = number_finds (names all uri) all t e in
        record { place = f.0; stands = f.2; target = ap (option_and_then (named all)) is ∙ f.1 }
