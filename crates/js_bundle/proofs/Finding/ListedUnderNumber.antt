-- What is kept under a place's number.
use Rattle.std.proofs.Common.{◌≡◌, ℕ, List, Bool, true, Option, Some, None, option_map, option_and_then, is_some}
use Rattle.std.proofs.Common.{slice_get, find, bytes_eq, codes, false, refl, sym, ap, ◌∙◌, subst}
use Rattle.std.specs.Option.{option_map_or}
use Rattle.js_doc.specs.Value.{Value}
use Rattle.js_assert.specs.Assertion.{Asserted}
use Rattle.js_keyword.specs.AssertionKeyword.{name_of}
use Rattle.js_bundle.specs.declared.check.assertions_and_patterns.BuiltPattern.{BuiltPattern}
use Rattle.js_bundle.specs.AssertionsAndPatterns.{assertions_at, patterns_at}
use Rattle.js_bundle.specs.Candidate.{IsClear}
use Rattle.js_bundle.specs.code.SparseList.{IsSparseList}
use Rattle.js_bundle.specs.Document.{Documents}
use Rattle.js_bundle.specs.code.PlaceNumbers.{number_named}
use Rattle.js_bundle.specs.Finding.{number_of_target}
use Rattle.js_bundle.specs.Keyword.{Text, argument, as_text, has_argument}
use Rattle.js_bundle.specs.Refusals.{candidates}
use Rattle.js_bundle.specs.Resource.{Site, joined, sites}
use Rattle.js_bundle.specs.PlaceNumber.{place_at}
use Rattle.js_bundle.specs.Schemas.{has_keyword, assertion, pattern, StandsFor}
use Rattle.js_bundle.specs.Seen.{AreRead}
use Rattle.js_bundle.specs.Target.{ref_target}
use Rattle.js_bundle.proofs.Finding.FoundByTest.{assertion_found, pattern_found}
use Rattle.js_bundle.proofs.Standing.{standing}
use Rattle.js_bundle.proofs.Checking.TargetsFound.{target_there, number_is_target}

-- ---- what was built of the place

assertion_by : (k : Text) (items : List Asserted) (o : Option Site) → option_map assertions_at o ≡ Some items
    → find (λ a. bytes_eq k (name_of a.keyword)) items ≡ option_and_then (assertion k) o
assertion_by k items None e = absurd (cc)
assertion_by k items (Some s) e =
    let same : assertions_at s ≡ items = cc in
    ap (find (λ a. bytes_eq k (name_of a.keyword))) (sym same) ∙ assertion_found k s

pub assertion_is : (documents : Documents) (place : ℕ) (k : Text) (items : List Asserted) (o : Option Asserted)
    → option_map assertions_at (place_at documents place) ≡ Some items
    → o ≡ find (λ a. bytes_eq k (name_of a.keyword)) items
    → o ≡ option_and_then (assertion k) (place_at documents place)
assertion_is documents place k items o e h = h ∙ assertion_by k items (place_at documents place) e

pattern_by : (documents : Documents) → AreRead documents → (place : ℕ) (name : Text) (items : List BuiltPattern)
    (o : Option Site) → place_at documents place ≡ o → option_map patterns_at o ≡ Some items
    → option_map (λ b. b.pattern) (find (λ b. bytes_eq name b.name) items) ≡ option_and_then (pattern name) o
pattern_by documents r place name items None is e = absurd (cc)
pattern_by documents r place name items (Some s) is e =
    let same : patterns_at s ≡ items = cc in
    ap (λ bs. option_map (λ b. b.pattern) (find (λ b. bytes_eq name b.name) bs)) (sym same)
    ∙ pattern_found name s (standing documents r.ordered r.short place s is).ascends

pub pattern_is : (documents : Documents) → AreRead documents
    → (place : ℕ) (name : Text) (items : List BuiltPattern) (o : Option BuiltPattern)
    → option_map patterns_at (place_at documents place) ≡ Some items → o ≡ find (λ b. bytes_eq name b.name) items
    → option_map (λ b. b.pattern) o ≡ option_and_then (pattern name) (place_at documents place)
pattern_is documents r place name items o e h = ap (option_map (λ b. b.pattern)) h
    ∙ pattern_by documents r place name items (place_at documents place) refl e

-- ---- what stands in a list with an entry for each place

-- what is kept of finished schemas
pub listed_under : {A : Type 0} (f : Documents → Site → Option A) (docs documents : Documents) (checked : ℕ
    → Option A) (n place : ℕ) (o : Option A) → docs ≡ documents → n ≡ place
    → IsSparseList checked (f docs) (sites docs) → o ≡ checked n
    → o ≡ option_and_then (f documents) (place_at documents place)
listed_under f docs documents checked n place o same number e h =
    h ∙ e.recorded n ∙ ap (λ m. option_and_then (f docs) (slice_get (sites docs) m)) number
    ∙ ap (λ ds. option_and_then (f ds) (place_at ds place)) same

-- ---- targets

abbrev pub plain_at : Documents → Site → Option ℕ
plain_at documents = number_of_target (sites documents) (codes "$ref")

target_by : (documents : Documents) (place : ℕ) (o : Option Site) (t : ℕ) → place_at documents place ≡ o
    → option_and_then (plain_at documents) o ≡ Some t
    → StandsFor documents t (option_and_then (ref_target (sites documents)) o)
target_by documents place None t is e = absurd (cc)
target_by documents place (Some s) t is e = let found = number_is_target (sites documents) (codes "$ref") s t e in
    (found.place, found.target, found.stands)

pub target_is : (docs documents : Documents) (checked : ℕ → Option ℕ) (n place t : ℕ) → docs ≡ documents → n ≡ place
    → IsSparseList checked (plain_at docs) (sites docs) → Some t ≡ checked n
    → StandsFor documents t (option_and_then (ref_target (sites documents)) (place_at documents place))
target_is docs documents checked n place t same number e h =
    target_by documents place (place_at documents place) t refl
    (sym (listed_under plain_at docs documents checked n place (Some t) same number e h))

-- ---- whether there is one

no_reference : (all : List Site) (k : Text) (s : Site) → has_argument k s.schema ≡ false
    → is_some (number_of_target all k s) ≡ false
no_reference all k s e = by_argument (argument k s.schema) refl e
  where
    by_argument : (o : Option Value) → argument k s.schema ≡ o → is_some o ≡ false
        → is_some (number_of_target all k s) ≡ false
    by_argument None is e = ap (λ o. is_some
        (option_and_then (number_named all) (option_and_then (joined s.own.base) (option_and_then as_text o)))) is
    by_argument (Some v) is e = absurd (cc)

-- a place has a target exactly where it has the keyword
pub has_target : (all : List Site) (k : Text) (s : Site) (b : Bool) → has_argument k s.schema ≡ b
    → (has_argument k s.schema ≡ true → is_some (number_of_target all k s) ≡ true)
    → is_some (number_of_target all k s) ≡ has_argument k s.schema
has_target all k s true e there = there e ∙ sym e
has_target all k s false e there = no_reference all k s e ∙ sym e

pub has_listed : {A : Type 0} (f : Documents → Site → Option A) (k : Text) (docs documents : Documents) (checked : ℕ
    → Option A) (n place : ℕ) → docs ≡ documents → n ≡ place
    → IsSparseList checked (f docs) (sites docs)
    → ((s : Site) → place_at documents place ≡ Some s → is_some (f documents s) ≡ has_argument k s.schema)
    → is_some (checked n) ≡ has_keyword k documents place
has_listed f k docs documents checked n place same number e h =
    ap is_some (listed_under f docs documents checked n place (checked n) same number e refl)
    ∙ by_place (place_at documents place) refl
  where
    by_place : (o : Option Site) → place_at documents place ≡ o
        → is_some (option_and_then (f documents) o) ≡ option_map_or (λ s. has_argument k s.schema) o false
    by_place None is = refl
    by_place (Some s) is = h s is

pub has_ref_listed : (docs documents : Documents) (checked : ℕ → Option ℕ) (n place : ℕ) → docs ≡ documents → n ≡ place
    → IsClear (candidates docs)
    → IsSparseList checked (plain_at docs) (sites docs)
    → is_some (checked n) ≡ has_keyword (codes "$ref") documents place
has_ref_listed docs documents checked n place same number clear e =
    has_listed plain_at (codes "$ref") docs documents checked n place same number e
    (λ s is. has_target (sites documents) (codes "$ref") s (has_argument (codes "$ref") s.schema) refl
    (target_there documents (subst (λ ds. IsClear (candidates ds)) same clear) place s is))

pub not_missing : {A : Type 0} (o : Option A) → is_some o ≡ true → ¬ (None ≡ o)
not_missing o some h =
    let none : is_some o ≡ false = ap is_some (sym h) in
    absurd (cc)

pub target_missing : (docs documents : Documents) (checked : ℕ → Option ℕ) (n place : ℕ) → docs ≡ documents → n ≡ place
    → IsClear (candidates docs)
    → IsSparseList checked (plain_at docs) (sites docs)
    → has_keyword (codes "$ref") documents place ≡ true → ¬ (None ≡ checked n)
target_missing docs documents checked n place same number clear e there =
    not_missing (checked n) (has_ref_listed docs documents checked n place same number clear e ∙ there)
