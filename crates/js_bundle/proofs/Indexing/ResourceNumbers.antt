-- The numbers of resources: each place has one, and what `$dynamicAnchor` names depends on it alone.
use Rattle.std.proofs.Common.{◌≡◌, ℕ, List, [], ◌∷◌, ◌++◌, Bool, true, false, cond, filter, flat_map, Option, Some}
use Rattle.std.proofs.Common.{None, is_some, option_map, option_and_then, option_to_list, unwrap_or, slice_get}
use Rattle.std.proofs.Common.{nat_eq, codes, if◌then◌else◌, refl, sym, ap, ap₂, ◌∙◌}
use Rattle.std.specs.List.{AllByRecursion, dedup, dedup_from, list_any, position_from}
use Rattle.std.specs.Option.{option_or}
use Rattle.std.proofs.lemmas.Bool.{eqb-true}
use Rattle.url.specs.Parts.{Parts}
use Rattle.js_bundle.specs.Document.{Documents}
use Rattle.js_bundle.specs.Keyword.{Text}
use Rattle.js_bundle.specs.Names.{stands_at}
use Rattle.js_bundle.specs.Resource.{Site, sites}
use Rattle.js_bundle.specs.ResourceNumber.{begins_resource, roots, number_of_resource, roots_at}
use Rattle.js_bundle.specs.ResourceNumber.{dynamic_ref_target_in, numbers_on, IsNumbering}
use Rattle.js_bundle.specs.PlaceNumber.{place_at, path_at}
use Rattle.js_bundle.specs.Target.{reference, first_target, dynamic_anchor, outermost}
use Rattle.js_bundle.specs.Target.{is_dynamic, dynamic_of, dynamic_ref_target}
use Rattle.js_bundle.specs.Url.{decoded_fragment}
use Rattle.js_bundle.proofs.Listing.EachListedOnce.{tokens-sound, at_place}
use Rattle.js_bundle.proofs.Indexing.IndexFinds.{any_first}
use Rattle.js_bundle.proofs.Indexing.FirstFound.{number_finds, number_passes}
use Rattle.js_bundle.proofs.Listing.RootsOfResources.{are_rooted}
use Rattle.js_bundle.proofs.Standing.{all_at}

-- ---- the root that has the number

pub filtered : {A : Type 0} (f : A → Bool) (xs : List A) → AllByRecursion (λ x. f x ≡ true) (filter f xs)
filtered f [] = tt
filtered f (x ∷ xs) = by_test (f x) refl (filtered f xs)
  where
    by_test : (b : Bool) → f x ≡ b → AllByRecursion (λ y. f y ≡ true) (filter f xs)
        → AllByRecursion (λ y. f y ≡ true) (cond b (x ∷ filter f xs) (filter f xs))
    by_test true e h = (e, h)
    by_test false e h = h

-- it is the root of the place's resource
pub record IsRootOf (all : List Site) (place : Site) (n : ℕ) : Type 0 where
  pub root : Site
  pub found : slice_get (roots all) n ≡ Some root
  pub document : root.document ≡ place.document
  pub resource : root.own.resource ≡ place.own.resource

pub root_of_number : (all : List Site) (place : Site) (n : ℕ)
    → number_of_resource all place ≡ Some n → IsRootOf all place n
root_of_number all place n e =
    let test = stands_at place.document place.own.resource in
    let found = number_finds test (roots all) n e in
    let there = at_place place.document place.own.resource found.0
    (number_passes test (roots all) n found.0 e found.2) in
    let begins : begins_resource found.0
    ≡ true = all_at (λ x. begins_resource x ≡ true) (roots all) n found.0 (filtered begins_resource all) found.2 in
    record {
      root = found.0;
      found = found.2;
      document = there.document;
      resource = sym (tokens-sound found.0.pointer found.0.own.resource begins) ∙ there.pointer;
    }

some_of : {A : Type 0} (o : Option A) → is_some o ≡ true → (x : A) × (o ≡ Some x)
some_of None e = absurd (cc)
some_of (Some x) e = (x, refl)

-- where its root is among the places, it has a number
pub number_there : (all : List Site) (place : Site) → list_any (stands_at place.document place.own.resource) (roots all)
    ≡ true → (n : ℕ) × (number_of_resource all place ≡ Some n)
number_there all place h =
    some_of (number_of_resource all place) (any_first (stands_at place.document place.own.resource) 0 (roots all) ∙ h)

pub numbered : (documents : Documents) (n : ℕ) (place : Site) → slice_get (sites documents) n ≡ Some place
    → (m : ℕ) × (number_of_resource (sites documents) place ≡ Some m)
numbered documents n place e =
    let all = sites documents in
    number_there all place (all_at (λ s. list_any (stands_at s.document s.own.resource) (roots all) ≡ true) all n place
    (are_rooted documents) e)

pub numbers_resources : (documents : Documents) → IsNumbering (sites documents)
numbers_resources documents = record {
  numbered = numbered documents;
  apart = λ n m s t e g h.
      let all = sites documents in
      let number = numbered documents n s e in
      let one = root_of_number all s number.0 number.1 in
      let other = root_of_number all t number.0 (sym h ∙ number.1) in
      let root : Some one.root ≡ Some other.root = sym one.found ∙ other.found in
      let is : one.root ≡ other.root = cc in (
        sym one.document ∙ ap (λ r. r.document) is ∙ other.document,
        sym one.resource
            ∙ ap (λ r. r.own.resource) is ∙ other.resource,
      );
  together = λ s t e g. ap₂ (λ d r. position_from (stands_at d r) 0 (roots (sites documents))) e g;
}

-- ---- the outermost resource with a name

-- places of one resource have the same names
pub same_anchor : (all : List Site) (name : Text) (s t : Site) → s.document ≡ t.document
    → s.own.resource ≡ t.own.resource → dynamic_anchor all name s ≡ dynamic_anchor all name t
same_anchor all name s t e g =
    ap₂ (λ d r. dynamic_anchor all name (record {
      document = d;
      pointer = t.pointer;
      above = t.above;
      own = record { resource = r; base = t.own.base };
      identifies = t.identifies;
      schema = t.schema;
    })) e g

or_none : {A : Type 0} (o : Option A) → option_or o None ≡ o
or_none None = refl
or_none (Some x) = refl

or_or : {A : Type 0} (o p q : Option A) → option_or (option_or o p) q ≡ option_or o (option_or p q)
or_or None p q = refl
or_or (Some x) p q = refl

or_again : {A : Type 0} (o p : Option A) → option_or o (option_or o p) ≡ option_or o p
or_again None p = refl
or_again (Some x) p = refl

outermost-append : (all : List Site) (name : Text) (xs ys : List Site)
    → outermost all name (xs ++ ys) ≡ option_or (outermost all name xs) (outermost all name ys)
outermost-append all name [] ys = refl
outermost-append all name (x ∷ xs) ys =
    ap (option_or (dynamic_anchor all name x)) (outermost-append all name xs ys)
    ∙ sym (or_or (dynamic_anchor all name x) (outermost all name xs) (outermost all name ys))

module _ (all : List Site) (name : Text) where
  -- of the resource with the number
  abbrev of_number : ℕ → Option Site
  of_number n = outermost all name (option_to_list (slice_get (roots all) n))

  -- of the first of the numbers
  abbrev of_numbers : List ℕ → Option Site
  of_numbers numbers = outermost all name (roots_at all numbers)

  one_more : (n : ℕ) (numbers : List ℕ) → of_numbers (n ∷ numbers) ≡ option_or (of_number n) (of_numbers numbers)
  one_more n numbers = outermost-append all name (option_to_list (slice_get (roots all) n)) (roots_at all numbers)

  -- of equal neighbours one is enough
  without_doubles : (n : ℕ) (numbers : List ℕ)
      → of_numbers (dedup_from nat_eq n numbers) ≡ option_or (of_number n) (of_numbers numbers)
  without_doubles n [] = one_more n []
  without_doubles n (m ∷ numbers) = by_test (nat_eq m n) refl (without_doubles n numbers) (without_doubles m numbers)
      ∙ sym (ap (option_or (of_number n)) (one_more m numbers))
    where
      by_test : (b : Bool) → nat_eq m n ≡ b
          → of_numbers (dedup_from nat_eq n numbers) ≡ option_or (of_number n) (of_numbers numbers)
          → of_numbers (dedup_from nat_eq m numbers) ≡ option_or (of_number m) (of_numbers numbers)
          → of_numbers (cond b (dedup_from nat_eq n numbers) (n ∷ dedup_from nat_eq m numbers))
          ≡ option_or (of_number n) (option_or (of_number m) (of_numbers numbers))
      by_test true e same next =
          let is : m ≡ n = eqb-true m n e in
          same ∙ sym (ap (λ k. option_or (of_number n) (option_or (of_number k) (of_numbers numbers))) is
          ∙ or_again (of_number n) (of_numbers numbers))
      by_test false e same next = one_more n (dedup_from nat_eq m numbers) ∙ ap (option_or (of_number n)) next

  all_without_doubles : (numbers : List ℕ) → of_numbers (dedup nat_eq numbers) ≡ of_numbers numbers
  all_without_doubles [] = refl
  all_without_doubles (n ∷ numbers) = without_doubles n numbers ∙ sym (one_more n numbers)

  -- the number of a place's resource gives what the place gives
  of_place : (place : Site) (n : ℕ) → number_of_resource all place ≡ Some n
      → of_number n ≡ dynamic_anchor all name place
  of_place place n e =
      let root = root_of_number all place n e in
      ap (λ o. outermost all name (option_to_list o)) root.found ∙ or_none (dynamic_anchor all name root.root)
      ∙ same_anchor all name root.root place root.document root.resource

-- ---- the law

module _ (documents : Documents) (name : Text) where
  abbrev pub numbers_of : List Site → List ℕ
  numbers_of path = flat_map (λ place. option_to_list (number_of_resource (sites documents) place)) path

  place_first : (n : ℕ) (place : Site) (path : List Site) → place_at documents n ≡ Some place
      → of_numbers (sites documents) name (numbers_of path) ≡ outermost (sites documents) name path → of_numbers
      (sites documents) name (numbers_of (place ∷ path)) ≡ outermost (sites documents) name (place ∷ path)
  place_first n place path e h =
      let all = sites documents in
      let number = numbered documents n place e in
      ap (λ o. of_numbers all name (option_to_list o ++ numbers_of path)) number.1
      ∙ one_more all name number.0 (numbers_of path)
      ∙ ap₂ option_or (of_place all name place number.0 number.1) h

  on_path : (path : List ℕ) → of_numbers (sites documents) name (numbers_of (path_at documents path))
      ≡ outermost (sites documents) name (path_at documents path)
  on_path [] = refl
  on_path (n ∷ path) = by_place (place_at documents n) refl (on_path path)
    where
      by_place : (o : Option Site) → place_at documents n ≡ o
          → of_numbers (sites documents) name (numbers_of (path_at documents path))
          ≡ outermost (sites documents) name (path_at documents path)
          → of_numbers (sites documents) name (numbers_of (option_to_list o ++ path_at documents path))
          ≡ outermost (sites documents) name (option_to_list o ++ path_at documents path)
      by_place None e h = h
      by_place (Some place) e h = place_first n place (path_at documents path) e h

pub outermost_by_numbers : (documents : Documents) (path : List ℕ) (name : Text)
    → outermost (sites documents) name (roots_at (sites documents) (numbers_on (sites documents)
    (path_at documents path))) ≡ outermost (sites documents) name (path_at documents path)
outermost_by_numbers documents path name =
    all_without_doubles (sites documents) name (numbers_of documents name (path_at documents path))
    ∙ on_path documents name path

-- what a reference leads to depends on the path by the outermost resources alone
module _ (all one other : List Site) (same : (name : Text) → outermost all name one ≡ outermost all name other) where
  same_led : (uri : Option Parts) (first : Site) → dynamic_of all one uri first ≡ dynamic_of all other uri first
  same_led None first = refl
  same_led (Some u) first =
      ap (λ o. if is_dynamic (Some u) first then unwrap_or o first else first) (same (decoded_fragment u))

  same_targets : (uri : Option Parts) (o : Option Site)
      → option_map (dynamic_of all one uri) o ≡ option_map (dynamic_of all other uri) o
  same_targets uri None = refl
  same_targets uri (Some first) = ap Some (same_led uri first)

  pub same_scope : (o : Option Site)
      → option_and_then (dynamic_ref_target all one) o ≡ option_and_then (dynamic_ref_target all other) o
  same_scope None = refl
  same_scope (Some place) =
      same_targets (reference (codes "$dynamicRef") place) (first_target all (codes "$dynamicRef") place)

pub scope_by_numbers : (documents : Documents) (path : List ℕ) (place : ℕ)
    → option_and_then (dynamic_ref_target_in (sites documents)
    (numbers_on (sites documents) (path_at documents path))) (place_at documents place)
    ≡ option_and_then (dynamic_ref_target (sites documents) (path_at documents path)) (place_at documents place)
scope_by_numbers documents path place =
    same_scope (sites documents) (roots_at (sites documents) (numbers_on (sites documents) (path_at documents path)))
    (path_at documents path) (outermost_by_numbers documents path) (place_at documents place)
