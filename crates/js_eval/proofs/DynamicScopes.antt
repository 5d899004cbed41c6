-- The numbers of a path's resources, of equal neighbours one.
use Rattle.std.proofs.Common.{◌≡◌, ℕ, suc, ◌-◌, Bool, false, cond, List, [], ◌∷◌, ◌++◌, length, map}
use Rattle.std.proofs.Common.{get_or, nat_eq, slice_get, Option, Some, option_to_list, option_and_then}
use Rattle.std.proofs.Common.{unwrap_or, true, take, arith, refl, sym, ap, ◌∙◌}
use Rattle.std.proofs.lemmas.Bool.{and_parts, eqb-true}
use Rattle.std.proofs.lemmas.List.{append-nil}
use Rattle.std.proofs.Math.Seq.{take-append_seam, take-length}
use Rattle.std.proofs.lemmas.Option.{slice_get-get_or}
use borrow.Author.Tests.{ltb-true}
use Rattle.std.specs.List.{dedup, dedup_from, flat_map, list_all}
use Rattle.std.specs.Option.{option_map_or}
use Rattle.js_bundle.specs.Document.{Documents}
use Rattle.js_bundle.specs.Resource.{Site, sites}
use Rattle.js_bundle.specs.ResourceNumber.{number_of_resource, dynamic_ref_target_in, NumbersResources, ScopeByNumbers}
use Rattle.js_bundle.specs.Schemas.{is_place, place_at, path_at}
use Rattle.js_bundle.specs.Target.{dynamic_ref_target}
use Rattle.js_eval.specs.Sited.{nowhere, resource_of}
use Rattle.js_eval.specs.Walk.DynamicScope.{HasGrown, ends_with}

pub last_is : (xs : List ℕ) (n : ℕ)
    → option_map_or (λ m. nat_eq n m) (slice_get xs (length xs - 1)) false ≡ ends_with xs n
last_is [] n = refl
last_is (m ∷ []) n = refl
last_is (m ∷ k ∷ ms) n =
    let e : length (m ∷ k ∷ ms) - 1 ≡ suc (length (k ∷ ms) - 1) = omega arith in
    ap (λ i. option_map_or (λ m. nat_eq n m) (slice_get (m ∷ k ∷ ms) i) false) e ∙ last_is (k ∷ ms) n

one_more : (b : Bool) (k n : ℕ) → cond b (k ∷ []) (k ∷ n ∷ []) ≡ k ∷ cond b [] (n ∷ [])
one_more true k n = refl
one_more false k n = refl

step : (b : Bool) (k x : ℕ) (xs : List ℕ) (n : ℕ) → nat_eq x k ≡ b
    → dedup_from nat_eq k (xs ++ n ∷ []) ≡ dedup_from nat_eq k xs ++ cond (ends_with (k ∷ xs) n) [] (n ∷ [])
    → dedup_from nat_eq x (xs ++ n ∷ []) ≡ dedup_from nat_eq x xs ++ cond (ends_with (x ∷ xs) n) [] (n ∷ [])
    → cond b (dedup_from nat_eq k (xs ++ n ∷ [])) (k ∷ dedup_from nat_eq x (xs ++ n ∷ []))
    ≡ cond b (dedup_from nat_eq k xs) (k ∷ dedup_from nat_eq x xs) ++ cond (ends_with (x ∷ xs) n) [] (n ∷ [])
step true k x xs n e h i = h
    ∙ ap (λ (m : ℕ). dedup_from nat_eq k xs ++ cond (ends_with (m ∷ xs) n) [] (n ∷ [])) (sym (eqb-true x k e))
step false k x xs n e h i = ap (λ (ms : List ℕ). k ∷ ms) i

pub last_some : (o : Option ℕ) (m n : ℕ) (b : Bool) → o ≡ Some m
    → option_map_or (λ m. nat_eq n m) o false ≡ b → nat_eq n m ≡ b
last_some o m n b e f = ap (λ (x : Option ℕ). option_map_or (λ m. nat_eq n m) x false) (sym e) ∙ f

from_last : (k : ℕ) (xs : List ℕ) (n : ℕ)
    → dedup_from nat_eq k (xs ++ n ∷ []) ≡ dedup_from nat_eq k xs ++ cond (ends_with (k ∷ xs) n) [] (n ∷ [])
from_last k [] n = one_more (nat_eq n k) k n
from_last k (x ∷ xs) n = step (nat_eq x k) k x xs n refl (from_last k xs n) (from_last x xs n)

pub dedup_last : (xs : List ℕ) (n : ℕ)
    → dedup nat_eq (xs ++ n ∷ []) ≡ dedup nat_eq xs ++ cond (ends_with xs n) [] (n ∷ [])
dedup_last [] n = refl
dedup_last (x ∷ xs) n = from_last x xs n

-- of equal neighbours one: the last stays the last
later : (k x : ℕ) (xs : List ℕ) (n : ℕ)
    → ends_with (k ∷ dedup_from nat_eq x xs) n ≡ ends_with (dedup_from nat_eq x xs) n
later k x [] n = refl
later k x (y ∷ ys) n = later_by (nat_eq y x) k x y ys n (later k x ys n)
  where
    later_by : (b : Bool) (k x y : ℕ) (ys : List ℕ) (n : ℕ)
        → ends_with (k ∷ dedup_from nat_eq x ys) n ≡ ends_with (dedup_from nat_eq x ys) n
        → ends_with (k ∷ cond b (dedup_from nat_eq x ys) (x ∷ dedup_from nat_eq y ys)) n
        ≡ ends_with (cond b (dedup_from nat_eq x ys) (x ∷ dedup_from nat_eq y ys)) n
    later_by true k x y ys n h = h
    later_by false k x y ys n h = refl

same_last : (b : Bool) (k x : ℕ) (xs : List ℕ) (n : ℕ) → nat_eq x k ≡ b
    → ends_with (dedup_from nat_eq k xs) n ≡ ends_with (k ∷ xs) n
    → ends_with (dedup_from nat_eq x xs) n ≡ ends_with (x ∷ xs) n
    → ends_with (cond b (dedup_from nat_eq k xs) (k ∷ dedup_from nat_eq x xs)) n ≡ ends_with (x ∷ xs) n
same_last true k x xs n e h i = h ∙ ap (λ (m : ℕ). ends_with (m ∷ xs) n) (sym (eqb-true x k e))
same_last false k x xs n e h i = later k x xs n ∙ i

ends_from : (k : ℕ) (xs : List ℕ) (n : ℕ) → ends_with (dedup_from nat_eq k xs) n ≡ ends_with (k ∷ xs) n
ends_from k [] n = refl
ends_from k (x ∷ xs) n = same_last (nat_eq x k) k x xs n refl (ends_from k xs n) (ends_from x xs n)

ends_alike : (xs : List ℕ) (n : ℕ) → ends_with (dedup nat_eq xs) n ≡ ends_with xs n
ends_alike [] n = refl
ends_alike (x ∷ xs) n = ends_from x xs n

more : (xs : List ℕ) (n : ℕ) (b : Bool) → ends_with (dedup nat_eq xs) n ≡ b
    → dedup nat_eq (xs ++ n ∷ []) ≡ dedup nat_eq xs ++ cond b [] (n ∷ [])
more xs n b e = dedup_last xs n ∙ ap (λ (x : Bool). dedup nat_eq xs ++ cond x [] (n ∷ [])) (sym (ends_alike xs n) ∙ e)

-- a place more of the resource that the path ends in, and of another one
pub stays : (numbers from : List ℕ) (n : ℕ) (b : Bool) → from ≡ numbers → b ≡ ends_with from n → b ≡ true
    → HasGrown numbers n numbers
stays numbers from n b f g h = record {
  scope = λ each e. let t : ends_with (dedup nat_eq each) n
      ≡ true = ap (λ (xs : List ℕ). ends_with xs n) (sym e ∙ sym f) ∙ (sym g ∙ h) in
      e ∙ (sym (append-nil (dedup nat_eq each)) ∙ sym (more each n true t));
  kept = take-length numbers;
}

pub grows : (numbers numbers' from : List ℕ) (n : ℕ) (b : Bool) → from ≡ numbers → b ≡ ends_with from n → b ≡ false
    → numbers' ≡ numbers ++ n ∷ [] → HasGrown numbers n numbers'
grows numbers numbers' from n b f g h a = record {
  scope = λ each e. let t : ends_with (dedup nat_eq each) n
      ≡ false = ap (λ (xs : List ℕ). ends_with xs n) (sym e ∙ sym f) ∙ (sym g ∙ h) in
      a ∙ (ap (λ (xs : List ℕ). xs ++ n ∷ []) e ∙ sym (more each n false t));
  kept = ap (take (length numbers)) a ∙ take-append_seam numbers (n ∷ []);
}

-- ---- the numbers of the resources of a path

one_number : (o : Option Site) (s : Site) (number : Site → Option ℕ) (m : ℕ) (ns : List ℕ)
    → o ≡ Some s → number s ≡ Some m
    → option_to_list (number s) ++ ns ≡ unwrap_or (option_and_then number o) 0 ∷ ns
one_number o s number m ns e f = rw (e, f) refl

pub numbers_are : NumbersResources → (documents : Documents) (path : List ℕ) → list_all (is_place documents) path ≡ true
    → flat_map (λ place. option_to_list (number_of_resource (sites documents) place)) (path_at documents path)
    ≡ map (resource_of documents) path
numbers_are law documents [] h = refl
numbers_are law documents (n ∷ path) h =
    let p = and_parts _ _ h in
    let s = get_or (sites documents) n nowhere in
    let e : place_at documents n
    ≡ Some s = slice_get-get_or (sites documents) n nowhere (ltb-true n (length (sites documents)) p.0) in
    let m = (law documents).numbered n s e in
    ap (λ (o : Option Site). flat_map (λ place. option_to_list (number_of_resource (sites documents) place))
    (option_to_list o ++ path_at documents path)) e
    ∙ ap (λ (ns : List ℕ). option_to_list (number_of_resource (sites documents) s) ++ ns)
    (numbers_are law documents path p.1)
    ∙ one_number (place_at documents n) s (number_of_resource (sites documents)) m.0
    (map (resource_of documents) path) e m.1

pub led_alike : NumbersResources → ScopeByNumbers → (documents : Documents) (path resources : List ℕ) (place : ℕ)
    → list_all (is_place documents) path ≡ true
    → resources ≡ dedup nat_eq (map (resource_of documents) path)
    → option_and_then (dynamic_ref_target_in (sites documents) resources) (place_at documents place)
    ≡ option_and_then (dynamic_ref_target (sites documents) (path_at documents path)) (place_at documents place)
led_alike law scope documents path resources place h e =
    ap (λ (ns : List ℕ). option_and_then (dynamic_ref_target_in (sites documents) ns) (place_at documents place))
    (e ∙ ap (dedup nat_eq) (sym (numbers_are law documents path h)))
    ∙ scope documents path place
