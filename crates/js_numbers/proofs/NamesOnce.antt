-- No object has a key twice exactly if the test says so.
use Rattle.std.proofs.Common.{◌≡◌, ◌≢◌, ℕ, zero, suc, ◌<◌, List, [], ◌∷◌, Bool, true, false, not, ◌&&◌, ◌||◌}
use Rattle.std.proofs.Common.{IsSomeAnd, Option, Some, None, arith, bytes_eq, cond, length, refl, sym, ap, ◌∙◌}
use Rattle.std.proofs.Common.{◌⊎◌, IfErr, IfOk, Result, Ok, Err, slice_index_or, subst}
use Rattle.std.specs.List.{list_any}
use Rattle.std.specs.Prelude.{option_and_then, option_map}
use Rattle.std.proofs.lemmas.Bool.{and_parts}
use Rattle.json.specs.Json.{Json, null, boolean, number, string, array, object, Items, no_items, item, Members}
use Rattle.json.specs.Json.{no_members, member}
use Rattle.json.specs.Strict.{AreDistinct, HasUniqueKeys, ItemsHaveUniqueKeys, MembersHaveUniqueKeys, keys}
use mathlib.Core.Logic.{inl, inr}
use Rattle.js_doc.proofs.TokenLookup.{is_text-refl, is_text-sound}
use Rattle.js_upgrade.specs.declared.dialect.Dialect.{Dialect}
use Rattle.js_numbers.specs.Names.{are_distinct, has_names_once, items_have_names_once, members_have_names_once}
use Rattle.js_numbers.specs.Schema.{exact_or, exact_root}
use Rattle.js_numbers.specs.declared.error.TextError.{TextError}
use Rattle.js_numbers.specs.declared.error.TextError.TheVariants.{Memory, NotJson, RepeatedName}

-- ---- names that differ

abbrev Keys : Type 0
Keys = List (List ℕ)

none_by : (k x : List ℕ) (xs : Keys) (same : Bool) → bytes_eq k x ≡ same → k ≢ x
    → list_any (bytes_eq k) xs ≡ false → (same || list_any (bytes_eq k) xs) ≡ false
none_by k x xs true is other rest = absurd (other (is_text-sound k x is))
none_by k x xs false is other rest = rest

none_equal : (k : List ℕ) (ks : Keys) → ((j : ℕ) (d : List ℕ) → j < length ks → k ≢ slice_index_or ks j d)
    → list_any (bytes_eq k) ks ≡ false
none_equal k [] other = refl
none_equal k (x ∷ xs) other =
    none_by k x xs (bytes_eq k x) refl (other zero [] (omega arith))
    (none_equal k xs (λ j d low. other (suc j) d (omega (arith, low))))

first_false : (a b : Bool) → (a || b) ≡ false → a ≡ false
first_false false b none = refl
first_false true b none = absurd (cc)

rest_false : (a b : Bool) → (a || b) ≡ false → b ≡ false
rest_false false b none = none
rest_false true b none = absurd (cc)

not_true : (b : Bool) → not b ≡ true → b ≡ false
not_true false is = refl
not_true true is = absurd (cc)

other_than : (k : List ℕ) (ks : Keys) (j : ℕ) (d : List ℕ) → list_any (bytes_eq k) ks ≡ false → j < length ks
    → k ≢ slice_index_or ks j d
other_than k [] j d none low = absurd (omega (arith, low))
other_than k (x ∷ xs) zero d none low = λ same.
    let wrong : true ≡ false = sym (ap (bytes_eq k) (sym same) ∙ is_text-refl k)
    ∙ first_false (bytes_eq k x) (list_any (bytes_eq k) xs) none in
    absurd (cc)
other_than k (x ∷ xs) (suc j) d none low =
    other_than k xs j d (rest_false (bytes_eq k x) (list_any (bytes_eq k) xs) none) (omega (arith, low))

-- ---- lists of names

both_true : (a b : Bool) → a ≡ false → b ≡ true → (not a && b) ≡ true
both_true false b none is = is
both_true true b none is = absurd (cc)

distinct_holds : (ks : Keys) → AreDistinct ks → are_distinct ks ≡ true
distinct_holds [] all = refl
distinct_holds (k ∷ ks) all =
    both_true (list_any (bytes_eq k) ks) (are_distinct ks)
    (none_equal k ks (λ j d low. all zero (suc j) d (omega arith) (omega (arith, low))))
    (distinct_holds ks (λ i j d less low. all (suc i) (suc j) d (omega (arith, less)) (omega (arith, low))))

distinct_given : (ks : Keys) → are_distinct ks ≡ true → AreDistinct ks
distinct_given [] is i j d less low = absurd (omega (arith, low))
distinct_given (k ∷ ks) is i zero d less low = absurd (omega (arith, less))
distinct_given (k ∷ ks) is zero (suc j) d less low =
    other_than k ks j d (not_true (list_any (bytes_eq k) ks)
    (and_parts (not (list_any (bytes_eq k) ks)) (are_distinct ks) is).0) (omega (arith, low))
distinct_given (k ∷ ks) is (suc i) (suc j) d less low =
    distinct_given ks (and_parts (not (list_any (bytes_eq k) ks)) (are_distinct ks) is).1 i j d (omega (arith, less))
    (omega (arith, low))

-- ---- values

and_true : (a b : Bool) → a ≡ true → b ≡ true → (a && b) ≡ true
and_true true b x y = y
and_true false b x y = absurd (cc)

mutual
  pub once_holds : (j : Json) → HasUniqueKeys j → has_names_once j ≡ true
  once_holds null h = refl
  once_holds (boolean b) h = refl
  once_holds (number s) h = refl
  once_holds (string s) h = refl
  once_holds (array js) h = items_hold js h
  once_holds (object ms) h =
      and_true (are_distinct (keys ms)) (members_have_names_once ms) (distinct_holds (keys ms) h.0)
      (members_hold ms h.1)

  items_hold : (js : Items) → ItemsHaveUniqueKeys js → items_have_names_once js ≡ true
  items_hold no_items h = refl
  items_hold (item j js) h =
      and_true (has_names_once j) (items_have_names_once js) (once_holds j h.0) (items_hold js h.1)

  members_hold : (ms : Members) → MembersHaveUniqueKeys ms → members_have_names_once ms ≡ true
  members_hold no_members h = refl
  members_hold (member k j ms) h =
      and_true (has_names_once j) (members_have_names_once ms) (once_holds j h.0) (members_hold ms h.1)

mutual
  pub once_given : (j : Json) → has_names_once j ≡ true → HasUniqueKeys j
  once_given null is = tt
  once_given (boolean b) is = tt
  once_given (number s) is = tt
  once_given (string s) is = tt
  once_given (array js) is = items_given js is
  once_given (object ms) is =
      let parts = and_parts (are_distinct (keys ms)) (members_have_names_once ms) is in
      (distinct_given (keys ms) parts.0, members_given ms parts.1)

  items_given : (js : Items) → items_have_names_once js ≡ true → ItemsHaveUniqueKeys js
  items_given no_items is = tt
  items_given (item j js) is =
      let parts = and_parts (has_names_once j) (items_have_names_once js) is in
      (once_given j parts.0, items_given js parts.1)

  members_given : (ms : Members) → members_have_names_once ms ≡ true → MembersHaveUniqueKeys ms
  members_given no_members is = tt
  members_given (member k j ms) is =
      let parts = and_parts (has_names_once j) (members_have_names_once ms) is in
      (once_given j parts.0, members_given ms parts.1)

-- ---- documents

pub exact_there : (assumed : Dialect) (x : Option Json) (exact : List ℕ)
    → option_map (exact_root assumed) x ≡ Some exact → IsSomeAnd x HasUniqueKeys
    → option_and_then (exact_or assumed) x ≡ Some exact
exact_there assumed None exact is h = absurd (cc)
exact_there assumed (Some j) exact is h =
    ap (λ b. cond b (Some (exact_root assumed j)) None) (once_holds j h) ∙ is

repeated_by : (j : Json) (b : Bool) → has_names_once j ≡ b → ¬ (HasUniqueKeys j) → has_names_once j ≡ false
repeated_by j true is none = absurd (none (once_given j is))
repeated_by j false is none = is

pub repeated : (x : Option Json) → IsSomeAnd x (λ j. ¬ (HasUniqueKeys j))
    → IsSomeAnd x (λ j. has_names_once j ≡ false)
repeated None h = h
repeated (Some j) h = repeated_by j (has_names_once j) refl h

-- the text that is rewritten is that with its integers in digits
module _ (assumed : Dialect) (x y : Option Json) (same : y ≡ x) where
  pub exact_made : {A : Type 0} (f : A → List ℕ) (r : Result A TextError)
      → IfOk r (λ v. option_map (exact_root assumed) x ≡ Some (f v)) → IfOk r (λ v. IsSomeAnd x HasUniqueKeys)
      → IfOk r (λ v. option_and_then (exact_or assumed) y ≡ Some (f v))
  exact_made f (Ok v) is h = ap (option_and_then (exact_or assumed)) same ∙ exact_there assumed x (f v) is h
  exact_made f (Err e) is h = tt

abbrev IsReason : Option Json → (Json → Type 0) → TextError → Type 0
IsReason o P e = (e ≡ Memory) ⊎ ((e ≡ NotJson) × (o ≡ None)) ⊎ ((e ≡ RepeatedName) × IsSomeAnd o P)

by_reason : (x y : Option Json) → y ≡ x → (e : TextError) → IsReason x (λ j. ¬ (HasUniqueKeys j)) e
    → IsReason y (λ j. has_names_once j ≡ false) e
by_reason x y same e (inl is) = inl is
by_reason x y same e (inr (inl h)) = inr (inl (h.0, same ∙ h.1))
by_reason x y same e (inr (inr h)) =
    inr (inr (h.0, subst (λ o. IsSomeAnd o (λ j. has_names_once j ≡ false)) (sym same) (repeated x h.1)))

pub exact_unmade : {A : Type 0} (x y : Option Json) → y ≡ x → (r : Result A TextError)
    → IfErr r (IsReason x (λ j. ¬ (HasUniqueKeys j))) → IfErr r (IsReason y (λ j. has_names_once j ≡ false))
exact_unmade x y same (Ok v) h = tt
exact_unmade x y same (Err e) h = by_reason x y same e h
