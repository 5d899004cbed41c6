-- What a search by halves finds among values in order.
use Rattle.std.proofs.Common.{◌≡◌, ℕ, ◌<◌, Bool, true, false, List, [], ◌∷◌, map, length, Result, Ok, Err, is_ok}
use Rattle.std.proofs.Common.{ltb, ltb-true, ltb-false, get_or, IsPermutation, IsSorted, refl, ap, sym, ◌∙◌, arith}
use Rattle.std.proofs.Common.{zero-le, is_eq, Ordering, Less, Equal, Greater}
use Rattle.std.proofs.lemmas.List.Folds.{list_any_at, list_any_none}
use Rattle.std.proofs.lemmas.List.Sorted.{searchable_from_sorted, list_any-IsPermutation, IsPermutation-map}
use Rattle.std.specs.List.{list_any}
use Rattle.std.specs.List.Sorted.{IsBinarySearchResult, IsSearchInRange, IsPartitionPoint}
use Rattle.std.specs.Ordering.{on}
use Rattle.js_doc.specs.Equality.{same}
use Rattle.js_doc.specs.Order.{order, order-total, order-ties}
use Rattle.js_doc.specs.Value.{Value}
use Rattle.js_assert.specs.code.Choices.{is_among}
use Rattle.js_assert.proofs.ListedValues.{list_any-map}

module _ {X : Type 0} (f : X → Value) (v : Value) where
  differs : (x : X) (r : Ordering) → is_eq r ≡ false → order (f x) v ≡ r → same (f x) v ≡ false
  differs x r n e = order-ties (f x) v ∙ ap is_eq e ∙ n

  apart : (xs : List X) (i k : ℕ) (d : X) (b : Bool) → ltb k i ≡ b → k < length xs → IsPartitionPoint
      (λ y. order (f y) v ≡ Less) (λ y. order (f y) v ≡ Greater) xs i → same (f (get_or xs k d)) v ≡ false
  apart xs i k d true e h p = differs (get_or xs k d) Less refl (p.0 k d zero-le (ltb-true k i e))
  apart xs i k d false e h p = differs (get_or xs k d) Greater refl (p.1 k d (ltb-false k i e) h)

  found_at : (xs : List X) (i : ℕ) → i < length xs → ((d : X) → order (f (get_or xs i d)) v ≡ Equal)
      → list_any (λ x. same (f x) v) xs ≡ true
  found_at [] i h g = absurd (omega (arith, h))
  found_at (x ∷ xs) i h g =
      list_any_at (λ y. same (f y) v) (x ∷ xs) i x h (order-ties (f (get_or (x ∷ xs) i x)) v ∙ ap is_eq (g x))

  answers : (xs : List X) (r : Result ℕ ℕ) → IsSorted (on f order) xs → IsSearchInRange r (length xs)
      → IsBinarySearchResult (λ y. order (f y) v) xs r → is_ok r ≡ list_any (λ x. same (f x) v) xs
  answers xs (Ok i) up h g = sym (found_at xs i h g)
  answers xs (Err i) up h g =
      let p = g (searchable_from_sorted order-total f xs v up) in
      sym (list_any_none (λ x. same (f x) v) xs (λ k d a. apart xs i k d (ltb k i) refl a p))

  -- the search says whether v is among the values
  pub halves : (xs : List X) (r : Result ℕ ℕ) → IsSorted (on f order) xs → IsSearchInRange r (length xs)
      → IsBinarySearchResult (λ y. order (f y) v) xs r → is_ok r ≡ is_among v (map f xs)
  halves xs r up h g = answers xs r up h g ∙ sym (list_any-map f (λ w. same w v) xs)

  -- values in another order are the same values
  pub among_permutation : (xs ys : List X) → IsPermutation xs ys → is_among v (map f ys) ≡ is_among v (map f xs)
  among_permutation xs ys p =
      sym (list_any-IsPermutation (λ w. same w v) (map f xs) (map f ys) (IsPermutation-map f xs ys p))
