-- What trees give, and the first of those that are alike, with one tree more at the end.
use Rattle.std.proofs.Common.{◌≡◌, ℕ, ◌+◌, ◌<◌, Bool, true, false, ◌||◌, if◌then◌else◌, List, [], ◌∷◌, ◌++◌}
use Rattle.std.proofs.Common.{length, take, drop, get_or, refl, ap, sym, ◌∙◌, add-one}
use Rattle.std.proofs.Math.Seq.{take-suc}
use Rattle.std.specs.Cmp.{IsEquivalence}
use Rattle.js_tree.specs.Forest.{Forest, empty, tree, Rose, forest_of, ◌⊹◌}
use Rattle.js_tree.specs.Rewrite.{node_stands}
use Rattle.js_tree.specs.Merged.{alike_trees, has_alike, unlike, firsts, over, given_trees, merged_below}
use Rattle.js_tree.proofs.Forests.{append-empty, append-append, forest_of-append, same_at}
use Rattle.js_tree.proofs.AlikeTrees.{alike_trees-congr}

-- one tree more, where a test fails
abbrev pub with_last : {A : Type 0} → Bool → Forest A → A → Forest A → Forest A
with_last gone f c last = if gone then f else (f ⊹ tree c last empty)

with_last-tree : {A : Type 0} (gone : Bool) (a : A) (below f : Forest A) (c : A) (last : Forest A)
    → tree a below (with_last gone f c last) ≡ with_last gone (tree a below f) c last
with_last-tree true a below f c last = refl
with_last-tree false a below f c last = refl

or-right-true : (b : Bool) → (b || true) ≡ true
or-right-true true = refl
or-right-true false = refl

module _ {A : Type 0} (same : A → A → Bool) where
  unlike_last_at : (v : Bool) (a : A) (below : Forest A) (b : A) (under others : Forest A) (c : A) (last : Forest A)
      → alike_trees same a below b under ≡ v
      → unlike same a below (others ⊹ tree c last empty)
      ≡ with_last (alike_trees same a below c last) (unlike same a below others) c last
      → unlike same a below (tree b under others ⊹ tree c last empty)
      ≡ with_last (alike_trees same a below c last) (unlike same a below (tree b under others)) c last
  unlike_last_at true a below b under others c last e i = rw e i
  unlike_last_at false a below b under others c last e i = rw e (ap (tree b under) i
      ∙ with_last-tree (alike_trees same a below c last) b under (unlike same a below others) c last)

  unlike_last : (a : A) (below f : Forest A) (c : A) (last : Forest A) → unlike same a below (f ⊹ tree c last empty)
      ≡ with_last (alike_trees same a below c last) (unlike same a below f) c last
  unlike_last a below empty c last = refl
  unlike_last a below (tree b under others) c last = unlike_last_at (alike_trees same a below b under) a below b under
      others c last refl (unlike_last a below others c last)

  -- what is found of a tree that is still where it was
  pub still_found : (done ts all : List (Rose A)) (i : ℕ) (d : Rose A) (v : Bool) → drop i ts ≡ drop i all
      → has_alike same (forest_of done) (get_or ts i d).root (get_or ts i d).below ≡ v
      → has_alike same (forest_of done) (get_or all i d).root (get_or all i d).below ≡ v
  still_found done ts all i d v e h =
      ap (λ t. has_alike same (forest_of done) t.root t.below) (sym (same_at ts all i d e)) ∙ h

module _ {A : Type 0} (same : A → A → Bool) (e : IsEquivalence same) where
  -- what isn't alike to the tree that is taken away is found as before
  has_alike_unlike_at : (v : Bool) (a : A) (below : Forest A) (b : A) (under others : Forest A) (c : A)
      (last : Forest A) → alike_trees same a below b under ≡ v → alike_trees same a below c last ≡ false
      → has_alike same (unlike same a below others) c last ≡ has_alike same others c last
      → has_alike same (unlike same a below (tree b under others)) c last ≡ has_alike same (tree b under others) c last
  has_alike_unlike_at true a below b under others c last v n i =
      let k : alike_trees same b under c last
      ≡ false = sym (alike_trees-congr same e a below b under c last v) ∙ n in rw (v, k) i
  has_alike_unlike_at false a below b under others c last v n i =
      rw v (ap (λ x. alike_trees same b under c last || x) i)

  pub has_alike_unlike : (a : A) (below f : Forest A) (c : A) (last : Forest A) → alike_trees same a below c last
      ≡ false → has_alike same (unlike same a below f) c last ≡ has_alike same f c last
  has_alike_unlike a below empty c last n = refl
  has_alike_unlike a below (tree b under others) c last n =
      has_alike_unlike_at (alike_trees same a below b under) a below b under others c last refl n
      (has_alike_unlike a below others c last n)

  firsts_last_at : (v : Bool) (a : A) (below f : Forest A) (c : A) (last : Forest A)
      → alike_trees same a below c last ≡ v
      → firsts same (f ⊹ tree c last empty) ≡ with_last (has_alike same (firsts same f) c last) (firsts same f) c last
      → firsts same (tree a below f ⊹ tree c last empty)
      ≡ with_last (has_alike same (firsts same (tree a below f)) c last) (firsts same (tree a below f)) c last
  firsts_last_at true a below f c last v i = ap (λ x. tree a below (unlike same a below x)) i
      ∙ gone (has_alike same (firsts same f) c last) ∙ rw v refl
    where
      gone : (w : Bool) → tree a below (unlike same a below (with_last w (firsts same f) c last))
          ≡ tree a below (unlike same a below (firsts same f))
      gone true = refl
      gone false = ap (tree a below) (unlike_last same a below (firsts same f) c last ∙ rw v refl)
  firsts_last_at false a below f c last v i =
      ap (λ x. tree a below (unlike same a below x)) i ∙ stays (has_alike same (firsts same f) c last)
      ∙ rw (v, has_alike_unlike a below (firsts same f) c last v) refl
    where
      stays : (w : Bool) → tree a below (unlike same a below (with_last w (firsts same f) c last))
          ≡ with_last w (tree a below (unlike same a below (firsts same f))) c last
      stays true = refl
      stays false = ap (tree a below) (unlike_last same a below (firsts same f) c last ∙ rw v refl)

  -- the first of those that are alike, with one more at the end
  pub firsts_last : (f : Forest A) (c : A) (last : Forest A)
      → firsts same (f ⊹ tree c last empty) ≡ with_last (has_alike same (firsts same f) c last) (firsts same f) c last
  firsts_last empty c last = refl
  firsts_last (tree a below after) c last =
      firsts_last_at (alike_trees same a below c last) a below after c last refl (firsts_last after c last)

  pub firsts_through : (ts : List (Rose A)) (i : ℕ) (d : Rose A) → i < length ts
      → firsts same (forest_of (take (i + 1) ts))
      ≡ with_last (has_alike same (firsts same (forest_of (take i ts))) (get_or ts i d).root (get_or ts i d).below)
      (firsts same (forest_of (take i ts))) (get_or ts i d).root (get_or ts i d).below
  firsts_through ts i d h =
      rw (add-one, take-suc ts i d h, forest_of-append (take i ts) (get_or ts i d ∷ []))
      (firsts_last (forest_of (take i ts)) (get_or ts i d).root (get_or ts i d).below)

  -- ---- one tree more among the first

  pub first_stays : (done ts : List (Rose A)) (i : ℕ) (d : Rose A) → i < length ts
      → forest_of done ≡ firsts same (forest_of (take i ts))
      → has_alike same (forest_of done) (get_or ts i d).root (get_or ts i d).below ≡ false
      → forest_of (done ++ (get_or ts i d ∷ [])) ≡ firsts same (forest_of (take (i + 1) ts))
  first_stays done ts i d h k n = rw (firsts_through ts i d h, ← k, n) (forest_of-append done (get_or ts i d ∷ []))

  pub again_goes : (done ts : List (Rose A)) (i : ℕ) (d : Rose A) → i < length ts
      → forest_of done ≡ firsts same (forest_of (take i ts))
      → has_alike same (forest_of done) (get_or ts i d).root (get_or ts i d).below ≡ true
      → forest_of done ≡ firsts same (forest_of (take (i + 1) ts))
  again_goes done ts i d h k n = rw (firsts_through ts i d h, ← k, n) refl

-- ---- what trees give

module _ {A : Type 0} (noted : A → Bool) (same : A → A → Bool) where
  pub given_trees-append : (f g : Forest A)
      → given_trees noted same (f ⊹ g) ≡ (given_trees noted same f ⊹ given_trees noted same g)
  given_trees-append empty g = refl
  given_trees-append (tree a below after) g =
      rw (given_trees-append after g) (sym (append-append (over noted same a (merged_below noted same below))
      (given_trees noted same after) (given_trees noted same g)))

  -- a node that stands over what is merged below it is given, else what is merged below it
  pub one_given : (a : A) (f g : Forest A) → g ≡ merged_below noted same f → node_stands noted a g ≡ true
      → given_trees noted same (tree a f empty) ≡ tree a g empty
  one_given a f g e s = rw (← e, s) refl

  pub given_over : (a : A) (f g : Forest A) → g ≡ merged_below noted same f
      → given_trees noted same (tree a f empty) ≡ (if node_stands noted a g then tree a g empty else g)
  given_over a f g e = rw (← e) (append-empty (if node_stands noted a g then tree a g empty else g))

  pub one_passed : (a : A) (f g : Forest A) → g ≡ merged_below noted same f → node_stands noted a g ≡ false
      → given_trees noted same (tree a f empty) ≡ g
  one_passed a f g e s = rw (← e, s) (append-empty g)
