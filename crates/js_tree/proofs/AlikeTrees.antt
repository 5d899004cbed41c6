-- Alike trees: the test of them is an equivalence where that of labels is.
use Rattle.std.proofs.Common.{◌≡◌, ◌≢◌, suc, Bool, true, false, ◌&&◌, List, [], ◌∷◌, length, refl, ap, ◌∙◌}
use Rattle.std.specs.Cmp.{IsEquivalence, equiv}
use Rattle.js_tree.specs.Forest.{Forest, empty, tree, Rose, forest_of}
use Rattle.js_tree.specs.Merged.{alike, alike_trees}
use Rattle.js_tree.proofs.Rewrites.{and_left, and_right}

and-false : (b : Bool) → (b && false) ≡ false
and-false true = refl
and-false false = refl

module _ {A : Type 0} (same : A → A → Bool) where
  -- trees of which there are more or fewer aren't alike
  pub other_length : (ts us : List (Rose A)) → length ts ≢ length us → alike same (forest_of ts) (forest_of us) ≡ false
  other_length [] [] n = absurd (n refl)
  other_length [] (u ∷ us) n = refl
  other_length (t ∷ ts) [] n = refl
  other_length (t ∷ ts) (u ∷ us) n =
      rw (other_length ts us (λ e. n (ap suc e))) (and-false (alike_trees same t.root t.below u.root u.below))

module _ {A : Type 0} (same : A → A → Bool) (e : IsEquivalence same) where
  alike-refl : (f : Forest A) → alike same f f ≡ true
  alike-refl empty = refl
  alike-refl (tree a below after) = rw (e.refl a, alike-refl below, alike-refl after) refl

  alike-symm : (f g : Forest A) → alike same f g ≡ alike same g f
  alike-symm empty empty = refl
  alike-symm empty (tree b under others) = refl
  alike-symm (tree a below after) empty = refl
  alike-symm (tree a below after) (tree b under others) = λ i. (e.symm a b i && alike-symm below under i)
      && alike-symm after others i

  alike-trans : (f g h : Forest A) → alike same f g ≡ true → alike same g h ≡ true → alike same f h ≡ true
  alike-trans empty empty h p q = q
  alike-trans empty (tree b under others) h p q = cc
  alike-trans (tree a below after) empty h p q = cc
  alike-trans (tree a below after) (tree b under others) empty p q = cc
  alike-trans (tree a below after) (tree b under others) (tree c deep last) p q =
      let here = and_left (alike_trees same a below b under) _ p in
      let next = and_left (alike_trees same b under c deep) _ q in
      let root : same a c ≡ true = e.congr a b c (and_left (same a b) _ here) ∙ and_left (same b c) _ next in
      let down = alike-trans below under deep (and_right (same a b) _ here) (and_right (same b c) _ next) in
      let on = alike-trans after others last (and_right (alike_trees same a below b under) _ p)
      (and_right (alike_trees same b under c deep) _ q) in
      rw (root, down, on) refl

  pub alike_equiv : IsEquivalence (alike same)
  alike_equiv = equiv (record { symm = alike-symm; trans = alike-trans }) alike-refl

  -- ---- of two trees

  pub alike_trees-refl : (a : A) (below : Forest A) → alike_trees same a below a below ≡ true
  alike_trees-refl a below = rw (e.refl a, alike-refl below) refl

  pub alike_trees-symm : (a : A) (below : Forest A) (b : A) (under : Forest A)
      → alike_trees same a below b under ≡ alike_trees same b under a below
  alike_trees-symm a below b under = λ i. e.symm a b i && alike-symm below under i

  pub alike_trees-congr : (a : A) (below : Forest A) (b : A) (under : Forest A) (c : A) (deep : Forest A)
      → alike_trees same a below b under ≡ true → alike_trees same a below c deep ≡ alike_trees same b under c deep
  alike_trees-congr a below b under c deep p =
      let root = e.congr a b c (and_left (same a b) _ p) in
      let down = (alike_equiv).congr below under deep (and_right (same a b) _ p) in
      λ i. root i && down i
