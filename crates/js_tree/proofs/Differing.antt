-- Siblings of which none are alike, and siblings without some that are alike to an earlier one.
use Rattle.std.proofs.Common.{◌≡◌, ℕ, zero, suc, ◌+◌, ◌≤◌, ◌<◌, Bool, true, false, ◌||◌, ◌&&◌, not, if◌then◌else◌, List}
use Rattle.std.proofs.Common.{[], ◌∷◌, ◌++◌, length, take, drop, get_or, refl, ap, sym, ◌∙◌, arith}
use Rattle.std.specs.Cmp.{IsEquivalence}
use Rattle.std.proofs.lemmas.Cmp.{on_total}
use Rattle.std.proofs.lemmas.List.{drop_all, get_or_default}
use Rattle.std.specs.Ordering.{on}
use Rattle.std.specs.declared.cmp.Ordering.{Ordering}
use Rattle.std.specs.declared.cmp.Ordering.TheVariants.{Less}
use Rattle.js_tree.specs.Alike.{same_but_keyword}
use Rattle.js_tree.specs.Forest.{Forest, empty, tree, Rose, forest_of, ◌⊹◌}
use Rattle.js_tree.specs.Merged.{alike_trees, has_alike, none_alike, unlike, firsts}
use Rattle.js_tree.specs.Result.{ResultTree}
use Rattle.js_tree.specs.code.Order.{result_tree_order, IsBefore}
use Rattle.js_tree.proofs.AlikeUnits.{some_tree}
use Rattle.js_tree.proofs.Forests.{forest_of-append}
use Rattle.js_tree.proofs.Giving.{has_alike_unlike, firsts_last, firsts_through, with_last}
use Rattle.js_tree.proofs.MergedTest.{none_alike_step, not_true}
use Rattle.js_tree.proofs.MergedTree.{found_alike, found_last, found_past}
use Rattle.js_tree.proofs.Ordered.{result_tree_order-total, result_tree_order-alike}
use Rattle.js_tree.proofs.Places.{AreFalling, AreBelow, all_apart, one_more}
use Rattle.js_tree.proofs.Rewrites.{and_left, and_right}

-- ---- an alike one before a place

module _ {A : Type 0} (same : A → A → Bool) where
  -- where one of the first is alike, it has a place
  abbrev IsFound : ℕ → List (Rose A) → Rose A → Rose A → Type 0
  IsFound n ts d t = (j : ℕ) × ((j < n)
      × ((j < length ts) × (alike_trees same (get_or ts j d).root (get_or ts j d).below t.root t.below ≡ true)))

  further : (n : ℕ) (u : Rose A) (ts : List (Rose A)) (d t : Rose A) → IsFound n ts d t → IsFound (suc n) (u ∷ ts) d t
  further n u ts d t found =
      let less : suc found.0 < suc n = omega (arith, found.1.0) in
      let few : suc found.0 < suc (length ts) = omega (arith, found.1.1.0) in
      (suc found.0, (less, (few, found.1.1.1)))

  found-place : (n : ℕ) (ts : List (Rose A)) (d t : Rose A)
      → has_alike same (forest_of (take n ts)) t.root t.below ≡ true → IsFound n ts d t
  found-place zero ts d t h = absurd cc
  found-place (suc n) [] d t h = absurd cc
  found-place (suc n) (u ∷ ts) d t h =
      at (alike_trees same u.root u.below t.root t.below) refl h (λ k. found-place n ts d t k)
    where
      at : (v : Bool) → alike_trees same u.root u.below t.root t.below ≡ v
          → (v || has_alike same (forest_of (take n ts)) t.root t.below) ≡ true
          → (has_alike same (forest_of (take n ts)) t.root t.below ≡ true → IsFound n ts d t)
          → IsFound (suc n) (u ∷ ts) d t
      at true e k i =
          let less : 0 < suc n = omega arith in
          let few : 0 < suc (length ts) = omega arith in (0, (less, (few, e)))
      at false e k i = further n u ts d t (i k)

  pub place-found : (n j : ℕ) (ts : List (Rose A)) (d t : Rose A) → j < n → j < length ts
      → alike_trees same (get_or ts j d).root (get_or ts j d).below t.root t.below ≡ true
      → has_alike same (forest_of (take n ts)) t.root t.below ≡ true
  place-found zero j ts d t h l e = absurd (omega (arith, h))
  place-found (suc n) j [] d t h l e = absurd (omega (arith, l))
  place-found (suc n) zero (u ∷ ts) d t h l e = rw e refl
  place-found (suc n) (suc j) (u ∷ ts) d t h l e =
      let less : j < n = omega (arith, h) in
      let few : j < length ts = omega (arith, l) in
      or-true (alike_trees same u.root u.below t.root t.below) _ (place-found n j ts d t less few e)
    where
      or-true : (v w : Bool) → w ≡ true → (v || w) ≡ true
      or-true true w e = refl
      or-true false w e = e

  -- ---- the test

  pub none_alike-by_places : (ts : List (Rose A)) (d : Rose A) (n i : ℕ) → i + n ≡ length ts
      → ((i : ℕ) → i < length ts
      → has_alike same (forest_of (take i ts)) (get_or ts i d).root (get_or ts i d).below ≡ false)
      → none_alike same (forest_of (take i ts)) (forest_of (drop i ts)) ≡ true
  none_alike-by_places ts d zero i e h =
      let l : length ts ≤ i = omega (arith, e) in
      ap (λ us. none_alike same (forest_of (take i ts)) (forest_of us)) (drop_all i ts l)
  none_alike-by_places ts d (suc n) i e h =
      let l : i < length ts = omega (arith, e) in
      let s : (i + 1) + n ≡ length ts = omega (arith, e) in
      none_alike_step same ts i d l ∙ rw (h i l) (none_alike-by_places ts d n (i + 1) s h)

  and-false : (v w : Bool) → w ≡ false → (v && w) ≡ false
  and-false true w e = e
  and-false false w e = refl

  alike_after : (ts : List (Rose A)) (d : Rose A) (n i q : ℕ) → i + n ≡ q → q < length ts
      → has_alike same (forest_of (take q ts)) (get_or ts q d).root (get_or ts q d).below ≡ true
      → none_alike same (forest_of (take i ts)) (forest_of (drop i ts)) ≡ false
  alike_after ts d zero i q e l h =
      let k : i ≡ q = omega (arith, e) in
      let m : i < length ts = omega (arith, e, l) in
      let f : has_alike same (forest_of (take i ts)) (get_or ts i d).root (get_or ts i d).below
      ≡ true = ap (λ j. has_alike same (forest_of (take j ts)) (get_or ts j d).root (get_or ts j d).below) k ∙ h in
      none_alike_step same ts i d m ∙ rw f refl
  alike_after ts d (suc n) i q e l h =
      let m : i < length ts = omega (arith, e, l) in
      let s : (i + 1) + n ≡ q = omega (arith, e) in
      none_alike_step same ts i d m ∙ and-false (not (has_alike same (forest_of (take i ts)) (get_or ts i d).root
      (get_or ts i d).below)) _ (alike_after ts d n (i + 1) q s l h)

  -- two of them are alike
  pub two_alike : (ts : List (Rose A)) (d : Rose A) (p q : ℕ) → p < q → q < length ts
      → alike_trees same (get_or ts p d).root (get_or ts p d).below (get_or ts q d).root (get_or ts q d).below ≡ true
      → none_alike same empty (forest_of ts) ≡ false
  two_alike ts d p q h l e =
      let z : 0 + q ≡ q = omega arith in
      let k : p < length ts = omega (arith, h, l) in
      alike_after ts d q 0 q z l (place-found q p ts d (get_or ts q d) h k e)

-- ---- a list of places in order

abbrev place_order : List ResultTree → ℕ → ℕ → Ordering
place_order ts = on (λ i. get_or ts i some_tree) result_tree_order

-- `seen` places are gone through, each after the one before it in the order of trees, up to this one
abbrev pub IsReached : List ResultTree → ℕ → ℕ → Type 0
IsReached ts place seen = (ps : List ℕ)
    × (AreFalling (place_order ts) (place ∷ ps) × (AreBelow (length ts) (place ∷ ps) × (suc (length ps) ≡ seen)))

pub reached_first : (ts : List ResultTree) (place : ℕ) → place < length ts → IsReached ts place 1
reached_first ts place h = ([], ((tt, tt), ((h, tt), refl)))

pub reached_next : (ts : List ResultTree) (place next seen : ℕ) → next < length ts → IsBefore ts place next
    → IsReached ts place seen → IsReached ts next (seen + 1)
reached_next ts place next seen h b r =
    let n : suc (suc (length r.0)) ≡ seen + 1 = omega (arith, r.1.1.1) in (
      place ∷ r.0,
      (
        one_more (place_order ts) (on_total (λ i. get_or ts i some_tree) result_tree_order-total) place next
            r.0 (b some_tree) r.1.0,
        ((h, r.1.1.0), n),
      ),
    )

none_earlier : (ts : List ResultTree) (place : ℕ) → IsReached ts place (length ts) → (i : ℕ) → i < length ts
    → has_alike same_but_keyword (forest_of (take i ts)) (get_or ts i some_tree).root
    (get_or ts i some_tree).below ≡ false
none_earlier ts place r i h = at
    (has_alike same_but_keyword (forest_of (take i ts)) (get_or ts i some_tree).root (get_or ts i some_tree).below) refl
  where
    at : (v : Bool) → has_alike same_but_keyword (forest_of (take i ts)) (get_or ts i some_tree).root
        (get_or ts i some_tree).below ≡ v → v ≡ false
    at false e = refl
    at true e =
        let found = found-place same_but_keyword i ts some_tree (get_or ts i some_tree) e in
        let tied = result_tree_order-alike (get_or ts found.0 some_tree) (get_or ts i some_tree) found.1.1.1 in
        let one : found.0 ≡ i = all_apart (place_order ts) (on_total (λ i. get_or ts i some_tree)
        result_tree_order-total) (length ts) (place ∷ r.0) r.1.0 r.1.1.0 r.1.1.1 found.0 i found.1.1.0 h tied in
        absurd (omega (arith, one, found.1.0))

-- where all are gone through, none are alike
pub reached_all : (ts : List ResultTree) (place seen : ℕ) → IsReached ts place seen → seen ≡ length ts
    → none_alike same_but_keyword empty (forest_of ts) ≡ true
reached_all ts place seen r e =
    let all : IsReached ts place (length ts) = (r.0, (r.1.0, (r.1.1.0, r.1.1.1 ∙ e))) in
    let z : 0 + length ts ≡ length ts = omega arith in
    none_alike-by_places same_but_keyword ts some_tree (length ts) 0 z (none_earlier ts place all)

-- ---- the first of those that are alike, where some are gone already

module _ {A : Type 0} (same : A → A → Bool) (e : IsEquivalence same) where
  none_alike-unlike : (before f : Forest A) (a : A) (x : Forest A) → none_alike same before f ≡ true
      → has_alike same before a x ≡ true → unlike same a x f ≡ f
  none_alike-unlike before empty a x n h = refl
  none_alike-unlike before (tree b under others) a x n h =
      at (alike_trees same a x b under) refl
      (none_alike-unlike (before ⊹ tree b under empty) others a x (and_right (not (has_alike same before b under)) _ n)
      (found_past same before (tree b under empty) a x h))
    where
      at : (v : Bool) → alike_trees same a x b under ≡ v → unlike same a x others ≡ others
          → (if v then unlike same a x others else tree b under (unlike same a x others)) ≡ tree b under others
      at true v i = absurd (not_true (has_alike same before b under)
          (sym (found_alike same e before a x b under v) ∙ h) (and_left (not (has_alike same before b under)) _ n))
      at false v i = ap (tree b under) i

  none_alike-firsts : (before f : Forest A) → none_alike same before f ≡ true → firsts same f ≡ f
  none_alike-firsts before empty n = refl
  none_alike-firsts before (tree a x after) n =
      let m = and_right (not (has_alike same before a x)) _ n in
      ap (λ g. tree a x (unlike same a x g)) (none_alike-firsts (before ⊹ tree a x empty) after m)
      ∙ ap (tree a x) (none_alike-unlike (before ⊹ tree a x empty) after a x m (found_last same e before a x))

  pub differ-firsts : (f : Forest A) → none_alike same empty f ≡ true → firsts same f ≡ f
  differ-firsts f n = none_alike-firsts empty f n

  has_alike-firsts : (f : Forest A) (c : A) (last : Forest A)
      → has_alike same (firsts same f) c last ≡ has_alike same f c last
  has_alike-firsts empty c last = refl
  has_alike-firsts (tree a x after) c last = at (alike_trees same a x c last) refl (has_alike-firsts after c last)
    where
      at : (v : Bool) → alike_trees same a x c last ≡ v
          → has_alike same (firsts same after) c last ≡ has_alike same after c last
          → (v || has_alike same (unlike same a x (firsts same after)) c last) ≡ (v || has_alike same after c last)
      at true v i = refl
      at false v i = has_alike_unlike same e a x (firsts same after) c last v ∙ i

  pub some_gone : (done ts : List (Rose A)) (i : ℕ) (d : Rose A) → i < length ts
      → firsts same (forest_of done) ≡ firsts same (forest_of (take i ts))
      → has_alike same (forest_of done) (get_or ts i d).root (get_or ts i d).below ≡ true
      → firsts same (forest_of done) ≡ firsts same (forest_of (take (i + 1) ts))
  some_gone done ts i d h k n =
      let m : has_alike same (firsts same (forest_of (take i ts))) (get_or ts i d).root (get_or ts i d).below ≡ true =
      ap (λ f. has_alike same f (get_or ts i d).root (get_or ts i d).below) (sym k)
      ∙ has_alike-firsts (forest_of done) (get_or ts i d).root (get_or ts i d).below ∙ n in
      rw (firsts_through same e ts i d h, m) k

  pub one_stays : (done ts : List (Rose A)) (i : ℕ) (d : Rose A) → i < length ts
      → firsts same (forest_of done) ≡ firsts same (forest_of (take i ts))
      → firsts same (forest_of (done ++ (get_or ts i d ∷ []))) ≡ firsts same (forest_of (take (i + 1) ts))
  one_stays done ts i d h k =
      let t = get_or ts i d in
      ap (firsts same) (forest_of-append done (t ∷ []))
      ∙ firsts_last same e (forest_of done) t.root t.below
      ∙ ap (λ f. with_last (has_alike same f t.root t.below) f t.root t.below) k
      ∙ sym (firsts_through same e ts i d h)

-- ---- what the code reads at two places

read_as : (ts : List ResultTree) (p q : ℕ) (x y d : ResultTree) → p < length ts → q < length ts
    → x ≡ get_or ts p x → y ≡ get_or ts q y
    → (x ≡ get_or ts p d) × (y ≡ get_or ts q d)
read_as ts p q x y d h l e f = (e ∙ get_or_default ts p x d h, f ∙ get_or_default ts q y d l)

alike_read : (ts : List ResultTree) (p q : ℕ) (x y d : ResultTree) → p < length ts → q < length ts
    → x ≡ get_or ts p x → y ≡ get_or ts q y
    → alike_trees same_but_keyword x.root x.below y.root y.below ≡ true
    → alike_trees same_but_keyword (get_or ts p d).root (get_or ts p d).below (get_or ts q d).root
    (get_or ts q d).below ≡ true
alike_read ts p q x y d h l e f a =
    let both = read_as ts p q x y d h l e f in
    ap (λ t. alike_trees same_but_keyword t.root t.below (get_or ts q d).root (get_or ts q d).below) (sym both.0)
    ∙ ap (λ t. alike_trees same_but_keyword x.root x.below t.root t.below) (sym both.1) ∙ a

pub alike_before : (ts : List ResultTree) (count p q : ℕ) (x y d : ResultTree) (b : Bool) → p < count → count ≤ q
    → q < length ts → x ≡ get_or ts p x → y ≡ get_or ts q y
    → b ≡ alike_trees same_but_keyword x.root x.below y.root y.below → b ≡ true
    → has_alike same_but_keyword (forest_of (take count ts)) (get_or ts q d).root (get_or ts q d).below ≡ true
alike_before ts count p q x y d b h m l e f a t =
    let k : p < length ts = omega (arith, h, m, l) in
    place-found same_but_keyword count p ts d (get_or ts q d) h k (alike_read ts p q x y d k l e f (sym a ∙ t))

pub alike_again : (ts : List ResultTree) (p q : ℕ) (x y : ResultTree) (b : Bool) → p < q → q < length ts
    → x ≡ get_or ts p x → y ≡ get_or ts q y
    → b ≡ alike_trees same_but_keyword x.root x.below y.root y.below → b ≡ true
    → none_alike same_but_keyword empty (forest_of ts) ≡ false
alike_again ts p q x y b h l e f a t =
    let k : p < length ts = omega (arith, h, l) in
    two_alike same_but_keyword ts some_tree p q h l (alike_read ts p q x y some_tree k l e f (sym a ∙ t))

pub before_read : (ts : List ResultTree) (p q : ℕ) (x y : ResultTree) → p < length ts → q < length ts
    → x ≡ get_or ts p x → y ≡ get_or ts q y
    → result_tree_order x y ≡ Less → IsBefore ts p q
before_read ts p q x y h l e f a d =
    let both = read_as ts p q x y d h l e f in
    ap (λ t. result_tree_order t (get_or ts q d)) (sym both.0) ∙ ap (result_tree_order x) (sym both.1) ∙ a

-- ---- those that are kept of the trees that were seen

-- the same are first among them; and they are the first if each was compared with all
abbrev pub AreFirsts : Bool → List ResultTree → List ResultTree → Type 0
AreFirsts by_marks done seen =
    (firsts same_but_keyword (forest_of done) ≡ firsts same_but_keyword (forest_of seen))
    × (by_marks ≡ false → forest_of done ≡ firsts same_but_keyword (forest_of seen))
