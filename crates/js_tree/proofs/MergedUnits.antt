-- The units of the merged tree: they are some of the tree's, in their order, and each of the tree's has one among them
-- that is the same.
use Rattle.std.proofs.Common.{◌≡◌, Bool, true, false, ◌||◌, ◌&&◌, if◌then◌else◌, List, []}
use Rattle.std.proofs.Common.{◌∷◌, ◌++◌, refl, ap, sym, ◌∙◌, append-nil}
use Rattle.std.specs.Cmp.{IsEquivalence}
use Rattle.std.specs.List.{list_any}
use Rattle.js_tree.specs.Forest.{Forest, empty, tree, Rose, tree_count}
use Rattle.js_tree.specs.Rewrite.{at_least_two, node_stands}
use Rattle.js_tree.specs.Sublist.{Sublist, no_more, left_out, taken, none_lost}
use Rattle.js_tree.specs.Units.{units_below, units_by}
use Rattle.js_tree.specs.Merged.{alike, alike_trees, unlike, firsts, over, given_trees, merged_below, merged_by}
use Rattle.js_tree.proofs.KeptTree.{units_below-append}
use Rattle.js_tree.proofs.Rewrites.{and_left, and_right, or_left}
use Rattle.js_tree.proofs.MergedTree.{or-true}

-- ---- lists of which some are left out

module _ {A : Type 0} where
  sublist_all : (xs : List A) → Sublist xs xs
  sublist_all [] = no_more
  sublist_all (x ∷ xs) = taken (sublist_all xs)

  sublist_append : {xs ys us vs : List A} → Sublist xs ys → Sublist us vs → Sublist (xs ++ us) (ys ++ vs)
  sublist_append no_more q = q
  sublist_append (left_out p) q = left_out (sublist_append p q)
  sublist_append (taken p) q = taken (sublist_append p q)

  sublist_after : {us vs : List A} (xs : List A) → Sublist us vs → Sublist us (xs ++ vs)
  sublist_after [] p = p
  sublist_after (x ∷ xs) p = left_out (sublist_after xs p)

  sublist_chain : {ys zs : List A} → Sublist ys zs → {xs : List A} → Sublist xs ys → Sublist xs zs
  sublist_chain no_more p = p
  sublist_chain (left_out q) p = left_out (sublist_chain q p)
  sublist_chain (taken q) (left_out p) = left_out (sublist_chain q p)
  sublist_chain (taken q) (taken p) = taken (sublist_chain q p)

  with_root : (v : Bool) (a : A) {xs ys : List A} → Sublist xs ys
      → Sublist (if v then a ∷ xs else xs) (if v then a ∷ ys else ys)
  with_root true a p = taken p
  with_root false a p = p

-- ---- lists in which none of another's is lost

or_between : (p q r : Bool) → (p || r) ≡ true → (p || (q || r)) ≡ true
or_between true q r h = refl
or_between false true r h = refl
or_between false false r h = h

or_before : (p q : Bool) → p ≡ true → (p || q) ≡ true
or_before true q h = refl
or_before false q h = absurd cc

both : (p q : Bool) → p ≡ true → q ≡ true → (p && q) ≡ true
both true q h k = k
both false q h k = h

module _ {A : Type 0} (same : A → A → Bool) where
  -- one of the list is the same
  abbrev has_same : A → List A → Bool
  has_same x ys = list_any (λ y. same y x) ys

  has_same-append : (x : A) (ys zs : List A) → has_same x (ys ++ zs) ≡ (has_same x ys || has_same x zs)
  has_same-append x [] zs = refl
  has_same-append x (y ∷ ys) zs = ap (λ b. same y x || b) (has_same-append x ys zs)
      ∙ or-or (same y x) (has_same x ys) (has_same x zs)
    where
      or-or : (p q r : Bool) → (p || (q || r)) ≡ ((p || q) || r)
      or-or true q r = refl
      or-or false q r = refl

  has_before : (x : A) (ys zs : List A) → has_same x ys ≡ true → has_same x (ys ++ zs) ≡ true
  has_before x ys zs h = has_same-append x ys zs ∙ or_before (has_same x ys) (has_same x zs) h

  has_after : (x : A) (ys zs : List A) → has_same x zs ≡ true → has_same x (ys ++ zs) ≡ true
  has_after x ys zs h = has_same-append x ys zs ∙ or-true (has_same x ys) (has_same x zs) h

  has_between : (x : A) (ys us zs : List A) → has_same x (ys ++ zs) ≡ true → has_same x (ys ++ (us ++ zs)) ≡ true
  has_between x ys us zs h =
      has_same-append x ys (us ++ zs) ∙ ap (λ b. has_same x ys || b) (has_same-append x us zs)
      ∙ or_between (has_same x ys) (has_same x us) (has_same x zs) (sym (has_same-append x ys zs) ∙ h)

  -- a list in which none is lost, for one that has all that it has
  lost_less : (few more all : List A) → ((x : A) → has_same x few ≡ true → has_same x more ≡ true)
      → none_lost same few all ≡ true → none_lost same more all ≡ true
  lost_less few more [] f h = refl
  lost_less few more (x ∷ all) f h =
      both (has_same x more) (none_lost same more all) (f x (and_left (has_same x few) _ h))
      (lost_less few more all f (and_right (has_same x few) _ h))

  lost_append : (few xs ys : List A) → none_lost same few xs ≡ true → none_lost same few ys ≡ true
      → none_lost same few (xs ++ ys) ≡ true
  lost_append few [] ys p q = q
  lost_append few (x ∷ xs) ys p q =
      both (has_same x few) (none_lost same few (xs ++ ys)) (and_left (has_same x few) _ p)
      (lost_append few xs ys (and_right (has_same x few) _ p) q)

module _ {A : Type 0} (same : A → A → Bool) (e : IsEquivalence same) where
  has_other : (x y : A) (zs : List A) → same x y ≡ true → has_same same x zs ≡ has_same same y zs
  has_other x y [] h = refl
  has_other x y (z ∷ zs) h = λ i. (e.symm z x ∙ e.congr x y z h ∙ e.symm y z) i || has_other x y zs h i

  has_kept_at : (v : Bool) (y x : A) (few ys : List A) → same y x ≡ v → has_same same y few ≡ true → (v || has_same same
      x ys) ≡ true → (has_same same x ys ≡ true → has_same same x few ≡ true) → has_same same x few ≡ true
  has_kept_at true y x few ys v p h i = sym (has_other y x few v) ∙ p
  has_kept_at false y x few ys v p h i = i h

  has_kept : (x : A) (few ys : List A) → none_lost same few ys ≡ true → has_same same x ys ≡ true
      → has_same same x few ≡ true
  has_kept x few [] p h = absurd cc
  has_kept x few (y ∷ ys) p h =
      has_kept_at (same y x) y x few ys refl (and_left (has_same same y few) _ p) h
      (has_kept x few ys (and_right (has_same same y few) _ p))

  lost_chain : (few some all : List A) → none_lost same few some ≡ true → none_lost same some all ≡ true
      → none_lost same few all ≡ true
  lost_chain few some all p q = lost_less same some few all (λ x h. has_kept x few some p h) q

  lost_none : (xs : List A) → none_lost same xs xs ≡ true
  lost_none [] = refl
  lost_none (x ∷ xs) =
      both (has_same same x (x ∷ xs)) (none_lost same (x ∷ xs) xs)
      (or_before (same x x) (has_same same x xs) (e.refl x))
      (lost_less same xs (x ∷ xs) xs (λ y h. has_after same y (x ∷ []) xs h) (lost_none xs))

  lost_root : (v : Bool) (a b : A) (few all : List A) → same a b ≡ true → none_lost same few all ≡ true
      → none_lost same (if v then a ∷ few else few) (if v then b ∷ all else all) ≡ true
  lost_root true a b few all s p =
      both (has_same same b (a ∷ few)) (none_lost same (a ∷ few) all) (or_before (same a b) (has_same same b few) s)
      (lost_less same few (a ∷ few) all (λ x h. has_after same x (a ∷ []) few h) p)
  lost_root false a b few all s p = p

-- ---- units

module _ {A : Type 0} (noted : A → Bool) where
  -- of a node over such units
  abbrev rooted : A → List A → List A
  rooted a units = if noted a then a ∷ units else units

  over_units_at : (v : Bool) (a : A) (m : Forest A) → node_stands noted a m ≡ v
      → units_below noted (if v then tree a m empty else m) ≡ rooted a (units_below noted m)
  over_units_at true a m v = append-nil (rooted a (units_below noted m))
  over_units_at false a m v = rw (or_left (noted a) (at_least_two (tree_count m)) v) refl

  module _ (same : A → A → Bool) where
    over_units : (a : A) (m : Forest A) → units_below noted (over noted same a m) ≡ rooted a (units_below noted m)
    over_units a m = over_units_at (node_stands noted a m) a m refl

    given_units : (a : A) (below after : Forest A) → units_below noted (given_trees noted same (tree a below after)) ≡
        rooted a (units_below noted (merged_below noted same below)) ++ units_below noted (given_trees noted same after)
    given_units a below after =
        units_below-append noted (over noted same a (merged_below noted same below)) (given_trees noted same after)
        ∙ ap (λ us. us ++ units_below noted (given_trees noted same after))
        (over_units a (merged_below noted same below))

    -- ---- they are some of the tree's

    unlike_sublist_at : (v : Bool) (a : A) (x : Forest A) (b : A) (under others : Forest A) → alike_trees same a x b
        under ≡ v → Sublist (units_below noted (unlike same a x others)) (units_below noted others)
        → Sublist (units_below noted (unlike same a x (tree b under others))) (units_below noted (tree b under others))
    unlike_sublist_at true a x b under others v p = rw v (sublist_after (rooted b (units_below noted under)) p)
    unlike_sublist_at false a x b under others v p =
        rw v (sublist_append (sublist_all (rooted b (units_below noted under))) p)

    unlike_sublist : (a : A) (x f : Forest A) → Sublist (units_below noted (unlike same a x f)) (units_below noted f)
    unlike_sublist a x empty = no_more
    unlike_sublist a x (tree b under others) =
        unlike_sublist_at (alike_trees same a x b under) a x b under others refl (unlike_sublist a x others)

    firsts_sublist : (f : Forest A) → Sublist (units_below noted (firsts same f)) (units_below noted f)
    firsts_sublist empty = no_more
    firsts_sublist (tree a x after) =
        sublist_append (sublist_all (rooted a (units_below noted x)))
        (sublist_chain (firsts_sublist after) (unlike_sublist a x (firsts same after)))

    given_sublist : (f : Forest A) → Sublist (units_below noted (given_trees noted same f)) (units_below noted f)
    given_sublist empty = no_more
    given_sublist (tree a below after) =
        rw (given_units a below after)
        (sublist_append (with_root (noted a) a (sublist_chain (given_sublist below)
        (firsts_sublist (given_trees noted same below)))) (given_sublist after))

    pub merged_sublist : (t : Rose A) → Sublist (units_by noted (merged_by noted same t)) (units_by noted t)
    merged_sublist t = with_root (noted t.root) t.root
        (sublist_chain (given_sublist t.below) (firsts_sublist (given_trees noted same t.below)))

-- ---- each of the tree's has one that is the same

module _ {A : Type 0} (noted : A → Bool) (same : A → A → Bool) (e : IsEquivalence same) (notes : (a b : A)
    → same a b ≡ true → noted a ≡ noted b) where
  -- of a node and one that is the same
  lost_rooted : (a b : A) (few all : List A) → same a b ≡ true → none_lost same few all ≡ true
      → none_lost same (rooted noted a few) (rooted noted b all) ≡ true
  lost_rooted a b few all s p = rw (← notes a b s) (lost_root same e (noted a) a b few all s p)

  alike_lost : (f g : Forest A) → alike same f g ≡ true
      → none_lost same (units_below noted f) (units_below noted g) ≡ true
  alike_lost f empty h = refl
  alike_lost empty (tree b under others) h = absurd cc
  alike_lost (tree a below after) (tree b under others) h =
      let here = and_left (alike_trees same a below b under) _ h in
      let us = rooted noted a (units_below noted below) in
      let vs = units_below noted after in
      lost_append same (us ++ vs) (rooted noted b (units_below noted under)) (units_below noted others)
      (lost_less same us (us ++ vs) (rooted noted b (units_below noted under)) (λ x k. has_before same x us vs k)
      (lost_rooted a b (units_below noted below) (units_below noted under) (and_left (same a b) _ here)
      (alike_lost below under (and_right (same a b) _ here))))
      (lost_less same vs (us ++ vs) (units_below noted others) (λ x k. has_after same x us vs k)
      (alike_lost after others (and_right (alike_trees same a below b under) _ h)))

  unlike_lost_at : (v : Bool) (a : A) (x : Forest A) (b : A) (under others : Forest A)
      → alike_trees same a x b under ≡ v
      → none_lost same (rooted noted a (units_below noted x) ++ units_below noted (unlike same a x others))
      (units_below noted others) ≡ true
      → none_lost same (rooted noted a (units_below noted x)
      ++ units_below noted (unlike same a x (tree b under others))) (units_below noted (tree b under others)) ≡ true
  unlike_lost_at true a x b under others v p =
      let us = rooted noted a (units_below noted x) in
      let vs = units_below noted (unlike same a x others) in
      let first = lost_rooted a b (units_below noted x) (units_below noted under) (and_left (same a b) _ v)
      (alike_lost x under (and_right (same a b) _ v)) in
      rw v (lost_append same (us ++ vs) (rooted noted b (units_below noted under)) (units_below noted others)
      (lost_less same us (us ++ vs) (rooted noted b (units_below noted under))
      (λ y k. has_before same y us vs k) first) p)
  unlike_lost_at false a x b under others v p =
      let us = rooted noted a (units_below noted x) in
      let ws = rooted noted b (units_below noted under) in
      let vs = units_below noted (unlike same a x others) in
      rw v (lost_append same (us ++ (ws ++ vs)) ws (units_below noted others)
      (lost_less same ws (us ++ (ws ++ vs)) ws
      (λ y k. has_after same y us (ws ++ vs) (has_before same y ws vs k)) (lost_none same e ws))
      (lost_less same (us ++ vs) (us ++ (ws ++ vs)) (units_below noted others)
      (λ y k. has_between same y us ws vs k) p))

  unlike_lost : (a : A) (x f : Forest A) → none_lost same
      (rooted noted a (units_below noted x) ++ units_below noted (unlike same a x f)) (units_below noted f) ≡ true
  unlike_lost a x empty = refl
  unlike_lost a x (tree b under others) =
      unlike_lost_at (alike_trees same a x b under) a x b under others refl (unlike_lost a x others)

  firsts_lost : (f : Forest A) → none_lost same (units_below noted (firsts same f)) (units_below noted f) ≡ true
  firsts_lost empty = refl
  firsts_lost (tree a x after) =
      let us = rooted noted a (units_below noted x) in
      let vs = units_below noted (unlike same a x (firsts same after)) in
      lost_append same (us ++ vs) us (units_below noted after)
      (lost_less same us (us ++ vs) us (λ y k. has_before same y us vs k) (lost_none same e us))
      (lost_chain same e (us ++ vs) (units_below noted (firsts same after)) (units_below noted after)
      (unlike_lost a x (firsts same after)) (firsts_lost after))

  given_lost : (f : Forest A)
      → none_lost same (units_below noted (given_trees noted same f)) (units_below noted f) ≡ true
  given_lost empty = refl
  given_lost (tree a below after) =
      let m = units_below noted (merged_below noted same below) in
      let us = rooted noted a m in
      let vs = units_below noted (given_trees noted same after) in
      let down = lost_chain same e m (units_below noted (given_trees noted same below)) (units_below noted below)
      (firsts_lost (given_trees noted same below)) (given_lost below) in
      rw (given_units noted same a below after)
      (lost_append same (us ++ vs) (rooted noted a (units_below noted below)) (units_below noted after)
      (lost_less same us (us ++ vs) (rooted noted a (units_below noted below)) (λ y k. has_before same y us vs k)
      (lost_rooted a a m (units_below noted below) (e.refl a) down))
      (lost_less same vs (us ++ vs) (units_below noted after) (λ y k. has_after same y us vs k) (given_lost after)))

  pub merged_lost : (t : Rose A) → none_lost same (units_by noted (merged_by noted same t)) (units_by noted t) ≡ true
  merged_lost t =
      lost_root same e (noted t.root) t.root t.root (units_below noted (merged_below noted same t.below))
      (units_below noted t.below) (e.refl t.root)
      (lost_chain same e (units_below noted (merged_below noted same t.below))
      (units_below noted (given_trees noted same t.below)) (units_below noted t.below)
      (firsts_lost (given_trees noted same t.below)) (given_lost t.below))
