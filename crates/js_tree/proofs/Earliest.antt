-- Of alike trees the earliest stays, and the alike ones are those that are equal without what doesn't count.
use Rattle.std.proofs.Common.{◌≡◌, Bool, true, false, refl, ap, ◌∙◌}
use Rattle.js_tree.specs.Alike.{same_but_keyword, without_keyword}
use Rattle.js_tree.specs.Forest.{Forest, empty, tree, ◌⊹◌}
use Rattle.js_tree.specs.Merged.{alike, alike_trees, has_alike, unlike, firsts}
use Rattle.js_tree.specs.MergedResult.{without_keywords}
use Rattle.js_tree.specs.OutputUnit.{OutputUnit}
use Rattle.js_tree.proofs.AlikeUnits.{same_but_keyword_decides}
use Rattle.js_tree.proofs.MergedTree.{unlike-append}
use Rattle.js_tree.proofs.Rewrites.{and_left, and_right, or_left, or_right}

module _ {A : Type 0} (same : A → A → Bool) where
  unlike_kept : (b : A) (under : Forest A) (a : A) (below after : Forest A) → alike_trees same b under a below ≡ false
      → unlike same b under (tree a below after) ≡ tree a below (unlike same b under after)
  unlike_kept b under a below after n = rw n refl

  pub earliest_stays : (f : Forest A) (a : A) (below g : Forest A) → has_alike same f a below ≡ false
      → (h : Forest A) × (firsts same (f ⊹ tree a below g) ≡ (firsts same f ⊹ tree a below h))
  earliest_stays empty a below g e = (unlike same a below (firsts same g), refl)
  earliest_stays (tree b under others) a below g e =
      let rest = earliest_stays others a below g (or_right (alike_trees same b under a below) _ e) in (
        unlike same b under rest.0,
        ap (λ x. tree b under (unlike same b under x)) rest.1
            ∙ ap (tree b under)
            (unlike-append same b under (firsts same others) (tree a below rest.0)
            ∙ ap (λ x. unlike same b under (firsts same others) ⊹ x)
            (unlike_kept b under a below rest.0 (or_left (alike_trees same b under a below) _ e))),
      )

alike-without : (f g : Forest OutputUnit) → alike same_but_keyword f g ≡ true → without_keywords f ≡ without_keywords g
alike-without empty empty e = refl
alike-without empty (tree b under others) e = absurd cc
alike-without (tree a below after) empty e = absurd cc
alike-without (tree a below after) (tree b under others) e =
    let here = and_left (alike_trees same_but_keyword a below b under) _ e in
    let root = (same_but_keyword_decides a b).0 (and_left (same_but_keyword a b) _ here) in
    let down = alike-without below under (and_right (same_but_keyword a b) _ here) in
    let on = alike-without after others (and_right (alike_trees same_but_keyword a below b under) _ e) in
    λ i. tree (root i) (down i) (on i)

without-alike : (f g : Forest OutputUnit) → without_keywords f ≡ without_keywords g → alike same_but_keyword f g ≡ true
without-alike empty empty e = refl
without-alike empty (tree b under others) e = absurd cc
without-alike (tree a below after) empty e = absurd cc
without-alike (tree a below after) (tree b under others) e =
    let root : without_keyword a ≡ without_keyword b = cc in
    let down : without_keywords below ≡ without_keywords under = cc in
    let on : without_keywords after ≡ without_keywords others = cc in
    rw ((same_but_keyword_decides a b).1 root, without-alike below under down, without-alike after others on) refl

pub alike_decides : (f g : Forest OutputUnit) → (alike same_but_keyword f g ≡ true → without_keywords f
    ≡ without_keywords g) × (without_keywords f ≡ without_keywords g → alike same_but_keyword f g ≡ true)
alike_decides f g = (alike-without f g, without-alike f g)
