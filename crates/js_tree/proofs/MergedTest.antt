-- The test of trees that no step of the three rules leaves.
use Rattle.std.proofs.Common.{◌≡◌, ℕ, ◌+◌, ◌<◌, Bool, true, false, ◌&&◌, not, List, [], ◌∷◌}
use Rattle.std.proofs.Common.{length, take, drop, get_or, refl, add-one}
use Rattle.std.proofs.Math.Seq.{take-suc}
use Rattle.std.proofs.lemmas.List.{drop_more}
use Rattle.js_tree.specs.Forest.{Forest, empty, tree, Rose, forest_of, ◌⊹◌}
use Rattle.js_tree.specs.Rewrite.{node_stands, all_stand}
use Rattle.js_tree.specs.Merged.{has_alike, none_alike, all_merged, MergeRewrite, condensed}
use Rattle.js_tree.specs.Merged.{doubled, deeper, further, MergeNormal}
use Rattle.js_tree.proofs.Forests.{forest_of-append}
use Rattle.js_tree.proofs.Rewrites.{and_left, and_right, normal-all_stand, all_stand-normal}

pub not_true : (v : Bool) → v ≡ true → not v ≡ true → ⊥
not_true true h k = cc
not_true false h k = cc

module _ {A : Type 0} (same : A → A → Bool) where
  -- one tree more is among those before
  pub none_alike_step : (ts : List (Rose A)) (i : ℕ) (d : Rose A) → i < length ts
      → none_alike same (forest_of (take i ts)) (forest_of (drop i ts))
      ≡ (not (has_alike same (forest_of (take i ts)) (get_or ts i d).root (get_or ts i d).below)
      && none_alike same (forest_of (take (i + 1) ts)) (forest_of (drop (i + 1) ts)))
  none_alike_step ts i d h =
      rw (drop_more ts i d h, add-one, take-suc ts i d h, forest_of-append (take i ts) (get_or ts i d ∷ [])) refl

module _ {A : Type 0} (noted : A → Bool) (same : A → A → Bool) where
  abbrev NormalAfter : Forest A → Forest A → Type 0
  NormalAfter before f = (g : Forest A) → MergeRewrite noted same before f g → ⊥

  not_alike : (v : Bool) (before : Forest A) (a : A) (below after : Forest A) → has_alike same before a below ≡ v
      → NormalAfter before (tree a below after) → not v ≡ true
  not_alike true before a below after h n = absurd (n after (doubled h))
  not_alike false before a below after h n = refl

  normal-none_alike : (before f : Forest A) → NormalAfter before f → none_alike same before f ≡ true
  normal-none_alike before empty n = refl
  normal-none_alike before (tree a below after) n =
      rw (
        not_alike (has_alike same before a below) before a below after refl n,
        normal-none_alike
            (before ⊹ tree a below empty) after (λ g s. n _ (further s)),
      ) refl

  normal-all_merged : (before f : Forest A) → NormalAfter before f → all_merged noted same f ≡ true
  normal-all_merged before empty n = refl
  normal-all_merged before (tree a below after) n =
      let here : node_stands noted a below ≡ true = and_left (node_stands noted a below) _
      (normal-all_stand noted (tree a below after) (λ g s. n g (condensed s))) in
      let down : NormalAfter empty below = λ g s. n _ (deeper s) in
      rw (
        here,
        normal-none_alike empty below down,
        normal-all_merged empty below down,
        normal-all_merged
            (before ⊹ tree a below empty) after (λ g s. n _ (further s)),
      ) refl

  pub normal_tests : (f : Forest A) → MergeNormal noted same f
      → (none_alike same empty f && all_merged noted same f) ≡ true
  normal_tests f n = rw (normal-none_alike empty f n, normal-all_merged empty f n) refl

  all_merged-all_stand : (f : Forest A) → all_merged noted same f ≡ true → all_stand noted f ≡ true
  all_merged-all_stand empty e = refl
  all_merged-all_stand (tree a below after) e =
      let here = and_left (node_stands noted a below && none_alike same empty below) _ e in
      let rest = and_right (node_stands noted a below && none_alike same empty below) _ e in
      rw (
        and_left (node_stands noted a below) _ here,
        all_merged-all_stand below (and_left (all_merged noted same
            below) _ rest),
        all_merged-all_stand after (and_right (all_merged noted same below) _ rest),
      ) refl

  step_not_merged : {before f g : Forest A} → MergeRewrite noted same before f g → none_alike same before f ≡ true
      → all_merged noted same f ≡ true → ⊥
  step_not_merged (condensed {f = f} {g = g} s) d e = all_stand-normal noted f (all_merged-all_stand f e) g s
  step_not_merged {before = before} (doubled {below = below} {a = a} h) d e =
      not_true (has_alike same before a below) h (and_left (not (has_alike same before a below)) _ d)
  step_not_merged (deeper {f = f} {a = a} s) d e =
      let here = and_left (node_stands noted a f && none_alike same empty f) _ e in
      let rest = and_right (node_stands noted a f && none_alike same empty f) _ e in
      step_not_merged s (and_right (node_stands noted a f) _ here) (and_left (all_merged noted same f) _ rest)
  step_not_merged {before = before} (further {below = below} {a = a} s) d e =
      let rest = and_right (node_stands noted a below && none_alike same empty below) _ e in
      step_not_merged s (and_right (not (has_alike same before a below)) _ d)
      (and_right (all_merged noted same below) _ rest)

  pub tests_normal : (f : Forest A) → (none_alike same empty f && all_merged noted same f) ≡ true
      → MergeNormal noted same f
  tests_normal f e g s = step_not_merged s (and_left (none_alike same empty f) _ e)
      (and_right (none_alike same empty f) _ e)
