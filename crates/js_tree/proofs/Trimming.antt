-- What trimming leaves: nothing of it is lost to what looks at notes alone.
use Rattle.std.specs.Prelude.{◌≡◌, ℕ, suc, Bool, true, false, not, ◌||◌, if◌then◌else◌, List, [], ◌∷◌, ◌++◌, refl}
use Rattle.std.proofs.Common.{ap, ap₂, sym, ◌∙◌}
use Rattle.js_tree.specs.Alike.{same_but_keyword}
use Rattle.js_tree.specs.Forest.{Forest, empty, tree, ◌⊹◌}
use Rattle.js_tree.specs.Kept.{kept_below, noted_trees}
use Rattle.js_tree.specs.Merged.{firsts, given_trees, over}
use Rattle.js_tree.specs.MergedResult.{merged}
use Rattle.js_tree.specs.Note.{Note, silent, error, value, names, index, indexes, truly, speaks}
use Rattle.js_tree.specs.OutputUnit.{OutputUnit, noted}
use Rattle.js_tree.specs.Pruned.{pruned_below}
use Rattle.js_tree.specs.Result.{ResultTree, has_verdict, kept, pruned, units}
use Rattle.js_tree.specs.Rewrite.{at_least_one, at_least_two}
use Rattle.js_tree.specs.Trimmed.{is_silent_leaf, trimmed, trimmed_tree}
use Rattle.js_tree.specs.Units.{units_below}

-- ---- a silent leaf

silent_note : (note : Note) → not (speaks note) ≡ true → note ≡ silent
silent_note silent e = refl
silent_note (error text) e = absurd cc
silent_note (value v) e = absurd cc
silent_note (names ns) e = absurd cc
silent_note (index i) e = absurd cc
silent_note (indexes is) e = absurd cc
silent_note truly e = absurd cc

pub silent_leaf : (u : OutputUnit) (f : Forest OutputUnit) → is_silent_leaf u f ≡ true → (f ≡ empty) × (u.note ≡ silent)
silent_leaf u empty e = (refl, silent_note u.note e)
silent_leaf u (tree v below rest) e = absurd cc

-- ---- what comes of a tree from its label, what is below it and what is after it, and to which a silent leaf adds
-- nothing

module _ {X : Type 0} (come : Forest OutputUnit → X) (step : OutputUnit → X → X → X)
    (stepped : (u : OutputUnit) (below after : Forest OutputUnit)
    → come (tree u below after) ≡ step u (come below) (come after))
    (passed : (u : OutputUnit) (x : X) → noted u ≡ false → step u (come empty) x ≡ x) (agrees : OutputUnit → Bool) where
  -- a silent leaf goes
  gone : (a : Bool) (u : OutputUnit) (below after rest : Forest OutputUnit) → noted u ≡ false → come below ≡ come empty
      → come rest ≡ come after → come rest ≡ come (if a then tree u below after else after)
  gone true u below after rest quiet none e = e
      ∙ (sym (passed u (come after) quiet) ∙ (ap (λ x. step u x (come after)) (sym none) ∙ sym (stepped u below after)))
  gone false u below after rest quiet none e = e

  -- another node stays
  stays : (a : Bool) (u : OutputUnit) (left below rest after : Forest OutputUnit) → come left ≡ come below
      → come rest ≡ come after
      → come (if a then tree u left rest else rest) ≡ come (if a then tree u below after else after)
  stays true u left below rest after b e = stepped u left rest ∙ (ap₂ (step u) b e ∙ sym (stepped u below after))
  stays false u left below rest after b e = e

  either : (b : Bool) (u : OutputUnit) (below after : Forest OutputUnit) → is_silent_leaf u (trimmed below) ≡ b
      → come (pruned_below agrees (trimmed below)) ≡ come (pruned_below agrees below)
      → come (pruned_below agrees (trimmed after)) ≡ come (pruned_below agrees after)
      → come (pruned_below agrees (if b then trimmed after else tree u (trimmed below) (trimmed after)))
      ≡ come (pruned_below agrees (tree u below after))
  either true u below after leaf l r =
      let w = silent_leaf u (trimmed below) leaf in
      gone (agrees u) u (pruned_below agrees below) (pruned_below agrees after) (pruned_below agrees (trimmed after))
      (ap speaks w.1) (sym l ∙ ap (λ f. come (pruned_below agrees f)) w.0) r
  either false u below after leaf l r = stays (agrees u) u (pruned_below agrees (trimmed below))
      (pruned_below agrees below) (pruned_below agrees (trimmed after)) (pruned_below agrees after) l r

  same : (f : Forest OutputUnit) → come (pruned_below agrees (trimmed f)) ≡ come (pruned_below agrees f)
  same empty = refl
  same (tree u below after) = either (is_silent_leaf u (trimmed below)) u below after refl (same below) (same after)

-- ---- the noted units

abbrev unit_step : OutputUnit → List OutputUnit → List OutputUnit → List OutputUnit
unit_step u below after = (if noted u then u ∷ below else below) ++ after

unit_passed : (u : OutputUnit) (after : List OutputUnit) → noted u ≡ false → unit_step u [] after ≡ after
unit_passed u after quiet = ap (λ b. (if b then u ∷ [] else []) ++ after) quiet

pub same_units : (t : ResultTree) → units (pruned (trimmed_tree t)) ≡ units (pruned t)
same_units t =
    ap (λ us. if noted t.root then t.root ∷ us else us)
    (same (units_below noted) unit_step (λ u below after. refl) unit_passed (has_verdict t.root.valid) t.below)

-- ---- the kept tree

abbrev Counted : Type 0
Counted = ℕ × Forest OutputUnit

abbrev counted : Forest OutputUnit → Counted
counted f = (noted_trees noted f, kept_below noted f)

abbrev kept_step : OutputUnit → Counted → Counted → Counted
kept_step u below after = (
  if (noted u || at_least_one below.0) then suc after.0 else after.0,
  if (noted u || at_least_two below.0) then tree u below.1 after.1 else (below.1 ⊹ after.1),
)

kept_passed : (u : OutputUnit) (after : Counted) → noted u ≡ false → kept_step u (0, empty) after ≡ after
kept_passed u after quiet = ap (λ b.
    (if (b || false) then suc after.0 else after.0, if (b || false) then tree u empty after.1 else (empty ⊹ after.1)))
    quiet

pub same_kept : (t : ResultTree) → kept (pruned (trimmed_tree t)) ≡ kept (pruned t)
same_kept t = ap (λ c. record { root = t.root; below = c.1 })
    (same counted kept_step (λ u below after. refl) kept_passed (has_verdict t.root.valid) t.below)

-- ---- the merged tree

abbrev merged_step : OutputUnit → Forest OutputUnit → Forest OutputUnit → Forest OutputUnit
merged_step u below after = over noted same_but_keyword u (firsts same_but_keyword below) ⊹ after

merged_passed : (u : OutputUnit) (after : Forest OutputUnit) → noted u ≡ false → merged_step u empty after ≡ after
merged_passed u after quiet = ap (λ b. (if (b || false) then tree u empty empty else empty) ⊹ after) quiet

pub same_merged : (t : ResultTree) → merged (pruned (trimmed_tree t)) ≡ merged (pruned t)
same_merged t = ap (λ f. record { root = t.root; below = firsts same_but_keyword f })
    (same (given_trees noted same_but_keyword) merged_step (λ u below after. refl) merged_passed
    (has_verdict t.root.valid) t.below)
