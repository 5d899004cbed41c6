-- The laws of the third rule, said of result trees.
use Rattle.std.proofs.Common.{◌≡◌, ◌<◌, true, refl, ap, sym, ◌∙◌}
use Rattle.js_tree.specs.Alike.{same_but_keyword}
use Rattle.js_tree.specs.Forest.{Forest, empty, node_count}
use Rattle.js_tree.specs.Merged.{MergeRun, condensed, ended, then_on}
use Rattle.js_tree.specs.MergedResult.{merged, NormalOfThree, RunOfThree, RewriteOfThree}
use Rattle.js_tree.specs.OutputUnit.{OutputUnit, noted}
use Rattle.js_tree.specs.Result.{ResultTree, kept}
use Rattle.js_tree.specs.Rewrite.{ForestRun, done, next}
use Rattle.js_tree.proofs.AlikeUnits.{same_but_keyword_equiv, same_but_keyword_decides}
use Rattle.js_tree.proofs.Forests.{same_tree}
use Rattle.js_tree.proofs.KeptTree.{kept_is_reached}
use Rattle.js_tree.proofs.MergedTree.{merge_step-merged_below, merge_run-merged_below, normal-merged_below}
use Rattle.js_tree.proofs.MergedTree.{merged_below_is_reached, merge_step_leaves_fewer, merged_below_is_normal}

-- units that are the same but for their keyword locations have a note or have none
pub same_notes : (u v : OutputUnit) → same_but_keyword u v ≡ true → noted u ≡ noted v
same_notes u v h = ap noted ((same_but_keyword_decides u v).0 h)

pub step_of_three-merged : (t u : ResultTree) → RewriteOfThree t u → merged u ≡ merged t
step_of_three-merged t u s =
    same_tree (merged t) (merged u) s.0
    (sym (merge_step-merged_below noted same_but_keyword same_but_keyword_equiv same_notes s.1))

pub run_of_three-merged : (t u : ResultTree) → RunOfThree t u → merged u ≡ merged t
run_of_three-merged t u r =
    same_tree (merged t) (merged u) r.0
    (sym (merge_run-merged_below noted same_but_keyword same_but_keyword_equiv same_notes r.1))

-- a run of the two rules is one of the three
run_of_two : {f g : Forest OutputUnit} → ForestRun noted f g → MergeRun noted same_but_keyword empty f g
run_of_two done = ended
run_of_two (next s r) = then_on (condensed s) (run_of_two r)

pub merged-kept : (t : ResultTree) → merged (kept t) ≡ merged t
merged-kept t = run_of_three-merged t (kept t) (refl, run_of_two (kept_is_reached noted t.below))

pub normal_of_three-merged : (t : ResultTree) → NormalOfThree t → merged t ≡ t
normal_of_three-merged t n = ap (λ f. record { root = t.root; below = f })
    (normal-merged_below noted same_but_keyword same_but_keyword_equiv same_notes t.below n)

pub step_of_three_leaves_fewer : (t u : ResultTree) → RewriteOfThree t u → node_count u.below < node_count t.below
step_of_three_leaves_fewer t u s = merge_step_leaves_fewer noted same_but_keyword s.1

pub merged_is_reached : (t : ResultTree) → RunOfThree t (merged t)
merged_is_reached t = (refl, merged_below_is_reached noted same_but_keyword same_but_keyword_equiv same_notes t.below)

pub merged_is_normal : (t : ResultTree) → NormalOfThree (merged t)
merged_is_normal t = merged_below_is_normal noted same_but_keyword same_but_keyword_equiv same_notes t.below

pub merged-merged : (t : ResultTree) → merged (merged t) ≡ merged t
merged-merged t = normal_of_three-merged (merged t) (merged_is_normal t)

pub normal_end_of_three : (t u : ResultTree) → RunOfThree t u → NormalOfThree u → u ≡ merged t
normal_end_of_three t u r n =
    same_tree (merged t) u r.0
    (sym (merge_run-merged_below noted same_but_keyword same_but_keyword_equiv same_notes r.1
    ∙ normal-merged_below noted same_but_keyword same_but_keyword_equiv same_notes u.below n))
