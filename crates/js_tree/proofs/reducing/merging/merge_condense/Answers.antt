use Rattle.std.proofs.Common.{◌≡◌, ◌∙◌, sym, ap, subst}
use Rattle.js_tree.specs.Alike.{same_but_keyword}
use Rattle.js_tree.specs.Forest.{forest_of}
use Rattle.js_tree.specs.MergedResult.{merged, NormalOfThree, RunOfThree}
use Rattle.js_tree.specs.OutputUnit.{noted}
use Rattle.js_tree.specs.Result.{ResultTree, units}
use Rattle.js_tree.specs.Sublist.{Sublist, none_lost}
use Rattle.js_tree.proofs.AlikeUnits.{same_but_keyword_equiv}
use Rattle.js_tree.proofs.MergedLaws.{merged-merged, merged_is_normal, merged_is_reached, same_notes}
use Rattle.js_tree.proofs.MergedUnits.{merged_lost, merged_sublist}
use Rattle.js_tree.proofs.reducing.merging.merge_condense.Goals as goal

pub returns : goal.returns
returns c =
    let t = c.args.tree in
    let u : ResultTree = record { root = c.whole.inside.unit; below = forest_of c.reduce_children.new.children } in
    let e : u ≡ merged t = ap (λ f. record { root = c.whole.inside.unit; below = f }) c.reduce_children.ensures
    ∙ ap merged c.whole.view_is in
    record {
      merged = e;
      normal = subst NormalOfThree (sym e) (merged_is_normal t);
      reached = subst (RunOfThree t) (sym e) (merged_is_reached t);
      once = ap merged e ∙ merged-merged t ∙ sym e;
      units = subst (λ v. Sublist (units v) (units t)) (sym e) (merged_sublist noted same_but_keyword t);
      none_lost = ap (λ v. none_lost same_but_keyword (units v) (units t)) e
          ∙ merged_lost noted same_but_keyword same_but_keyword_equiv same_notes t;
    }
