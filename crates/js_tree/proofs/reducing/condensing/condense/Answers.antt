use Rattle.std.proofs.Common.{◌≡◌, ◌∙◌, sym, ap}
use Rattle.js_tree.specs.Forest.{Rose, forest_of}
use Rattle.js_tree.specs.OutputUnit.{noted}
use Rattle.js_tree.specs.Result.{kept, units}
use Rattle.js_tree.specs.declared.unit.Unit.{Unit}
use Rattle.js_tree.proofs.KeptTree.{kept_is_normal, kept_is_reached, kept-kept, units-kept}
use Rattle.js_tree.proofs.reducing.condensing.condense.Goals as goal

pub returns : goal.returns
returns c =
    let t = c.args.tree in
    let u : Rose Unit = record { root = c.condensed.inside.unit; below = forest_of c.reduce_children.new.children } in
    let e : u ≡ kept t = ap (λ f. record { root = c.condensed.inside.unit; below = f }) c.reduce_children.ensures
    ∙ ap kept c.condensed.view_is in
    record {
      kept = e;
      normal = rw (ap (λ v. v.below) e) (kept_is_normal noted t.below);
      reached = rw (ap (λ v. v.below) e) (ap (λ v. v.root) e, kept_is_reached noted t.below);
      once = ap kept e ∙ kept-kept noted t ∙ sym e;
      units = ap units e ∙ units-kept noted t;
    }
