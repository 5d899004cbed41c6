use Rattle.std.proofs.Common.{◌≡◌, ◌∙◌, sym, ap}
use Rattle.js_tree.specs.Forest.{forest_of}
use Rattle.js_tree.specs.OutputUnit.{noted}
use Rattle.js_tree.specs.Rewrite.{all_stand}
use Rattle.js_tree.proofs.Rewrites.{all_stand-normal, normal-all_stand}
use Rattle.js_tree.proofs.reducing.condensing.is_normal.Goals as goal

pub returns : goal.returns
returns c =
    let e : c.all_stand.result ≡ all_stand noted c.args.tree.now.below =
    c.all_stand.ensures ∙ ap (λ ts. all_stand noted (forest_of ts)) c.as_slice.ensures
    ∙ ap (λ t. all_stand noted t.below) c.tree.view_is in (
      λ h. all_stand-normal noted c.args.tree.now.below (sym e ∙ h),
      λ n. e
          ∙ normal-all_stand noted c.args.tree.now.below n,
    )
