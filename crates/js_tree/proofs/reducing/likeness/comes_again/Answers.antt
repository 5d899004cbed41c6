use Rattle.std.proofs.Common.{◌<◌, ◌∙◌, ap, length, take, arith}
use Rattle.std.proofs.lemmas.List.{get_or_default}
use Rattle.js_tree.specs.Alike.{same_but_keyword}
use Rattle.js_tree.specs.Forest.{forest_of}
use Rattle.js_tree.specs.Merged.{has_alike}
use Rattle.js_tree.proofs.reducing.likeness.comes_again.Goals as goal

pub returns : goal.returns
returns c = λ d.
    let within : c.args.index < length c.args.trees.now = omega arith in
    c.has_alike.ensures
    ∙ ap (λ t. has_alike same_but_keyword (forest_of (take c.args.count c.args.trees.now)) t.root t.below)
    (c.index-trees-index.is ∙ get_or_default c.args.trees.now c.args.index c.index-trees-index.result d within)
