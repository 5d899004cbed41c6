use Rattle.std.proofs.Common.{◌≡◌, drop}
use Rattle.js_tree.specs.Alike.{same_but_keyword}
use Rattle.js_tree.specs.Forest.{forest_of}
use Rattle.js_tree.specs.Merged.{has_alike}
use Rattle.js_tree.proofs.reducing.likeness.has_alike.Given as goal

abbrev pub invariant-loop-other : goal.invariant-loop-other
invariant-loop-other l = has_alike same_but_keyword (forest_of l.trees) l.tree.root l.tree.below
    ≡ has_alike same_but_keyword (forest_of (drop l.other-index l.trees)) l.tree.root l.tree.below
