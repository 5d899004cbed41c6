use Rattle.std.proofs.Common.{◌≡◌, take, drop}
use Rattle.js_tree.specs.Alike.{same_but_keyword}
use Rattle.js_tree.specs.Forest.{empty, forest_of}
use Rattle.js_tree.specs.Merged.{none_alike}
use Rattle.js_tree.proofs.reducing.merging.few_differ.Given as goal

abbrev pub invariant-loop-i : goal.invariant-loop-i
invariant-loop-i l = none_alike same_but_keyword empty (forest_of l.trees)
    ≡ none_alike same_but_keyword (forest_of (take l.i l.trees)) (forest_of (drop l.i l.trees))
