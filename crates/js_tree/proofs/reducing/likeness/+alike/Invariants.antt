use Rattle.std.proofs.Common.{◌≡◌, ◌+◌, ◌*◌, drop}
use Rattle.js_tree.specs.Alike.{same_but_keyword}
use Rattle.js_tree.specs.Forest.{forest_of, node_count}
use Rattle.js_tree.specs.Merged.{alike}
use Rattle.js_tree.proofs.reducing.likeness.+alike.Given as goal

abbrev pub decreases-are_alike : goal.decreases-are_alike
decreases-are_alike l = 2 * node_count l.a.now.below + 1

abbrev pub decreases-all_alike : goal.decreases-all_alike
decreases-all_alike l = 2 * node_count (forest_of l.a.now)

abbrev pub invariant-all_alike-loop-i : goal.invariant-all_alike-loop-i
invariant-all_alike-loop-i l = alike same_but_keyword (forest_of l.a) (forest_of l.b)
    ≡ alike same_but_keyword (forest_of (drop l.i l.a)) (forest_of (drop l.i l.b))
