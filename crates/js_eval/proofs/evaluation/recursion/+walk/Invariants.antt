use Rattle.std.proofs.Common.{◌≡◌, ◌++◌, ◌∷◌, [], ◌+◌, ◌*◌, ◌-◌, ◌<◌, ◌≤◌, length, map}
use Rattle.js_eval.specs.Walk.DynamicScope.{HasGrown}
use Rattle.js_eval.specs.Walk.Progress.{IsStateRestored}
use Rattle.js_eval.specs.Walk.Visited.{AreTogether}
use Rattle.js_eval.proofs.Recursion.Each.{EachSoFar}
use Rattle.js_eval.proofs.Recursion.KeywordByKeyword.{KeywordsLoop}
use Rattle.js_eval.proofs.evaluation.recursion.+walk.Given as goal

abbrev pub decreases-applications : goal.decreases-applications
decreases-applications g l = 5 * l.depth + 2

abbrev pub decreases-keyword_node : goal.decreases-keyword_node
decreases-keyword_node g l = 5 * l.depth + 4

abbrev pub decreases-applicator_node : goal.decreases-applicator_node
decreases-applicator_node g l = 5 * l.depth + 3

abbrev pub decreases-node : goal.decreases-node
decreases-node g l = 5 * l.depth

abbrev pub decreases-applied_node : goal.decreases-applied_node
decreases-applied_node g l = 5 * l.depth + 1

abbrev pub invariant-applications-each : goal.invariant-applications-each
invariant-applications-each g l =
    record {
      so : EachSoFar (g.W.World.schemas l.world) l.depth (map (g.W.World.site l.world) l.fn.state.path) l.kind
          g.R.Reporter.takes (g.W.World.asked l.world l.fn.asking) (g.W.World.asked l.world l.asking)
          l.tally.asked l.tally.succeeded
          (map g.W.World.text_of l.fn.state.names.items) (map g.W.World.text_of l.state.names.items)
          l.fn.state.indexes.items l.state.indexes.items l.fn.state.left l.state.left l.fn.state.keyword
          l.fn.state.instance l.fn.into l.into;
      back : IsStateRestored l.fn.state l.state;
      asking : g.W.World.is_asking l.world l.asking;
      few : l.tally.asked + l.state.left ≤ l.fn.state.left;
      succeeded : l.tally.succeeded ≤ l.tally.asked;
    }

abbrev pub decreases-applications-each : goal.decreases-applications-each
decreases-applications-each g l = length (g.W.World.asked l.world l.asking)

abbrev pub invariant-node-keywords : goal.invariant-node-keywords
invariant-node-keywords g l =
    record {
      loop : KeywordsLoop (g.W.World.schemas l.world) (l.depth - 1) (map (g.W.World.site l.world) l.fn.state.path)
          (g.W.World.site l.world l.place) (g.W.World.value_of l.value) l.quiet g.R.Reporter.takes
          (g.W.World.listed l.judging.keywords) l.judging.known.valid l.judging.known.condition l.judging.known.matching
          (map g.W.World.text_of l.fn.state.names.items) (map g.W.World.text_of l.state.names.items)
          l.fn.state.indexes.items l.state.indexes.items l.fn.state.left l.state.left l.fn.state.keyword
          l.fn.state.instance l.fn.into l.into;
      path : l.state.path ≡ l.fn.state.path ++ l.place ∷ [];
      scope : HasGrown l.fn.state.scope (g.W.World.resource l.world l.place) l.state.scope;
      keyword : l.state.keyword ≡ l.fn.state.keyword;
      instance : l.state.instance ≡ l.fn.state.instance;
      falls : l.state.left < l.fn.state.left;
      together : AreTogether (g.W.World.schemas l.world) (g.W.World.site l.world l.place)
          (g.W.World.value_of l.value) l.together;
    }

abbrev pub decreases-node-keywords : goal.decreases-node-keywords
decreases-node-keywords g l = length (g.W.World.listed l.judging.keywords)
