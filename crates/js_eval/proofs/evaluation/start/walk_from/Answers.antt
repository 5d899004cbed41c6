use Rattle.std.proofs.Common.{ap, map, [], refl}
use Rattle.std.proofs.lemmas.Result.{MatchResult-weaker}
use Rattle.js_eval.specs.Location.{at_root}
use Rattle.js_eval.specs.Result.{ResultTree, IsResult, IsWithinLimits}
use Rattle.js_eval.specs.Walk.Progress.{HasNone}
use Rattle.js_eval.proofs.Recursion.Ends.{led, none_led}
use Rattle.js_eval.proofs.Recursion.Stepping.{on_too_large}
use Rattle.js_eval.proofs.evaluation.start.walk_from.Goals as goal

pub returns : goal.returns
returns g c =
    let limits = c.args.limits in
    MatchResult-weaker c.node.result c.node.ensures
    (λ valid done. led (g.W.World.schemas c.args.world.now) g.W.World.text_of g.R.Reporter.takes
    (g.W.World.site c.args.world.now c.args.place) (g.W.World.value_of c.args.value) limits valid
    (map (g.W.World.site c.args.world.now) c.new.result) _ _ _ _
    (ap (map (g.W.World.site c.args.world.now)) c.new.ensures) refl c.new-2.ensures c.new-3.ensures done)
    (λ fault failed. on_too_large (HasNone (g.W.World.schemas c.args.world.now) limits.levels
    (map (g.W.World.site c.args.world.now) c.new.result) (g.W.World.site c.args.world.now c.args.place)
    (g.W.World.value_of c.args.value) limits.nodes)
    ((t : ResultTree) → IsResult (g.W.World.schemas c.args.world.now) [] (g.W.World.site c.args.world.now c.args.place)
    at_root (g.W.World.value_of c.args.value) t → IsWithinLimits limits t → ⊥) fault
    (λ none. none_led (g.W.World.schemas c.args.world.now) (g.W.World.site c.args.world.now c.args.place)
    (g.W.World.value_of c.args.value) limits (map (g.W.World.site c.args.world.now) c.new.result)
    limits.nodes (ap (map (g.W.World.site c.args.world.now)) c.new.ensures) refl none) failed)
