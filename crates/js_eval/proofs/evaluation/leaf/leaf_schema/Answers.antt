use Rattle.std.proofs.Common.{◌+◌, ◌-◌, ◌≡◌, ◌&&◌, arith, refl, subst}
use Rattle.js_eval.proofs.Recursion.Leaf.{leaf_done, leaf_too_large}
use Rattle.js_eval.proofs.Recursion.AllKeywords.{none_at_zero, none_left, one_less}
use Rattle.js_eval.specs.Walk.Steps.{NodeDone}
use Rattle.js_eval.specs.Walk.Progress.{HasNone}
use Rattle.js_eval.specs.declared.evaluation.walk_state.WalkState.{WalkState}
use Rattle.js_eval.proofs.evaluation.leaf.leaf_schema.Goals as goal

pub returns-then-depth-eq0 : goal.returns-then-depth-eq0
returns-then-depth-eq0 g c above d =
    none_at_zero (g.W.World.schemas c.args.world.now) 0 above (g.W.World.site c.args.world.now c.args.place)
    (g.W.World.value_of c.args.value) c.args.depth c.args.state.now.left c.if-depth-eq0.true

pub returns-then-state-eq0 : goal.returns-then-state-eq0
returns-then-state-eq0 g c above d =
    none_left (g.W.World.schemas c.args.world.now) 0 above (g.W.World.site c.args.world.now c.args.place)
    (g.W.World.value_of c.args.value) c.args.depth c.args.state.now.left c.if-depth-eq0.false c.if-state-eq0.true

pub returns-then-left-others : goal.returns-then-left-others
returns-then-left-others g c above d =
    let S = g.W.World.schemas c.args.world.now in let place = g.W.World.site c.args.world.now c.args.place in
    let v = g.W.World.value_of c.args.value in
    let some = c.if-state-eq0.false in
    let left : (c.args.state.now.left - 1) + 1 ≡ c.args.state.now.left = omega (arith, some) in
    subst (λ m. HasNone S m above place v c.args.state.now.left) (one_less c.args.depth c.if-depth-eq0.false)
    (leaf_too_large S g.R.Reporter.takes (c.args.depth - 1) above place v c.requires.applies c.in_ok-others.others
    c.accepts-accepted.result c.args.state.now.left (c.args.state.now.left - 1) d
    c.accepts-accepted.ensures c.in_ok-others.ensures left c.if-left-others.true)

pub returns : goal.returns
returns g c above d =
    let S = g.W.World.schemas c.args.world.now in let place = g.W.World.site c.args.world.now c.args.place in
    let v = g.W.World.value_of c.args.value in
    let some = c.if-state-eq0.false in let enough = c.if-left-others.false in
    let left : ((c.args.state.now.left - 1 - c.in_ok-others.others.count) + c.in_ok-others.others.count) + 1
    ≡ c.args.state.now.left = omega (arith, some, enough) in
    let after : WalkState g.row.W-Name.Denot g.row.H.Denot g.row.H-Mark.Denot = record {
      path = c.args.state.now.path;
      scope = c.args.state.now.scope;
      keyword = c.args.state.now.keyword;
      instance = c.args.state.now.instance;
      left = c.args.state.now.left - 1 - c.in_ok-others.others.count;
      names = c.args.state.now.names;
      indexes = c.args.state.now.indexes;
    } in
    subst (λ m. NodeDone S g.W.World.text_of g.R.Reporter.takes m above place v (c.accepts-accepted.result
    && c.in_ok-others.others.pass) c.args.state.now after d d) (one_less c.args.depth c.if-depth-eq0.false)
    (leaf_done S g.R.Reporter.takes (c.args.depth - 1) above place v c.requires.applies g.W.World.text_of
    c.requires.ascending c.requires.ignores c.in_ok-others.others c.accepts-accepted.result
    c.args.state.now after d c.accepts-accepted.ensures c.in_ok-others.ensures refl refl left
    (record { path = refl; scope = refl; keyword = refl; instance = refl }))
