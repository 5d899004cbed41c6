use Rattle.std.proofs.Common.{◌≡◌, ◌++◌, ◌∷◌, []}
use Rattle.js_eval.proofs.DynamicScopes.{grows, stays}
use Rattle.js_eval.proofs.evaluation.dynamic_scope.DynamicScope.push.Goals as goal

pub returns-in_ok-push : goal.returns-in_ok-push
returns-in_ok-push c =
    let v = c.self.view_is in
    let a = c.as_slice.ensures.value in
    let p = c.in_ok-push.ensures.items in
    let from : c.as_slice.result.now ≡ c.args.self.now = cc in
    let more : c.push.new.self.items ≡ c.args.self.now ++ c.args.resource ∷ [] = cc in
    grows c.args.self.now c.push.new.self.items c.as_slice.result.now c.args.resource c.is_last.result from
    c.is_last.ensures c.if-not-is_last.true more

pub returns-else-not-is_last : goal.returns-else-not-is_last
returns-else-not-is_last c =
    let v = c.self.view_is in
    let a = c.as_slice.ensures.value in
    let from : c.as_slice.result.now ≡ c.args.self.now = cc in
    stays c.args.self.now c.as_slice.result.now c.args.resource c.is_last.result from
    c.is_last.ensures c.if-not-is_last.false
