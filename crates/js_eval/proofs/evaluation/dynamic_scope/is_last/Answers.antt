use Rattle.std.proofs.Common.{length, slice_get, ◌-◌, sym}
use Rattle.js_eval.specs.Walk.DynamicScope.{ends_with}
use Rattle.js_eval.proofs.DynamicScopes.{last_is, last_some}
use Rattle.js_eval.proofs.evaluation.dynamic_scope.is_last.Goals as goal

pub returns-in-Some : goal.returns-in-Some
returns-in-Some c =
    last_some (slice_get c.args.numbers.now (length c.args.numbers.now - 1)) c.in-Some.last.now c.args.number
    (ends_with c.args.numbers.now c.args.number)
    (sym c.in-Some.ensures.value) (last_is c.args.numbers.now c.args.number)
