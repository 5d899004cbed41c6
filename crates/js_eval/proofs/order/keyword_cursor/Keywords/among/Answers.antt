use Rattle.std.proofs.Common.{filter, sym, ◌∙◌, ap}
use Rattle.js_eval.specs.code.Turns.{in_order}
use Rattle.js_eval.specs.Walk.Visited.{is_visited}
use Rattle.js_eval.proofs.Applicators.{all_visited}
use Rattle.js_eval.proofs.order.keyword_cursor.Keywords.among.Goals as goal

pub returns-else-quiet-clause-all : goal.returns-else-quiet-clause-all
returns-else-quiet-clause-all c =
    let ms = c.args.members.now in
    c.new-else-quiet.ensures
    ∙ ap in_order (c.new.ensures.all ∙ sym (ap (λ q. filter (is_visited q) ms) c.if-quiet.false ∙ all_visited ms))
