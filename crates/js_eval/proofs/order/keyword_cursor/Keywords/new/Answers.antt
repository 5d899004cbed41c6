use Rattle.std.proofs.Common.{filter, ◌∙◌, ap}
use Rattle.js_assert.specs.Argument.{entries}
use Rattle.js_doc.specs.Seen.{value_of}
use Rattle.js_eval.specs.code.Turns.{in_order}
use Rattle.js_eval.specs.Walk.Visited.{is_visited}
use Rattle.js_eval.proofs.Applicators.{chosen_in_order}
use Rattle.js_eval.proofs.order.keyword_cursor.Keywords.new.Goals as goal

pub returns-in-Some-clause-all : goal.returns-in-Some-clause-all
returns-in-Some-clause-all c =
    let visited = is_visited c.args.quiet in
    c.among.ensures.all ∙ (ap (λ ms. in_order (filter visited ms)) c.in-Some.ensures
    ∙ chosen_in_order visited (entries (value_of c.args.schema.now)))
