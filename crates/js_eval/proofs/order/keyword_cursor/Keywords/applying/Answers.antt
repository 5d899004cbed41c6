use Rattle.std.proofs.Common.{true, sym, ◌∙◌, ap, subst}
use Rattle.js_doc.specs.Members.{IsAscending}
use Rattle.js_eval.specs.code.Turns.{in_order}
use Rattle.js_eval.specs.Walk.Visited.{is_visited}
use Rattle.js_eval.proofs.Applicators.{chosen_ascend}
use Rattle.js_eval.proofs.order.keyword_cursor.Keywords.applying.Goals as goal

pub new-requires-2 : goal.new-requires-2
new-requires-2 c =
    let ms = c.args.members.now in
    subst IsAscending (sym c.new.ensures) (chosen_ascend (is_visited true) ms c.names_ascend.ensures)

pub returns-clause-all : goal.returns-clause-all
returns-clause-all c = c.new-2.ensures ∙ ap in_order c.new.ensures
