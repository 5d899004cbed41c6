use Rattle.std.proofs.Common.{true, sym, ◌∙◌, ap}
use Rattle.js_assert.specs.Argument.{entries}
use Rattle.js_doc.specs.Seen.{value_of}
use Rattle.js_eval.specs.code.Applicator.{has_applicator}
use Rattle.js_eval.specs.code.Turns.{in_order}
use Rattle.js_eval.specs.Walk.Visited.{is_visited}
use Rattle.js_eval.proofs.Applicators.{chosen_in_order, none_visited}
use Rattle.js_eval.proofs.order.keyword_cursor.Keywords.may_apply.Goals as goal

pub returns-in-Some-clause-none : goal.returns-in-Some-clause-none
returns-in-Some-clause-none c none =
    let ms = entries (value_of c.args.schema.now) in
    sym (chosen_in_order (is_visited true) ms)
    ∙ ap in_order (none_visited ms (ap has_applicator (sym c.requires) ∙ (sym c.has_applicator.ensures ∙ none)))
