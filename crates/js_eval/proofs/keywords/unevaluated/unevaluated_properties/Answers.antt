use Rattle.std.proofs.Common.{filter, not, ap, sym, ◌∙◌}
use Rattle.js_eval.specs.Applications.{among_names}
use Rattle.js_eval.specs.Seen.{texts_of}
use Rattle.js_eval.specs.code.Starting.{on_members}
use Rattle.js_eval.proofs.NothingLeft.{none_except}
use Rattle.js_eval.proofs.keywords.unevaluated.unevaluated_properties.Goals as goal

pub returns-then-are_all_evaluated-clause-asked : goal.returns-then-are_all_evaluated-clause-asked
returns-then-are_all_evaluated-clause-asked c =
    let s = c.args.start.now in
    let names = texts_of c.args.evaluated.now in
    sym (ap (on_members s.schemas.now s.at.now)
    (ap (filter (λ m. not (among_names m.0 names))) (sym c.in-Some.ensures)
    ∙ none_except (λ m. among_names m.0 names) c.in-Some.members.now
    (c.are_all_evaluated.ensures c.if-are_all_evaluated.true)))
