use Rattle.std.proofs.Common.{sym, ◌∙◌}
use Rattle.js_eval.specs.SchemaSet as spec
use Rattle.js_eval.specs.code.Starting.{by_keyword}
use Rattle.js_eval.proofs.NothingLeft.{none_matched}
use Rattle.js_eval.proofs.keywords.objects.on_matching.Goals as goal

pub returns-then-none-clause-asked : goal.returns-then-none-clause-asked
returns-then-none-clause-asked c =
    let s = c.args.start.now in
    sym (none_matched (λ p m. by_keyword s.schemas.now s.at.now (spec.Name p.0) (spec.Name m.0) m.1) c.args.members.now
    c.args.patterns.now (sym c.in_ok-none.ensures ∙ c.if-none.true))
