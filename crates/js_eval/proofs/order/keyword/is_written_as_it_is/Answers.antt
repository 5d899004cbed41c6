use Rattle.std.proofs.Common.{◌∙◌}
use Rattle.js_eval.proofs.PlainNames.{not_matched, written_by_keyword}
use Rattle.js_eval.proofs.order.keyword.is_written_as_it_is.Goals as goal
use Rattle.js_eval.proofs.order.keyword.is_written_as_it_is.Goals.{in-Other, in_default}

pub returns : goal.returns
returns c = elim c.match-matches.branch [
  | in-Other w ↦ (λ t. absurd (not_matched c.match-matches.matches w.matches-is c.if-matches.false))
  | in_default w ↦ (λ t. written_by_keyword c.args.name.now (λ other e. w.in_default.not-Other other (c.requires ∙ e)))
]
