use Rattle.std.proofs.Common.{ap, sym, ◌∙◌, option_map}
use Rattle.js_doc.specs.Seen.{value_of}
use Rattle.js_eval.proofs.NothingLeft.{named_at_rank}
use Rattle.js_eval.proofs.keywords.nothing_left.is_at_rank.Goals as goal

pub returns-in-Some : goal.returns-in-Some
returns-in-Some c = λ e.
    named_at_rank c.args.named.now c.args.rank c.args.name.now c.in-Some.other.now (value_of c.in-Some.field-0-1.now)
    (sym (ap (option_map (λ m. (m.0.now, value_of m.1.now))) c.in-Some.is) ∙ c.nth.ensures) (sym c.eq.ensures ∙ e)
