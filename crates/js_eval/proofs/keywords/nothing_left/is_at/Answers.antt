use Rattle.std.proofs.Common.{sym, ap, ◌∙◌}
use Rattle.std.specs.Str.{bytes_eq}
use Rattle.js_eval.proofs.NothingLeft.{among_at}
use Rattle.js_eval.proofs.keywords.nothing_left.is_at.Goals as goal

pub returns-in-Some : goal.returns-in-Some
returns-in-Some c = λ e.
    among_at c.args.names.now c.args.index c.in-Some.other.now c.args.name.now c.in-Some.ensures.lookup.3.0
    (ap (λ n. bytes_eq c.args.name.now n.now) (sym c.in-Some.ensures.lookup.1) ∙ sym c.eq.ensures ∙ e)
