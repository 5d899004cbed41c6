use Rattle.std.proofs.Common.{map, ap, subst, sym, ◌∙◌}
use Rattle.js_doc.specs.Seen.{pair_of, value_of}
use Rattle.js_eval.specs.code.Patterns.{ArePatternsAt}
use Rattle.js_eval.proofs.PatternsAt.{patterns_at}
use Rattle.js_eval.proofs.searching.pattern_answers.keep_all.Goals as goal

pub loop-text-init : goal.loop-text-init
loop-text-init c =
    let documents = c.args.schemas.now in
    let all = patterns_at documents c.args.place (value_of c.args.schema.now) c.requires c.in-Some.patterns.now
    c.in-Some.ensures.is c.in-Some.ensures.ascend in
    subst (ArePatternsAt documents c.args.place)
    (sym (ap (map pair_of) c.into_iter-text-iterator.ensures.into_iter_gives ∙ c.pairs-text-items.ensures.pairs)) all
