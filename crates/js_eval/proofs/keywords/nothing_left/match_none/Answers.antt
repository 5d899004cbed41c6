use Rattle.std.proofs.Common.{map, subst, sym}
use Rattle.std.proofs.lemmas.Bool.{and_parts}
use Rattle.js_doc.specs.Seen.{pair_of}
use Rattle.js_eval.specs.code.Patterns.{ArePatternsAt, IsPatternAt}
use Rattle.js_eval.proofs.keywords.nothing_left.match_none.Goals as goal

pub pattern_of-built-requires-clause-pattern : goal.pattern_of-built-requires-clause-pattern
pattern_of-built-requires-clause-pattern c =
    let known = subst (λ es. ArePatternsAt c.args.schemas.now c.args.place (map pair_of es)) c.in-Some.ensures.steps
    c.loop-pattern.invariant.known in
    subst (IsPatternAt c.args.schemas.now c.args.place) (sym c.as_str.ensures) (and_parts _ _ known).0
