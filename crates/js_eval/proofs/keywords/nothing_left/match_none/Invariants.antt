use Rattle.std.proofs.Common.{◌≡◌, map, not}
use Rattle.std.specs.List.{list_all}
use Rattle.js_assert.specs.Pattern.{matches}
use Rattle.js_doc.specs.Seen.{pair_of}
use Rattle.js_eval.specs.code.Patterns.{ArePatternsAt}
use Rattle.js_eval.proofs.keywords.nothing_left.match_none.Given as goal

abbrev pub invariant-loop-pattern : goal.invariant-loop-pattern
invariant-loop-pattern l = record {
  same : list_all (λ p. list_all (λ m. not (matches p.0 m.0)) l.members) (map pair_of l.pattern-iterator)
      ≡ list_all (λ p. list_all (λ m. not (matches p.0 m.0)) l.members) l.patterns;
  known : ArePatternsAt l.schemas l.place (map pair_of l.pattern-iterator);
}
