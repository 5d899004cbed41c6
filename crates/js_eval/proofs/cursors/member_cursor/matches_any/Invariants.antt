use Rattle.std.proofs.Common.{◌≡◌, map}
use Rattle.std.specs.List.{list_any}
use Rattle.js_doc.specs.Seen.{pair_of}
use Rattle.js_assert.specs.Pattern.{matches}
use Rattle.js_eval.specs.code.Patterns.{ArePatternsAt}
use Rattle.js_eval.proofs.cursors.member_cursor.matches_any.Given as goal

abbrev pub invariant-loop-pattern : goal.invariant-loop-pattern
invariant-loop-pattern l = record {
  same : list_any (λ p. matches p.0 l.name) (map pair_of l.pattern-iterator)
      ≡ list_any (λ p. matches p.0 l.name) l.patterns;
  known : ArePatternsAt l.schemas l.place (map pair_of l.pattern-iterator);
}
