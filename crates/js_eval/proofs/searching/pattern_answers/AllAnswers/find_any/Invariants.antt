use Rattle.std.proofs.Common.{◌≡◌, map}
use Rattle.std.specs.List.{list_any}
use Rattle.js_assert.specs.Pattern.{matches}
use Rattle.js_doc.specs.Seen.{pair_of}
use Rattle.js_eval.proofs.searching.pattern_answers.AllAnswers.find_any.Given as goal

abbrev pub invariant-loop-index : goal.invariant-loop-index
invariant-loop-index l =
    record {
      can : (goal.iterator-loop-index).can_next l.index-iterator
          × (goal.iterator-loop-index).is_finite l.index-iterator;
      same : list_any (λ p. matches p.0 l.name) (map pair_of l.index-iterator.iter)
          ≡ list_any (λ p. matches p.0 l.name) l.patterns;
    }
