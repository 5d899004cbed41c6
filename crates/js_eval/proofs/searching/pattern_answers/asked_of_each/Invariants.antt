use Rattle.std.proofs.Common.{◌≡◌, ◌++◌, map}
use Rattle.js_assert.specs.Pattern.{matches}
use Rattle.js_doc.specs.Seen.{pair_of}
use Rattle.js_eval.proofs.searching.pattern_answers.asked_of_each.Given as goal

abbrev pub invariant-loop-name : goal.invariant-loop-name
invariant-loop-name l =
    l.all.items ++ map (λ m. matches l.pattern.text.now m.0) (map pair_of l.name-iterator)
    ≡ map (λ m. matches l.pattern.text.now m.0) l.members
