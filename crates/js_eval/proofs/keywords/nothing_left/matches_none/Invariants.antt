use Rattle.std.proofs.Common.{◌≡◌, map, not}
use Rattle.std.specs.List.{list_all}
use Rattle.js_assert.specs.Pattern.{matches}
use Rattle.js_doc.specs.Seen.{pair_of}
use Rattle.js_eval.proofs.keywords.nothing_left.matches_none.Given as goal

abbrev pub invariant-loop-name : goal.invariant-loop-name
invariant-loop-name l = list_all (λ m. not (matches l.pattern.text.now m.0)) (map pair_of l.name-iterator)
    ≡ list_all (λ m. not (matches l.pattern.text.now m.0)) l.members
