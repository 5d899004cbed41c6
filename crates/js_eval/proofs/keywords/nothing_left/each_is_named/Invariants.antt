use Rattle.std.proofs.Common.{◌≡◌, map}
use Rattle.std.specs.List.{list_all}
use Rattle.js_assert.specs.Argument.{has}
use Rattle.js_doc.specs.Seen.{pair_of}
use Rattle.js_eval.proofs.keywords.nothing_left.each_is_named.Given as goal

abbrev pub invariant-loop-name : goal.invariant-loop-name
invariant-loop-name l = list_all (λ m. has m.0 l.named) (map pair_of l.name-iterator)
    ≡ list_all (λ m. has m.0 l.named) l.members
