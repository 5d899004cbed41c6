use Rattle.std.proofs.Common.{◌≡◌, ◌++◌, drop}
use Rattle.js_eval.proofs.keywords.contains.as_numbers.Given as goal

abbrev pub invariant-loop-index : goal.invariant-loop-index
invariant-loop-index l = l.numbers.items ++ drop l.index-index l.indexes ≡ l.indexes
