use Rattle.std.proofs.Common.{map}
use Rattle.js_doc.specs.Seen.{pair_of}
use Rattle.js_eval.specs.code.Patterns.{ArePatternsAt}
use Rattle.js_eval.proofs.searching.pattern_answers.keep_all.Given as goal

abbrev pub invariant-loop-text : goal.invariant-loop-text
invariant-loop-text l = ArePatternsAt l.schemas l.place (map pair_of l.text-iterator)
