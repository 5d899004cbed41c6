use Rattle.std.proofs.Common.{◌≡◌, length, take}
use Rattle.js_eval.specs.code.Cursors.{AreMarked}
use Rattle.js_eval.proofs.keywords.unevaluated.marks_at.Given as goal

abbrev pub invariant-loop-index : goal.invariant-loop-index
invariant-loop-index l = record {
  many : length l.marks.items ≡ l.count;
  marked : AreMarked l.marks.items l.count (take l.index-index l.indexes);
}
