use Rattle.std.proofs.Common.{◌≡◌, length}
use Rattle.js_eval.specs.code.Asked.{ArePatterns}
use Rattle.js_eval.specs.code.Cursors.{coming_asked, patterns_asked}
use Rattle.js_eval.proofs.cursors.pattern_cursor.next_match.Given as goal

abbrev pub invariant-loop-name : goal.invariant-loop-name
invariant-loop-name l = record {
  asks : patterns_asked l.search.schemas.now l.fn.cursor ≡ coming_asked l.search.schemas.now l.cursor l.cursor.patterns;
  are : ArePatterns l.search.schemas.now l.cursor;
}

abbrev pub decreases-loop-name : goal.decreases-loop-name
decreases-loop-name l = length l.cursor.patterns
