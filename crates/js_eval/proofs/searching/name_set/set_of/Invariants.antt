use Rattle.std.proofs.Common.{take}
use Rattle.js_eval.specs.code.Cursors.{HasNames}
use Rattle.js_eval.specs.Seen.{texts_of}
use Rattle.js_eval.proofs.searching.name_set.set_of.Given as goal

abbrev pub invariant-loop-name : goal.invariant-loop-name
invariant-loop-name l = HasNames l.set.keys (texts_of (take l.name-index l.names))
