use Rattle.std.proofs.Common.{◌≡◌, ◌++◌, drop}
use Rattle.js_eval.specs.Seen.{texts_of}
use Rattle.js_eval.proofs.keywords.objects.copies.Given as goal

abbrev pub invariant-loop-name : goal.invariant-loop-name
invariant-loop-name l = texts_of l.all.items ++ texts_of (drop l.name-index l.names) ≡ texts_of l.names
