use Rattle.std.proofs.Common.{◌≡◌, map, take, pos}
use Rattle.js_doc.specs.Seen.{value_of}
use Rattle.js_doc.specs.Value.{whole}
use Rattle.js_tree.proofs.formats.documents.wholes.Given as goal

abbrev pub invariant-loop-number : goal.invariant-loop-number
invariant-loop-number l = map value_of l.docs.items ≡ map (λ number. whole (pos number)) (take l.number-index l.numbers)
