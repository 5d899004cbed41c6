use Rattle.std.proofs.Common.{◌≡◌, map, take}
use Rattle.js_doc.specs.Seen.{value_of}
use Rattle.js_doc.specs.Value.{text}
use Rattle.js_tree.proofs.formats.documents.texts.Given as goal

abbrev pub invariant-loop-name : goal.invariant-loop-name
invariant-loop-name l = map value_of l.docs.items ≡ map text (map (λ name. name.now) (take l.name-index l.names))
