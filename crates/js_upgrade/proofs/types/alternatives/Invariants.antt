use Rattle.std.proofs.Common.{◌≡◌, ◌++◌, map, drop}
use Rattle.js_doc.specs.Seen.{value_of}
use Rattle.js_upgrade.specs.Schema.{alternative}
use Rattle.js_upgrade.proofs.types.alternatives.Given as goal

-- what there is and what the rest becomes make the whole
abbrev pub invariant-loop-doc : goal.invariant-loop-doc
invariant-loop-doc l =
    map value_of l.schemas.items ++ map alternative (map value_of (drop l.doc-index l.docs))
    ≡ map alternative (map value_of l.docs)
