use Rattle.std.proofs.Common.{◌≡◌, [], ◌++◌, List, map, drop}
use Rattle.js_doc.specs.Value.{Text}
use Rattle.js_doc.specs.Seen.{value_of}
use Rattle.js_upgrade.specs.Schema.{once}
use Rattle.js_upgrade.specs.code.HasSeen.{HasSeen}
use Rattle.js_upgrade.proofs.once.each_once.Given as goal

-- what is found and what is left once the texts before are seen make the whole
abbrev pub invariant-loop-doc : goal.invariant-loop-doc
invariant-loop-doc l =
    let left = map value_of (drop l.doc-index l.docs) in
    (names : List Text) × HasSeen l.seen.keys names
    × (map value_of l.found.items ++ once names left ≡ once [] (map value_of l.docs))
