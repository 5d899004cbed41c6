use Rattle.std.proofs.Common.{◌≡◌, ◌++◌, map, drop}
use Rattle.js_doc.specs.Seen.{value_of}
use Rattle.js_upgrade.specs.Documents.{upgraded_among}
use Rattle.js_upgrade.specs.Seen.{source_of}
use Rattle.js_upgrade.specs.code.Table.{all_of}
use Rattle.js_upgrade.proofs.documents.each_upgraded.Given as goal

-- what there is and what the rest becomes make the whole
abbrev pub invariant-loop-source : goal.invariant-loop-source
invariant-loop-source l =
    map value_of l.upgraded.items
    ++ map (upgraded_among (all_of l.resources)) (map source_of (drop l.source-index l.sources))
    ≡ map (upgraded_among (all_of l.resources)) (map source_of l.sources)
