use Rattle.std.proofs.Common.{◌≡◌, ◌++◌, map, drop}
use Rattle.js_upgrade.specs.Documents.{all_resources}
use Rattle.js_upgrade.specs.Seen.{resource_seen, source_of}
use Rattle.js_upgrade.proofs.documents.all_resources.Given as goal

-- what was found and what the rest has make the whole
abbrev pub invariant-loop-i : goal.invariant-loop-i
invariant-loop-i l =
    map resource_seen l.found.items ++ all_resources (drop l.i l.copies) (map source_of (drop l.i l.sources))
    ≡ all_resources l.copies (map source_of l.sources)
