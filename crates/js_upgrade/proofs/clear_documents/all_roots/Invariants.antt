use Rattle.std.proofs.Common.{◌≡◌, ◌++◌, map, drop}
use Rattle.js_upgrade.specs.Seen.{resource_seen, source_of}
use Rattle.js_upgrade.specs.code.Clear.{all_roots}
use Rattle.js_upgrade.proofs.clear_documents.all_roots.Given as goal

-- what was found and what the rest has make the whole
abbrev pub invariant-loop-source : goal.invariant-loop-source
invariant-loop-source l =
    map resource_seen l.found.items ++ all_roots (map source_of (drop l.source-index l.sources))
    ≡ all_roots (map source_of l.sources)
