use Rattle.std.proofs.Common.{◌≡◌, map, drop}
use Rattle.js_upgrade.specs.Copies.{sources_copied}
use Rattle.js_upgrade.specs.Seen.{source_of}
use Rattle.js_upgrade.specs.code.Table.{all_of}
use Rattle.js_upgrade.proofs.copies.copy_for_sources.Given as goal

-- those left decide
abbrev pub invariant-loop-source : goal.invariant-loop-source
invariant-loop-source l =
    let roots = all_of l.roots in
    sources_copied roots (map source_of (drop l.source-index l.sources)) l.copies.items
    ≡ sources_copied roots (map source_of l.sources) l.initial.copies.items
