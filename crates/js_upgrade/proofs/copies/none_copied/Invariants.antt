use Rattle.std.proofs.Common.{◌≡◌, ◌++◌, map, drop}
use Rattle.js_upgrade.specs.Copies.{no_copies}
use Rattle.js_upgrade.specs.Seen.{source_of}
use Rattle.js_upgrade.proofs.copies.none_copied.Given as goal

-- what there is and what the rest has make the whole
abbrev pub invariant-loop-source : goal.invariant-loop-source
invariant-loop-source l =
    l.copies.items ++ map no_copies (map source_of (drop l._source-index l.sources))
    ≡ map no_copies (map source_of l.sources)
