use Rattle.std.proofs.Common.{◌≡◌, ◌++◌, map, drop}
use Rattle.js_upgrade.specs.Copies.{sources_with}
use Rattle.js_upgrade.specs.Seen.{source_of}
use Rattle.js_upgrade.proofs.copies.sources_with.Given as goal

-- what there is and what the rest becomes make the whole
abbrev pub invariant-loop-i : goal.invariant-loop-i
invariant-loop-i l =
    map source_of l.out.items ++ sources_with (drop l.i l.copies) (map source_of (drop l.i l.sources))
    ≡ sources_with l.copies (map source_of l.sources)
