use Rattle.std.proofs.Common.{map, drop}
use Rattle.js_upgrade.specs.Seen.{source_of}
use Rattle.js_upgrade.specs.code.Clear.{AreClear}
use Rattle.js_upgrade.specs.code.Table.{all_of}
use Rattle.js_upgrade.proofs.clear_documents.are_clear.Given as goal

-- those left decide
abbrev pub invariant-loop-i : goal.invariant-loop-i
invariant-loop-i l =
    let roots = all_of l.roots in
    let all = all_of l.resources in
    AreClear roots all l.i (map source_of (drop l.i l.sources)) → AreClear roots all 0 (map source_of l.sources)
