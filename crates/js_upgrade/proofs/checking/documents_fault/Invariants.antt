use Rattle.std.proofs.Common.{◌≡◌, map, drop}
use Rattle.js_upgrade.specs.Fault.{documents_fault}
use Rattle.js_upgrade.specs.Seen.{source_of}
use Rattle.js_upgrade.specs.code.Table.{all_of}
use Rattle.js_upgrade.proofs.checking.documents_fault.Given as goal

-- those left decide
abbrev pub invariant-loop-i : goal.invariant-loop-i
invariant-loop-i l =
    let all = all_of l.resources in
    documents_fault l.pass all l.i (map source_of (drop l.i l.sources))
    ≡ documents_fault l.pass all 0 (map source_of l.sources)
