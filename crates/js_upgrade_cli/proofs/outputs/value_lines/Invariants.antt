use Rattle.std.proofs.Common.{◌≡◌, ◌++◌, drop, map}
use Rattle.js_doc.specs.Seen.{value_of}
use Rattle.js_upgrade_cli.specs.Outputs.{value_lines}
use Rattle.js_upgrade_cli.proofs.outputs.value_lines.Given as goal

-- those that were added and those left make the whole
abbrev pub invariant-loop-document : goal.invariant-loop-document
invariant-loop-document l =
    l.lines.items ++ value_lines (map value_of (drop l.document-index l.documents))
    ≡ value_lines (map value_of l.documents)
