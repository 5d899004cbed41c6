use Rattle.std.proofs.Common.{◌-◌, length}
use Rattle.js_upgrade_cli.proofs.Putting.{IsPutSoFar}
use Rattle.js_upgrade_cli.proofs.outputs.write_into.Given as goal

abbrev pub invariant-loop-number : goal.invariant-loop-number
invariant-loop-number g l =
    IsPutSoFar l.path l.files l.documents l.number (g.P.Folder.written l.initial.folder)
    (g.P.Folder.written l.folder)

abbrev pub decreases-loop-number : goal.decreases-loop-number
decreases-loop-number g l = length l.files - l.number
