use Rattle.std.proofs.Common.{◌≡◌}
use Rattle.js_upgrade_cli.specs.code.Seen.{texts_seen}
use Rattle.js_command.proofs.Holding.{HoldsSoFar}
use Rattle.js_upgrade_cli.proofs.Taking.{RestUntaken}
use Rattle.js_upgrade_cli.proofs.documents.take_all.Given as goal

abbrev pub invariant-loop-number : goal.invariant-loop-number
invariant-loop-number g l =
    HoldsSoFar (g.F.Files.contents l.initial.files) l.documents l.number (texts_seen l.all.items)
    × RestUntaken (g.F.Files.contents l.initial.files) l.documents l.number
    × (g.F.Files.contents l.files ≡ g.F.Files.contents l.initial.files)
