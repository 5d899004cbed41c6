use Rattle.std.proofs.Common.{◌≡◌, drop}
use Rattle.js_upgrade_cli.specs.Names.{are_apart}
use Rattle.js_command.specs.Words.{pairs_seen}
use Rattle.js_upgrade_cli.proofs.names.are_apart.Given as goal

-- those left decide
abbrev pub invariant-loop-number : goal.invariant-loop-number
invariant-loop-number l = are_apart (pairs_seen (drop l.number l.documents)) ≡ are_apart (pairs_seen l.documents)
