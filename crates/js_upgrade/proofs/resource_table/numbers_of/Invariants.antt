use Rattle.std.proofs.Common.{map, drop}
use Rattle.js_upgrade.specs.Seen.{resource_seen}
use Rattle.js_upgrade.specs.code.First.{FindsFirstResource}
use Rattle.js_upgrade.proofs.resource_table.numbers_of.Given as goal

-- those that are done
abbrev pub invariant-loop-i : goal.invariant-loop-i
invariant-loop-i l = FindsFirstResource l.i l.numbers (map resource_seen (drop l.i l.resources))
