use Rattle.std.proofs.Common.{◌≡◌, ◌≤◌, take}
use Rattle.js_doc.specs.Positions.{trimmed_length}
use Rattle.js_doc.proofs.positions.ends.trimmed_length.Given as goal

-- what is passed doesn't count
abbrev pub invariant-loop-end : goal.invariant-loop-end
invariant-loop-end l = (l.end ≤ l.count) × (trimmed_length (take l.count l.text) ≡ trimmed_length (take l.end l.text))

abbrev pub decreases-loop-end : goal.decreases-loop-end
decreases-loop-end l = l.end
