-- The state of a collector of the root's verdict.
use Rattle.std.specs.Prelude.{ℕ, ◌+◌, ◌-◌, ◌^◌, Bool, eqb, if◌then◌else◌, Option, Some, None}
use Rattle.js_tree.specs.Events.{Event, opening, closing}
use Rattle.js_tree.specs.declared.collecting.verdict.Verdict.{Verdict}

-- the number of open nodes, and the root's verdict once it has closed
pub record VerdictState : Type 0 where
  pub depth : ℕ
  pub valid : Option Bool

abbrev pub verdict_start : VerdictState
verdict_start = record { depth = 0; valid = None }

-- a node isn't counted if 2^64 - 1 are open already, or if the root has closed
abbrev pub verdict_opened : ℕ → Option Bool → VerdictState
verdict_opened depth None = record { depth = if eqb depth (2 ^ 64 - 1) then depth else depth + 1; valid = None }
verdict_opened depth (Some valid) = record { depth = depth; valid = Some valid }

-- without an open node nothing closes
abbrev pub verdict_closed : ℕ → Option Bool → Bool → VerdictState
verdict_closed depth found valid =
    if eqb depth 0 then record { depth = depth; valid = found } else record
    { depth = depth - 1; valid = if eqb depth 1 then Some valid else found }

abbrev pub verdict_after : VerdictState → Event → VerdictState
verdict_after s (opening keyword absolute instance) = verdict_opened s.depth s.valid
verdict_after s (closing valid note) = verdict_closed s.depth s.valid valid

abbrev pub verdict_state : Verdict → VerdictState
verdict_state v = record { depth = v.depth; valid = v.valid }
