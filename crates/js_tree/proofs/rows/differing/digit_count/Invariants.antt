use Rattle.std.proofs.Common.{◌≡◌, ◌+◌, ◌-◌, ◌≤◌, length, drop}
use Rattle.std.specs.List.{prefix_len}
use Rattle.js_tree.specs.code.PartOrder.{is_digit}
use Rattle.js_tree.proofs.rows.differing.digit_count.Given as goal

abbrev pub invariant-loop-end : goal.invariant-loop-end
invariant-loop-end l =
    (1 + prefix_len is_digit (drop 1 l.part) ≡ l.end + prefix_len is_digit (drop l.end l.part)) × (1 ≤ l.end)

abbrev pub decreases-loop-end : goal.decreases-loop-end
decreases-loop-end l = length l.part - l.end
