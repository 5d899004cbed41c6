use Rattle.std.proofs.Common.{ℕ, ◌+◌, ◌<◌}
use Rattle.std.specs.Int.{IsGcd}
use Rattle.js_numbers.proofs.numerator.gcd.Given as goal

abbrev pub invariant-loop-next : goal.invariant-loop-next
invariant-loop-next l = record {
  some : 0 < l.last + l.next;
  keeps : (g : ℕ) → IsGcd l.last l.next g → IsGcd l.fn.a l.fn.b g;
}

abbrev pub decreases-loop-next : goal.decreases-loop-next
decreases-loop-next l = l.next
