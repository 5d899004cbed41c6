use Rattle.std.proofs.Common.{◌≡◌, ◌++◌, ◌+◌, ◌-◌, ◌^◌, ◌≤◌, ◌<◌, min, ℕ, List, false, length}
use Rattle.std.specs.Io.KnownBytes.{Appends}
use Rattle.js_output.proofs.sink.Writing.write_all.Given as goal

-- what has gone out is a prefix of the bytes, and the rest is still to go
abbrev pub invariant-loop-rest : goal.invariant-loop-rest
invariant-loop-rest g l =
    (l.self.failed ≡ false)
    × (l.self.calls + length l.rest ≤ l.initial.self.calls + length l.bytes)
    × (l.initial.self.calls ≤ l.self.calls)
    × (length l.rest < length l.bytes → min (l.initial.self.calls + 1) (2 ^ 64 - 1) ≤ l.self.calls)
    × ((sent : List ℕ) × (l.bytes ≡ sent ++ l.rest)
    × Appends (g.W.Write.contents l.initial.self.device) (g.W.Write.contents l.self.device) sent)

abbrev pub decreases-loop-rest : goal.decreases-loop-rest
decreases-loop-rest g l = length l.rest
