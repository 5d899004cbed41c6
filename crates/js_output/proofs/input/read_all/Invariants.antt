use Rattle.std.proofs.Common.{◌≡◌, ◌≤◌, ◌+◌, ◌-◌, true, false, length}
use Rattle.std.specs.Io.KnownBytes.{Consumes}
use Rattle.js_output.specs.Device.{input_limit}
use Rattle.js_output.proofs.input.read_all.Given as goal

-- what was read so far, at least a byte each time
abbrev pub invariant-turns : goal.invariant-turns
invariant-turns g l =
    (length l.bytes.items ≤ input_limit)
    × Consumes (g.R.Read.remaining l.initial.source.device) (g.R.Read.remaining l.source.device) l.bytes.items
    × (l.source.calls ≤ l.initial.source.calls + length l.bytes.items)
    × (l.initial.source.calls ≤ l.source.calls)
    × (l.initial.source.failed ≡ true → l.source ≡ l.initial.source)
    × (l.initial.source.failed ≡ false → l.source.failed ≡ false)

abbrev pub decreases-turns : goal.decreases-turns
decreases-turns g l = input_limit + 1 - length l.bytes.items
