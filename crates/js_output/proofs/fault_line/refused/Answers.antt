use Rattle.std.proofs.Common.{◌≡◌, false, refl}
use Rattle.js_output.specs.Line.{wants_memory}
use Rattle.js_bundle.specs.declared.refusal.RefusalKind.{RefusalKind}
use Rattle.js_bundle.specs.declared.refusal.RefusalKind.TheVariants as kind
use Rattle.js_output.proofs.fault_line.refused.Goals as goal

other_kind : (k : RefusalKind) → (k ≡ kind.Memory → ⊥) → wants_memory k ≡ false
other_kind kind.Memory h = absurd (h refl)
other_kind _ h = refl

pub returns : goal.returns
returns c =
    let e : wants_memory c.args.refusal.now.kind ≡ false = other_kind _ c.in_default.not-Memory in
    rw e c.refused_at.ensures
