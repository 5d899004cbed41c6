use Rattle.std.proofs.Common.{[], ◌∷◌, ◌++◌, sym, ap, ◌∙◌}
use Rattle.js_bundle.proofs.Finding.CheckedPlaces.{one_more}
use Rattle.js_bundle.proofs.schemas.Schemas.places.Goals as goal

pub loop-number-preserved : goal.loop-number-preserved
loop-number-preserved c = c.in_ok-push.ensures.items ∙ ap (λ l. l ++ c.loop-number.number ∷ []) c.loop-number.invariant
    ∙ sym (one_more c.loop-number.number)
