use Rattle.std.proofs.Common.{◌-◌, ◌∷◌, [], ◌++◌, arith, ap, ◌∙◌}
use Rattle.js_upgrade.proofs.FirstFault.{back_next}
use Rattle.js_upgrade.proofs.checking.in_document.Goals as goal

pub loop-i-preserved : goal.loop-i-preserved
loop-i-preserved c =
    let l = c.loop-i in
    back_next c.tokens-tokens.result.now l.place c.push.new.self c.index-tokens-i.result (l.i - 1) l.i _ (omega arith)
    (omega arith) c.index-tokens-i.is
    (c.in_ok-push.ensures.ok ∙ ap (λ t. l.place ++ t ∷ []) c.as_str.ensures) l.invariant
