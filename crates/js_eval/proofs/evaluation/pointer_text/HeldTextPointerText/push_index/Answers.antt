use Rattle.std.proofs.Common.{◌≡◌, ◌∷◌, ◌++◌, OnOk, string_bytes, sym, ◌∙◌, subst, arith}
use Rattle.js_eval.proofs.PlainNames.{decimal_kept}
use Rattle.js_eval.proofs.evaluation.pointer_text.HeldTextPointerText.push_index.Goals as goal

pub returns : goal.returns
returns c =
    let small = c.ranges.index.fits in
    let written = c.format.ensures.text ∙ sym (decimal_kept c.args.index (omega (arith, small))) in
    subst (λ token. OnOk c.push_kept.result (string_bytes c.push_kept.new.out
    ≡ string_bytes c.args.self.now.text ++ 47 ∷ token)) written c.push_kept.ensures
