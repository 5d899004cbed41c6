use Rattle.std.proofs.Common.{◌≡◌, [], ◌∷◌, ◌++◌, Some, true, false, ap, sym, ◌∙◌}
use Rattle.js_tree.proofs.FlagText.{valid_text, invalid_text}
use Rattle.jschema_c.specs.LastCall.{verdict_or}
use Rattle.jschema_c.proofs.last_call.LastCall.text.Goals as goal

pub returns-in-Some-true : goal.returns-in-Some-true
returns-in-Some-true c =
    let e : c.args.self.now.verdict ≡ Some true = cc in
    ap (λ t. t ++ 10 ∷ []) valid_text ∙ sym (ap (verdict_or c.args.self.now.text.items) e)

pub returns-in-Some-false : goal.returns-in-Some-false
returns-in-Some-false c =
    let e : c.args.self.now.verdict ≡ Some false = cc in
    ap (λ t. t ++ 10 ∷ []) invalid_text ∙ sym (ap (verdict_or c.args.self.now.text.items) e)
