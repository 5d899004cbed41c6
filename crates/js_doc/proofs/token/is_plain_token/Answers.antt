use Rattle.std.proofs.Common.{◌∷◌, ◌∙◌, ap, sym}
use Rattle.std.specs.List.{list_all}
use Rattle.js_doc.specs.Plain.{is_plain}
use Rattle.js_doc.proofs.PlainTokens.{all_kept, all_plain, all_stand, kept_too}
use Rattle.js_doc.proofs.token.is_plain_token.Goals as goal

pub returns-clause-pointer : goal.returns-clause-pointer
returns-clause-pointer c = λ t.
    let token = c.args.token.now in
    all_kept token (kept_too token (sym (c.is_plain.ensures ∙ ap (list_all is_plain) c.as_bytes.ensures.value) ∙ t))

pub returns-clause-fragment : goal.returns-clause-fragment
returns-clause-fragment c = λ t.
    let token = c.args.token.now in
    ap (λ bs. 47 ∷ bs) (all_plain token
    (sym (c.is_plain.ensures ∙ ap (list_all is_plain) c.as_bytes.ensures.value) ∙ t))

pub returns-clause-string : goal.returns-clause-string
returns-clause-string c = λ t.
    let token = c.args.token.now in
    all_stand token (sym (c.is_plain.ensures ∙ ap (list_all is_plain) c.as_bytes.ensures.value) ∙ t)
