use Rattle.std.proofs.Common.{◌≡◌, true, ◌++◌, string_bytes, sym, ap, ◌∙◌}
use Rattle.std.specs.List.{list_all}
use Rattle.js_doc.specs.Plain.{is_plain}
use Rattle.js_doc.proofs.PlainTokens.{all_plain}
use Rattle.js_doc.proofs.token.push_pieces.Goals as goal

pub returns-then-is_plain-clause-ok : goal.returns-then-is_plain-clause-ok
returns-then-is_plain-clause-ok c =
    let all : list_all is_plain c.args.token.now ≡ true = ap (list_all is_plain) (sym c.as_bytes.ensures.value)
    ∙ sym c.is_plain.ensures ∙ c.if-is_plain.true in
    c.in_ok-push_str.ensures.bytes ∙ ap (λ s. string_bytes c.args.out.now ++ s) (sym (all_plain c.args.token.now all))
