use Rattle.std.proofs.Common.{◌≡◌, true, ◌++◌, string_bytes, sym, ap, ◌∙◌}
use Rattle.std.specs.List.{list_all}
use Rattle.js_doc.specs.Plain.{is_kept}
use Rattle.js_doc.proofs.PlainTokens.{all_kept}
use Rattle.js_doc.proofs.token.push_escaped.Goals as goal

pub returns-then-has_no_escape-clause-ok : goal.returns-then-has_no_escape-clause-ok
returns-then-has_no_escape-clause-ok c =
    let all : list_all is_kept c.args.token.now ≡ true = ap (list_all is_kept) (sym c.as_bytes.ensures.value)
    ∙ sym c.has_no_escape.ensures ∙ c.if-has_no_escape.true in
    c.in_ok-push_str.ensures.bytes ∙ ap (λ s. string_bytes c.args.out.now ++ s) (sym (all_kept c.args.token.now all))
