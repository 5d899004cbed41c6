use Rattle.std.proofs.Common.{◌≡◌, [], ◌++◌, string_bytes, sym, ap, ◌∙◌, append_assoc, append-nil}
use Rattle.percent_encoding.specs.Iter.{encoded_text}
use Rattle.js_doc.specs.Pointer.{escape}
use Rattle.js_doc.proofs.Extending.{then}
use Rattle.js_doc.proofs.PointerTexts.{escape-append}
use Rattle.js_doc.proofs.TokenBytes.{escaped_token}
use Rattle.js_doc.proofs.token.push_encoded.Goals as goal

pub loop-piece-preserved : goal.loop-piece-preserved
loop-piece-preserved c =
    let l = c.loop-piece in
    let piece = c.in-Some.piece.now in
    let left = encoded_text c.next.new.self in
    let first : encoded_text l.piece-iterator ≡ piece ++ left = c.in-Some.ensures.steps in (
      ap (λ s. s ++ escape left) c.in_ok-push_escaped.ensures.ok
          ∙ append_assoc (string_bytes l.out) (escape piece) (escape left)
          ∙ ap (λ s. string_bytes l.out ++ s) (sym (ap escape first ∙ escape-append piece left)) ∙ l.invariant.0,
      then (string_bytes c.args.out.now) (string_bytes l.out) (string_bytes c.push_escaped.new.out) l.invariant.1
          c.in_ok-push_escaped.ensures.grows,
    )

pub returns-clause-ok : goal.returns-clause-ok
returns-clause-ok c =
    let l = c.loop-piece in
    let none : encoded_text l.piece-iterator ≡ [] = c.in-None.ensures.steps in
    sym (append-nil (string_bytes l.out)) ∙ ap (λ x. string_bytes l.out ++ escape x) (sym none) ∙ l.invariant.0
    ∙ ap (λ s. string_bytes c.args.out.now ++ s) (escaped_token c.args.token.now)
