-- A pointer's tokens, written one by one.
use Rattle.std.proofs.Common.{◌≡◌, ℕ, ◌+◌, ◌<◌, List, [], ◌∷◌, ◌++◌, drop, get_or}
use Rattle.std.proofs.Common.{length, refl, sym, ap, ◌∙◌, append_assoc}
use Rattle.std.proofs.lemmas.List.{drop_more}
use Rattle.std.proofs.lemmas.List.Concat.{flat_map-append}
use Rattle.js_doc.specs.Fragment.{fragment_byte, fragment_text}
use Rattle.js_doc.specs.Notation.{token_written}
use Rattle.js_doc.specs.Pointer.{Tokens, pointer_text, token_text}
use Rattle.js_doc.specs.declared.token.Notation.{Notation}
use Rattle.js_doc.specs.declared.token.Notation.TheVariants.{Plain, Fragment}
use Rattle.js_bundle.specs.code.TextPrefix.{text_of_tokens}

written_first : (notation : Notation) (t : List ℕ) (p : Tokens)
    → text_of_tokens notation (t ∷ p) ≡ token_written notation t ++ text_of_tokens notation p
written_first Plain t p = refl
written_first Fragment t p = flat_map-append fragment_byte (token_text t) (pointer_text p)

pub written_append : (notation : Notation) (p q : Tokens)
    → text_of_tokens notation (p ++ q) ≡ text_of_tokens notation p ++ text_of_tokens notation q
written_append Plain [] q = refl
written_append Fragment [] q = refl
written_append notation (t ∷ p) q =
    written_first notation t (p ++ q) ∙ ap (λ x. token_written notation t ++ x) (written_append notation p q)
    ∙ sym (append_assoc (token_written notation t) (text_of_tokens notation p) (text_of_tokens notation q))
    ∙ ap (λ x. x ++ text_of_tokens notation q) (sym (written_first notation t p))

-- a token more is written
pub written_next : (notation : Notation) (tokens : Tokens) (i : ℕ) (token k : List ℕ) (before after whole : List ℕ)
    → i < length tokens → token ≡ get_or tokens i token → k ≡ token
    → after ≡ before ++ token_written notation k → before ++ text_of_tokens notation (drop i tokens) ≡ whole
    → after ++ text_of_tokens notation (drop (i + 1) tokens) ≡ whole
written_next notation tokens i token k before after whole low is same pushed h =
    ap (λ x. x ++ text_of_tokens notation (drop (i + 1) tokens))
    (pushed ∙ ap (λ x. before ++ token_written notation x) same)
    ∙ append_assoc before (token_written notation token) (text_of_tokens notation (drop (i + 1) tokens))
    ∙ ap (λ x. before ++ x) (sym (written_first notation token (drop (i + 1) tokens)))
    ∙ ap (λ x. before ++ text_of_tokens notation x)
    (ap (λ t. t ∷ drop (i + 1) tokens) is ∙ sym (drop_more tokens i token low)) ∙ h

-- the parts of an absolute location
pub parts_of : (base mark way keyword : List ℕ) (w k : Tokens) → way ≡ (base ++ mark) ++ fragment_text w
    → keyword ≡ way ++ fragment_text k → keyword ≡ base ++ (mark ++ fragment_text (w ++ k))
parts_of base mark way keyword w k first then =
    then ∙ ap (λ x. x ++ fragment_text k) first ∙ append_assoc (base ++ mark) (fragment_text w) (fragment_text k)
    ∙ append_assoc base mark (fragment_text w ++ fragment_text k)
    ∙ ap (λ x. base ++ (mark ++ x)) (sym (written_append Fragment w k))
