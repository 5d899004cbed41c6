-- A token escaped as a pointer's and as a fragment's: the order doesn't matter.
use Rattle.std.proofs.Common.{◌≡◌, ℕ, ◌==◌, Bool, true, false, List, [], ◌∷◌, ◌++◌, All, flat_map, ⊎_elim}
use Rattle.std.proofs.Common.{refl, sym, ap, ◌∙◌, append_assoc, append-nil, arith}
use Rattle.std.proofs.lemmas.Bool.Decides.{nat_tests}
use Rattle.std.proofs.lemmas.Bool.{eqb-true}
use Rattle.std.proofs.lemmas.List.Concat.{flat_map-append}
use Rattle.std.proofs.lemmas.List.Elements.{All-head, All-tail}
use Rattle.percent_encoding.specs.Percent.{percent_encode, percent_encode_byte}
use Rattle.percent_encoding.proofs.PercentLemmas.{IsEscapeByte, All-percent_encode_byte}
use Rattle.js_doc.specs.declared.fragment.TheConstants.{ESCAPED}
use Rattle.js_doc.specs.Pointer.{Tokens, escape, token_text, pointer_text}
use Rattle.js_doc.specs.Fragment.{is_fragment_char, fragment_byte, fragment_text, fragment_token}
use Rattle.js_doc.proofs.Escapes.{escape_kept}
use Rattle.js_doc.proofs.PointerTexts.{escape-append}
use Rattle.js_doc.proofs.FragmentBytes.{fragment_is}

escape_plain : (bs : List ℕ) → All IsEscapeByte bs → escape bs ≡ bs
escape_plain [] h = refl
escape_plain (b ∷ bs) h =
    let here : IsEscapeByte b = All-head IsEscapeByte b bs h in
    let tilde : b == 126 ≡ false = ⊎_elim (λ e. grind (arith, nat_tests))
    (λ k. ⊎_elim (λ r. grind (arith, nat_tests)) (λ r. grind (arith, nat_tests)) k) here in
    let slash : b == 47 ≡ false = ⊎_elim (λ e. grind (arith, nat_tests))
    (λ k. ⊎_elim (λ r. grind (arith, nat_tests)) (λ r. grind (arith, nat_tests)) k) here in
    escape_kept b bs tilde slash ∙ ap (λ x. b ∷ x) (escape_plain bs (All-tail IsEscapeByte b bs h))

-- a byte by what it is
escape_byte_as : (b : ℕ) (t s f : Bool) → b == 126 ≡ t → b == 47 ≡ s → is_fragment_char b ≡ f
    → escape (fragment_byte b) ≡ flat_map fragment_byte (escape (b ∷ []))
escape_byte_as b true s f e g h = rw (eqb-true b 126 e) refl
escape_byte_as b false true f e g h = rw (eqb-true b 47 g) refl
escape_byte_as b false false true e g h = rw (h, e, g, h) refl
escape_byte_as b false false false e g h = rw (h, e, g, h)
    (escape_plain (percent_encode_byte b) (All-percent_encode_byte b) ∙ sym (append-nil (percent_encode_byte b)))

escape_fragment : (bs : List ℕ) → escape (flat_map fragment_byte bs) ≡ flat_map fragment_byte (escape bs)
escape_fragment [] = refl
escape_fragment (b ∷ bs) =
    escape-append (fragment_byte b) (flat_map fragment_byte bs)
    ∙ ap (λ x. x ++ escape (flat_map fragment_byte bs)) (escape_byte_as b _ _ _ refl refl refl)
    ∙ ap (λ x. flat_map fragment_byte (escape (b ∷ [])) ++ x) (escape_fragment bs)
    ∙ sym (flat_map-append fragment_byte (escape (b ∷ [])) (escape bs))
    ∙ ap (flat_map fragment_byte) (sym (escape-append (b ∷ []) bs))

pub escaped_token : (token : List ℕ) → escape (percent_encode ESCAPED token) ≡ flat_map fragment_byte (escape token)
escaped_token token = ap escape (fragment_is token) ∙ escape_fragment token

-- ---- one token more

pub pointer_text-push : (p : Tokens) (token : List ℕ)
    → pointer_text (p ++ token ∷ []) ≡ pointer_text p ++ token_text token
pointer_text-push [] token = append-nil (token_text token)
pointer_text-push (t ∷ p) token = ap (λ x. token_text t ++ x) (pointer_text-push p token)
    ∙ sym (append_assoc (token_text t) (pointer_text p) (token_text token))

pub fragment_text-push : (p : Tokens) (token : List ℕ)
    → fragment_text (p ++ token ∷ []) ≡ fragment_text p ++ fragment_token token
fragment_text-push p token = ap (flat_map fragment_byte) (pointer_text-push p token)
    ∙ flat_map-append fragment_byte (pointer_text p) (token_text token)
