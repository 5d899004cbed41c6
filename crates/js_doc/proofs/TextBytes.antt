-- A text is of bytes, and a fragment is decoded to the text that it was made of.
use Rattle.std.proofs.Common.{◌≡◌, ℕ, ◌+◌, ◌/◌, ◌<◌, Bool, true, false, ltb, List, [], ◌∷◌}
use Rattle.std.proofs.Common.{⊎_elim, All, refl, sym, ap, ◌∙◌, subst, arith}
use Rattle.std.proofs.lemmas.Bool.{and_parts}
use Rattle.std.proofs.lemmas.Bool.Decides.{nat_tests}
use Rattle.std.proofs.lemmas.List.Elements.{All-nil, All-cons, All-append}
use Rattle.std.specs.Str.{IsUtf8}
use lib.Utf8.{encode, encodes, next, scalar, scalars, scalar_cases}
use Rattle.percent_encoding.specs.Percent.{percent_decode}
use Rattle.percent_encoding.proofs.PercentLemmas.{IsByte, round_trip}
use Rattle.js_doc.specs.declared.fragment.TheConstants.{ESCAPED}
use Rattle.js_doc.specs.Pointer.{pointer_text}
use Rattle.js_doc.specs.Fragment.{fragment_text}
use Rattle.js_doc.proofs.Escapes.{encoded}
use Rattle.js_doc.proofs.FragmentBytes.{fragment_is, has_percent}

in_range : (c : ℕ) → scalar c ≡ true → c < 1114112
in_range c e = ⊎_elim (λ h. omega arith) (λ h. h.1) (scalar_cases c e)

bytes_of : (t u v : Bool) (c : ℕ) → ltb c 128 ≡ t → ltb c 2048 ≡ u → ltb c 65536 ≡ v → c < 1114112
    → All IsByte (encoded t u v c)
bytes_of true u v c e f g h = All-cons IsByte c [] (grind (arith, nat_tests)) (All-nil IsByte)
bytes_of false true v c e f g h = All-cons IsByte (192 + c / 64) (next c ∷ []) (let s : c
    < 2048 = grind (arith, nat_tests) in omega arith) (All-cons IsByte (next c) [] (omega arith) (All-nil IsByte))
bytes_of false false true c e f g h = All-cons IsByte (224 + c / 4096) (next (c / 64) ∷ next c ∷ [])
    (let s : c < 65536 = grind (arith, nat_tests) in omega arith)
    (All-cons IsByte (next (c / 64)) (next c ∷ []) (omega arith)
    (All-cons IsByte (next c) [] (omega arith) (All-nil IsByte)))
bytes_of false false false c e f g h =
    All-cons IsByte (240 + c / 262144) (next (c / 4096) ∷ next (c / 64) ∷ next c ∷ []) (omega arith)
    (All-cons IsByte (next (c / 4096)) (next (c / 64) ∷ next c ∷ []) (omega arith) (All-cons IsByte (next (c / 64))
    (next c ∷ []) (omega arith) (All-cons IsByte (next c) [] (omega arith) (All-nil IsByte))))

bytes_encode : (c : ℕ) → scalar c ≡ true → All IsByte (encode c)
unfolding encode
bytes_encode c e = bytes_of (ltb c 128) (ltb c 2048) (ltb c 65536) c refl refl refl (in_range c e)

bytes_encodes : (cs : List ℕ) → scalars cs ≡ true → All IsByte (encodes cs)
bytes_encodes [] e = All-nil IsByte
bytes_encodes (c ∷ cs) e =
    let p = and_parts (scalar c) (scalars cs) e in
    All-append IsByte (encode c) (encodes cs) (bytes_encode c p.0) (bytes_encodes cs p.1)

pub bytes_utf8 : (bs : List ℕ) → IsUtf8 bs → All IsByte bs
bytes_utf8 bs u = subst (All IsByte) u.1.1 (bytes_encodes u.0 u.1.0)

pub fragment_back : (p : List (List ℕ)) (fragment : List ℕ) → IsUtf8 (pointer_text p) → fragment_text p ≡ fragment
    → percent_decode fragment ≡ pointer_text p
fragment_back p fragment u is =
    ap percent_decode (sym is) ∙ ap percent_decode (sym (fragment_is (pointer_text p)))
    ∙ round_trip ESCAPED (pointer_text p) has_percent (bytes_utf8 (pointer_text p) u)
