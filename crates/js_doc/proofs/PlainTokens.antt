-- Tokens that are written as they are, in a pointer's text and in a fragment.
use Rattle.std.proofs.Common.{◌≡◌, ℕ, ◌≤◌, Bool, true, false, not, ◌&&◌, ◌==◌, ltb, List, [], ◌∷◌}
use Rattle.std.proofs.Common.{flat_map, refl, sym, ap, subst, ◌∙◌, arith}
use Rattle.std.specs.List.{list_all}
use Rattle.std.proofs.lemmas.Bool.{agree_below, agree_below_at, and_parts, cond_both}
use Rattle.std.proofs.lemmas.Bool.Decides.{nat_tests}
use Rattle.js_doc.specs.Escapes.{stands}
use Rattle.js_doc.specs.Pointer.{escape}
use Rattle.js_doc.specs.Fragment.{is_fragment_char, fragment_byte}
use Rattle.js_doc.specs.Plain.{is_kept, is_plain}
use Rattle.js_doc.proofs.Escapes.{escape_kept}
use Rattle.js_doc.proofs.FragmentBytes.{alphanumeric_high}

turned : (b : Bool) → not b ≡ true → b ≡ false
turned true e = sym e
turned false e = refl

pub all_kept : (bs : List ℕ) → list_all is_kept bs ≡ true → escape bs ≡ bs
all_kept [] e = refl
all_kept (b ∷ bs) e =
    let p = and_parts (is_kept b) (list_all is_kept bs) e in
    let q = and_parts (not (b == 126)) (not (b == 47)) p.0 in
    escape_kept b bs (turned (b == 126) q.0) (turned (b == 47) q.1) ∙ ap (λ cs. b ∷ cs) (all_kept bs p.1)

-- ---- in a fragment

-- a plain byte is a fragment's, and is kept
abbrev is_both : ℕ → Bool
is_both b = is_fragment_char b && is_kept b

below : agree_below (λ b. is_plain b && not (is_both b)) (λ b. false) 128 ≡ true
below = refl

plain_high : (b : ℕ) → 128 ≤ b → is_plain b ≡ false
plain_high b high = let letter = alphanumeric_high b high in rw letter (grind (arith, nat_tests))

decided : (p q : Bool) → p && not q ≡ false → p ≡ true → q ≡ true
decided p true e f = refl
decided true false e f = sym e
decided false false e f = f

plain_is_both : (b : ℕ) → is_plain b ≡ true → is_both b ≡ true
plain_is_both b e = cond_both (ltb b 128) true false (λ x. is_both b ≡ true)
    (λ l. decided (is_plain b) (is_both b)
    (agree_below_at (λ b. is_plain b && not (is_both b)) (λ b. false) 128 b below (grind (arith, nat_tests))) e)
    (λ l. let high : 128 ≤ b = grind (arith, nat_tests) in let no = plain_high b high in absurd cc)

pub kept_too : (bs : List ℕ) → list_all is_plain bs ≡ true → list_all is_kept bs ≡ true
kept_too [] e = refl
kept_too (b ∷ bs) e =
    let p = and_parts (is_plain b) (list_all is_plain bs) e in
    let here = and_parts (is_fragment_char b) (is_kept b) (plain_is_both b p.0) in
    rw (here.1) (kept_too bs p.1)

encoded_alone : (bs : List ℕ) → list_all is_plain bs ≡ true → flat_map fragment_byte bs ≡ bs
encoded_alone [] e = refl
encoded_alone (b ∷ bs) e =
    let p = and_parts (is_plain b) (list_all is_plain bs) e in
    let here = and_parts (is_fragment_char b) (is_kept b) (plain_is_both b p.0) in
    rw (here.0) (ap (λ cs. b ∷ cs) (encoded_alone bs p.1))

pub all_plain : (bs : List ℕ) → list_all is_plain bs ≡ true → flat_map fragment_byte (escape bs) ≡ bs
all_plain bs e = ap (flat_map fragment_byte) (all_kept bs (kept_too bs e)) ∙ encoded_alone bs e

-- ---- in a JSON string

-- every plain byte is above the quotation mark
low : agree_below is_plain (λ b. false) 35 ≡ true
low = refl

above_marks : (b : ℕ) (v w : Bool) → ltb b 35 ≡ v → b == 92 ≡ w → is_plain b ≡ true → stands b ≡ true
above_marks b true w l m e = let no : is_plain b
    ≡ false = agree_below_at is_plain (λ b. false) 35 b low (grind (arith, nat_tests, l)) in absurd cc
above_marks b false true l m e =
    let is : b ≡ 92 = grind (arith, nat_tests, m) in
    let no : is_plain 92 ≡ true = subst (λ c. is_plain c ≡ true) is e in
    absurd cc
above_marks b false false l m e = grind (arith, nat_tests, l, m)

pub all_stand : (bs : List ℕ) → list_all is_plain bs ≡ true → list_all stands bs ≡ true
all_stand [] e = refl
all_stand (b ∷ bs) e =
    let p = and_parts (is_plain b) (list_all is_plain bs) e in
    let here = above_marks b (ltb b 35) (b == 92) refl refl p.0 in
    rw here (all_stand bs p.1)
