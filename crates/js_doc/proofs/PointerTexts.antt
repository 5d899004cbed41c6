-- Reading a pointer's text gives the pointer that has it.
use Rattle.std.proofs.Common.{◌≡◌, ℕ, ◌/◌, ◌<◌, ◌≤◌, Bool, true, false, ◌==◌, List, [], ◌∷◌, ◌++◌, Option, Some, None}
use Rattle.std.proofs.Common.{option_map, ltb, lit<, refl, sym, ap, ◌∙◌, append_assoc, arith}
use Rattle.std.proofs.lemmas.Bool.{eqb-true}
use Rattle.std.proofs.lemmas.List.{append-nil}
use lib.Utf8.{encode, next}
use Rattle.js_doc.proofs.Escapes.{high, encoded}
use Rattle.js_doc.specs.Pointer.{escape, pointer_text}
use Rattle.js_doc.specs.PointerReading.{tokens_read, pointer_of}

-- ---- every pointer's text is read

tokens_at : (b : ℕ) (bs token r : List ℕ) (t s : Bool) → b == 126 ≡ t → b == 47 ≡ s
    → tokens_read false (token ++ b ∷ []) (escape bs ++ r) ≡ tokens_read false ((token ++ b ∷ []) ++ bs) r
    → tokens_read false token (escape (b ∷ bs) ++ r) ≡ tokens_read false (token ++ b ∷ bs) r
tokens_at b bs token r true s e f h = let is : b ≡ 126 = eqb-true b 126 e in let a = append_assoc token (126 ∷ []) bs in
    rw (is) (rw is at h ∙ ap (λ x. tokens_read false x r) a)
tokens_at b bs token r false true e f h = let is : b ≡ 47 = eqb-true b 47 f in
    let a = append_assoc token (47 ∷ []) bs in rw (is) (rw is at h ∙ ap (λ x. tokens_read false x r) a)
tokens_at b bs token r false false e f h =
    rw (e, f) (rw (e, f) (h ∙ ap (λ x. tokens_read false x r) (append_assoc token (b ∷ []) bs)))

pub tokens_token : (bs token r : List ℕ) → tokens_read false token (escape bs ++ r) ≡ tokens_read false (token ++ bs) r
tokens_token [] token r = ap (λ x. tokens_read false x r) (sym (append-nil token))
tokens_token (b ∷ bs) token r = tokens_at b bs token r _ _ refl refl (tokens_token bs (token ++ b ∷ []) r)

pub tokens_text : (ps : List (List ℕ)) (token : List ℕ) → tokens_read false token (pointer_text ps) ≡ Some (token ∷ ps)
tokens_text [] token = refl
tokens_text (t ∷ ps) token = ap (option_map (λ p. token ∷ p)) (tokens_token t [] (pointer_text ps) ∙ tokens_text ps t)

pub pointer_of-text : (ps : List (List ℕ)) → pointer_of (pointer_text ps) ≡ Some ps
pointer_of-text [] = refl
pointer_of-text (t ∷ ps) = tokens_token t [] (pointer_text ps) ∙ tokens_text ps t

-- ---- a step of the reading

-- the byte is neither `~` nor `/`
abbrev pub IsPlain : ℕ → Type 0
IsPlain b = (b == 126 ≡ false) × (b == 47 ≡ false)

abbrev pub ArePlain : List ℕ → Type 0
ArePlain [] = Unit {0}
ArePlain (b ∷ bs) = IsPlain b × ArePlain bs

tokens_plain : (bs token r : List ℕ) → ArePlain bs
    → tokens_read false token (bs ++ r) ≡ tokens_read false (token ++ bs) r
tokens_plain [] token r h = ap (λ x. tokens_read false x r) (sym (append-nil token))
tokens_plain (b ∷ bs) token r h = rw (h.0.0, h.0.1)
    (tokens_plain bs (token ++ b ∷ []) r h.1 ∙ ap (λ x. tokens_read false x r) (append_assoc token (b ∷ []) bs))

plain_high : (b : ℕ) → 128 ≤ b → IsPlain b
plain_high b h = (high b 126 (lit< tt) h, high b 47 (lit< tt) h)

plain_encoded : (t u v : Bool) (c : ℕ) → IsPlain c → ArePlain (encoded t u v c)
plain_encoded true u v c h = (h, tt)
plain_encoded false true v c h = (plain_high _ (omega arith), (plain_high (next c) (omega arith), tt))
plain_encoded false false true c h =
    (plain_high _ (omega arith), (plain_high (next (c / 64)) (omega arith), (plain_high (next c) (omega arith), tt)))
plain_encoded false false false c h = (
  plain_high _ (omega arith),
  (
    plain_high (next (c / 4096)) (omega arith),
    (plain_high (next (c / 64)) (omega arith), (plain_high (next c) (omega arith), tt)),
  ),
)

plain_encode : (c : ℕ) → IsPlain c → ArePlain (encode c)
unfolding encode
plain_encode c h = plain_encoded (ltb c 128) (ltb c 2048) (ltb c 65536) c h

-- a character's first byte is itself or outside ASCII
record BeginsAs (c : ℕ) (xs : List ℕ) : Type 0 where
  pub byte : ℕ
  pub more : List ℕ
  pub is : xs ≡ byte ∷ more
  pub differs : (n : ℕ) → n < 128 → c == n ≡ false → byte == n ≡ false

begins_encoded : (t u v : Bool) (c : ℕ) → BeginsAs c (encoded t u v c)
begins_encoded true u v c = record { byte = c; more = []; is = refl; differs = λ n h e. e }
begins_encoded false true v c = record { byte = _; more = _; is = refl; differs = λ n h e. high _ n h (omega arith) }
begins_encoded false false true c =
    record { byte = _; more = _; is = refl; differs = λ n h e. high _ n h (omega arith) }
begins_encoded false false false c =
    record { byte = _; more = _; is = refl; differs = λ n h e. high _ n h (omega arith) }

begins : (c : ℕ) → BeginsAs c (encode c)
unfolding encode
begins c = begins_encoded (ltb c 128) (ltb c 2048) (ltb c 65536) c

pub arm_first : (c : ℕ) (text left : List ℕ) → c == 47 ≡ false → text ≡ encode c ++ left → pointer_of text ≡ None
arm_first c text left e s =
    let b = begins c in
    let d : b.byte == 47 ≡ false = b.differs 47 (lit< tt) e in
    rw (s, b.is, d)

pub arm_bad : (t : Bool) (c : ℕ) (token rest left : List ℕ) → t ≡ true → c == 48 ≡ false → c == 49 ≡ false
    → rest ≡ encode c ++ left → tokens_read t token rest ≡ None
arm_bad t c token rest left is e f s =
    let b = begins c in
    let d : b.byte == 48 ≡ false = b.differs 48 (lit< tt) e in
    let g : b.byte == 49 ≡ false = b.differs 49 (lit< tt) f in
    rw (is, s, b.is, d, g)

pub arm_more : (t : Bool) (c : ℕ) (token after rest left : List ℕ) → t ≡ false → c == 126 ≡ false → c == 47 ≡ false
    → rest ≡ encode c ++ left → after ≡ token ++ encode c → tokens_read t token rest ≡ tokens_read t after left
arm_more t c token after rest left is e f s a =
    rw (is, s, a) (tokens_plain (encode c) token left (plain_encode c (e, f)))

alone : (n : ℕ) → ltb n 128 ≡ true → encode n ≡ n ∷ []
unfolding encode
alone n e = rw e

pub arm_zero : (t : Bool) (c : ℕ) (token after rest left : List ℕ) → t ≡ true → c ≡ 48 → rest ≡ encode c ++ left
    → after ≡ token ++ encode 126 → tokens_read t token rest ≡ tokens_read false after left
arm_zero t c token after rest left is e s a = rw (is, s, e, alone 48 refl, a, alone 126 refl)

pub arm_one : (t : Bool) (c : ℕ) (token after rest left : List ℕ) → t ≡ true → c ≡ 49 → rest ≡ encode c ++ left
    → after ≡ token ++ encode 47 → tokens_read t token rest ≡ tokens_read false after left
arm_one t c token after rest left is e s a = rw (is, s, e, alone 49 refl, a, alone 47 refl)

pub arm_tilde : (t : Bool) (c : ℕ) (token rest left : List ℕ) → t ≡ false → c ≡ 126 → rest ≡ encode c ++ left
    → tokens_read t token rest ≡ tokens_read true token left
arm_tilde t c token rest left is e s = rw (is, s, e, alone 126 refl)

pub unmoved : (w : Option (List (List ℕ))) → w ≡ option_map (λ q. [] ++ q) w
unmoved None = refl
unmoved (Some q) = refl

pub arm_begin : (c : ℕ) (text token left rest : List ℕ) (p : List (List ℕ)) → c ≡ 47 → text ≡ encode c ++ left
    → token ≡ [] → p ≡ [] → rest ≡ left → pointer_of text ≡ option_map (λ q. p ++ q) (tokens_read false token rest)
arm_begin c text token left rest p e s n z r = rw (s, e, alone 47 refl, n, z, r) (unmoved (tokens_read false [] left))

pub moved : (p : List (List ℕ)) (token : List ℕ) (w : Option (List (List ℕ)))
    → option_map (λ q. p ++ q) (option_map (λ q. token ∷ q) w) ≡ option_map (λ q. (p ++ token ∷ []) ++ q) w
moved p token None = refl
moved p token (Some q) = ap Some (sym (append_assoc p (token ∷ []) q))

pub arm_slash : (t : Bool) (c : ℕ) (token rest left after pushed : List ℕ) (p new : List (List ℕ)) → t ≡ false → c ≡ 47
    → rest ≡ encode c ++ left → after ≡ [] → pushed ≡ token → new ≡ p ++ pushed ∷ []
    → option_map (λ q. p ++ q) (tokens_read t token rest) ≡ option_map (λ q. new ++ q) (tokens_read t after left)
arm_slash t c token rest left after pushed p new is e s n same grown =
    rw (is, s, e, alone 47 refl, n, grown, same) (moved p token (tokens_read false [] left))

-- ---- what is read is the text

escape_kept : (b : ℕ) (bs : List ℕ) → b == 126 ≡ false → b == 47 ≡ false → escape (b ∷ bs) ≡ b ∷ escape bs
escape_kept b bs e f = rw (e, f)

append_at : (b : ℕ) (bs ys : List ℕ) (t s : Bool) → b == 126 ≡ t → b == 47 ≡ s
    → escape (bs ++ ys) ≡ escape bs ++ escape ys → escape ((b ∷ bs) ++ ys) ≡ escape (b ∷ bs) ++ escape ys
append_at b bs ys true s e f h = rw (e) (ap (λ x. 126 ∷ 48 ∷ x) h)
append_at b bs ys false true e f h = rw (e, f) (ap (λ x. 126 ∷ 49 ∷ x) h)
append_at b bs ys false false e f h = rw (e, f) (ap (λ x. b ∷ x) h)

pub escape-append : (xs ys : List ℕ) → escape (xs ++ ys) ≡ escape xs ++ escape ys
escape-append [] ys = refl
escape-append (b ∷ bs) ys = append_at b bs ys _ _ refl refl (escape-append bs ys)

-- what of the first token's text has been read
abbrev read_so_far : Bool → List ℕ → List ℕ
read_so_far true token = escape token ++ 126 ∷ []
read_so_far false token = escape token

none_some : {A : Type 0} {B : Type 0} (x : A) → None ≡ Some x → B
none_some x e = cc

some_is : {A : Type 0} (x y : A) → Some x ≡ Some y → x ≡ y
some_is x y e = cc

abbrev Sound : List ℕ → Type 0
Sound bs = (t : Bool) (token : List ℕ) (p : List (List ℕ)) → tokens_read t token bs ≡ Some p
    → 47 ∷ (read_so_far t token ++ bs) ≡ pointer_text p

spelled : (token more bs : List ℕ) (n : ℕ) → escape more ≡ 126 ∷ n ∷ []
    → (escape token ++ 126 ∷ []) ++ n ∷ bs ≡ escape (token ++ more) ++ bs
spelled token more bs n e = append_assoc (escape token) (126 ∷ []) (n ∷ bs) ∙ sym (append_assoc (escape token)
    (126 ∷ n ∷ []) bs) ∙ ap (λ x. x ++ bs) (ap (λ x. escape token ++ x) (sym e) ∙ sym (escape-append token more))

sound_tilde : (b : ℕ) (bs token : List ℕ) (p : List (List ℕ)) (x y : Bool) → b == 48 ≡ x → b == 49 ≡ y → Sound bs
    → tokens_read true token (b ∷ bs) ≡ Some p → 47 ∷ (read_so_far true token ++ b ∷ bs) ≡ pointer_text p
sound_tilde b bs token p true y e f h w = rw (eqb-true b 48 e)
    (ap (λ x. 47 ∷ x) (spelled token (126 ∷ []) bs 48 refl) ∙ h false (token ++ 126 ∷ []) p (rw e at w))
sound_tilde b bs token p false true e f h w = rw (eqb-true b 49 f)
    (ap (λ x. 47 ∷ x) (spelled token (47 ∷ []) bs 49 refl) ∙ h false (token ++ 47 ∷ []) p (rw (e, f) at w))
sound_tilde b bs token p false false e f h w = none_some p (rw (e, f) at w)

mapped : (token : List ℕ) (bs : List ℕ) (r : Option (List (List ℕ))) (p : List (List ℕ))
    → ((q : List (List ℕ)) → r ≡ Some q → 47 ∷ bs ≡ pointer_text q) → option_map (λ q. token ∷ q) r ≡ Some p
    → 47 ∷ (escape token ++ 47 ∷ bs) ≡ pointer_text p
mapped token bs None p h e = none_some p e
mapped token bs (Some q) p h e = ap (λ x. 47 ∷ (escape token ++ x)) (h q refl)
    ∙ ap pointer_text (some_is (token ∷ q) p e)

sound_plain : (b : ℕ) (bs token : List ℕ) (p : List (List ℕ)) (x y : Bool) → b == 126 ≡ x → b == 47 ≡ y → Sound bs
    → tokens_read false token (b ∷ bs) ≡ Some p → 47 ∷ (read_so_far false token ++ b ∷ bs) ≡ pointer_text p
sound_plain b bs token p true y e f h w = rw (eqb-true b 126 e)
    (ap (λ x. 47 ∷ x) (sym (append_assoc (escape token) (126 ∷ []) bs)) ∙ h true token p (rw e at w))
sound_plain b bs token p false true e f h w =
    rw (eqb-true b 47 f) (mapped token bs (tokens_read false [] bs) p (λ q. h false [] q) (rw (e, f) at w))
sound_plain b bs token p false false e f h w =
    ap (λ x. 47 ∷ x) (sym (append_assoc (escape token) (b ∷ []) bs) ∙ ap (λ x. x ++ bs)
    (ap (λ x. escape token ++ x) (sym (escape_kept b [] e f)) ∙ sym (escape-append token (b ∷ []))))
    ∙ h false (token ++ b ∷ []) p (rw (e, f) at w)

sound : (bs : List ℕ) → Sound bs
sound [] true token p w = none_some p w
sound [] false token p w = ap (λ x. 47 ∷ (escape token ++ [])) w ∙ ap pointer_text (some_is (token ∷ []) p w)
sound (b ∷ bs) true token p w = sound_tilde b bs token p _ _ refl refl (sound bs) w
sound (b ∷ bs) false token p w = sound_plain b bs token p _ _ refl refl (sound bs) w

sound_first : (b : ℕ) (bs : List ℕ) (p : List (List ℕ)) (x : Bool) → b == 47 ≡ x → pointer_of (b ∷ bs) ≡ Some p
    → pointer_text p ≡ b ∷ bs
sound_first b bs p true e w = rw (eqb-true b 47 e) (sym (sound bs false [] p (rw e at w)))
sound_first b bs p false e w = none_some p (rw e at w)

pub pointer_of-sound : (text : List ℕ) (p : List (List ℕ)) → pointer_of text ≡ Some p → pointer_text p ≡ text
pointer_of-sound [] p e = sym (ap pointer_text (some_is [] p e))
pointer_of-sound (b ∷ bs) p e = sound_first b bs p _ refl e

-- ---- what the contracts say

pub only : (text : List ℕ) (p q : List (List ℕ)) → pointer_text p ≡ text → pointer_of text ≡ Some q → q ≡ p
only text p q is e = some_is q p (sym e ∙ ap pointer_of (sym is) ∙ pointer_of-text p)

pub never : (text : List ℕ) (p : List (List ℕ)) → pointer_of text ≡ None → pointer_text p ≡ text → ⊥
never text p e is = none_some p (sym e ∙ ap pointer_of (sym is) ∙ pointer_of-text p)
