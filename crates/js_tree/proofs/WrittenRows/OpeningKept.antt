-- The location that the kept beginning of a node's text holds.
use Rattle.std.proofs.Common.{◌≡◌, ℕ, ◌-◌, Bool, true, false, List, [], ◌∷◌, ◌++◌, codes, drop}
use Rattle.std.proofs.Common.{length, take, refl, ap, sym, ◌∙◌, append_assoc, arith}
use Rattle.std.proofs.lemmas.List.{length-append}
use Rattle.json.specs.Print.{escape}
use Rattle.js_doc.specs.Compact.{comma_if}
use Rattle.js_tree.specs.Rows.RelativeState.{part}
use Rattle.js_tree.specs.code.Opening.{opening_front, schema_kept, schema_start}
use Rattle.js_tree.specs.code.RelativeText.{opening_text}

before_slash : (s : List ℕ) → take (length s) (s ++ 47 ∷ []) ≡ s
before_slash [] = refl
before_slash (b ∷ s) = ap (λ l. b ∷ l) (before_slash s)

start_gone : (l : List ℕ) → drop 29 (schema_start ++ l) ≡ l
start_gone l = refl

how_long : (s : List ℕ) → length (schema_start ++ (s ++ 47 ∷ [])) - 30 ≡ length s
how_long s =
    let a = length-append schema_start (s ++ 47 ∷ []) in
    let b = length-append s (47 ∷ []) in
    let c : length schema_start ≡ 29 = refl in
    omega (arith, a, b, c)

pub kept_of : (s : List ℕ) → schema_kept (schema_start ++ (s ++ 47 ∷ [])) ≡ s
kept_of s = ap (λ n. take n (s ++ 47 ∷ [])) (how_long s) ∙ before_slash s

pub kept_is : (text s : List ℕ) → text ≡ schema_start ++ (s ++ 47 ∷ []) → schema_kept text ≡ s
kept_is text s e = ap schema_kept e ∙ kept_of s

pub shape_is : (text s : List ℕ) → text ≡ schema_start ++ (s ++ 47 ∷ [])
    → text ≡ schema_start ++ (schema_kept text ++ 47 ∷ [])
shape_is text s e = e ∙ ap (λ l. schema_start ++ (l ++ 47 ∷ [])) (sym (kept_is text s e))

-- what stands before the location stays
pub start_left : (text : List ℕ) → text ≡ schema_start ++ (schema_kept text ++ 47 ∷ []) → take 29 text ≡ schema_start
start_left text e = ap (take 29) e

pub behind_start : (text : List ℕ) → text ≡ schema_start ++ (schema_kept text ++ 47 ∷ [])
    → drop 29 text ≡ schema_kept text ++ 47 ∷ []
behind_start text e = ap (drop 29) e

-- the whole is what is written, but for the ends
pub written : (later slash : Bool) (text cut put : List ℕ) → text ≡ schema_start ++ (schema_kept text ++ 47 ∷ [])
    → ((rest : List ℕ) → text ≡ 44 ∷ rest → cut ≡ comma_if later ++ rest)
    → ((front : List ℕ) → cut ≡ front ++ 47 ∷ [] → put ≡ front ++ part slash [])
    → put ≡ opening_front later (schema_kept text) slash
written later slash text cut put shape from to =
    let start = codes "{\"absoluteKeywordLocation\":\"" in
    let s = schema_kept text in
    let front = comma_if later ++ (start ++ s) in
    let grouped : (end : List ℕ) → front ++ end ≡ comma_if later ++ (start ++ (s ++ end)) = λ end.
    append_assoc (comma_if later) (start ++ s) end ∙ ap (λ l. comma_if later ++ l) (append_assoc start s end) in
    to front (from (start ++ (s ++ 47 ∷ [])) shape ∙ sym (grouped (47 ∷ []))) ∙ grouped (part slash [])

part_is : (slash : Bool) (token : List ℕ) → part slash [] ++ token ≡ part slash token
part_is true token = refl
part_is false token = refl

-- with the token behind it
pub front_then : (later slash : Bool) (kept bytes schema token absolute : List ℕ)
    → (kept ≡ bytes) × (escape bytes ≡ bytes) → bytes ≡ schema → escape schema ++ part slash token ≡ escape absolute
    → opening_front later kept slash ++ token ≡ opening_text later absolute
front_then later slash kept bytes schema token absolute k b e =
    let start = codes "{\"absoluteKeywordLocation\":\"" in
    append_assoc (comma_if later) (start ++ (kept ++ part slash [])) token
    ∙ ap (λ l. comma_if later ++ l) (append_assoc start (kept ++ part slash []) token
    ∙ ap (λ l. start ++ l) (append_assoc kept (part slash []) token
    ∙ (ap (λ l. kept ++ l) (part_is slash token)
    ∙ (ap (λ l. l ++ part slash token) (k.0 ∙ (sym k.1 ∙ ap escape b)) ∙ e))))
