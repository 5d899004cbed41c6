-- Places by number, and what a text is read as.
use Rattle.std.proofs.Common.{◌≡◌, ℕ, ◌+◌, List, [], ◌∷◌, Bool, true, false, cond, is_none, Option, Some, None}
use Rattle.std.proofs.Common.{option_map, option_and_then, slice_get, find, refl, sym, ap, ◌∙◌, add-one}
use Rattle.std.specs.List.{position_from}
use Rattle.std.specs.Str.{IsUtf8, is_utf8}
use Rattle.std.proofs.lemmas.Str.{IsUtf8-from_is_utf8}
use Rattle.url.specs.Parts.{Parts}
use Rattle.js_doc.specs.Pointer.{Tokens, pointer_text}
use Rattle.js_doc.specs.PointerReading.{pointer_of}
use Rattle.js_doc.proofs.PointerTexts.{pointer_of-text, pointer_of-sound}
use Rattle.js_bundle.specs.Keyword.{Text}
use Rattle.js_bundle.specs.code.PlaceNumbers.{number_named}
use Rattle.js_bundle.specs.Names.{names, named}
use Rattle.js_bundle.specs.Resource.{Site}

pub not_utf8 : (bs : List ℕ) → ¬ (IsUtf8 bs) → (b : Bool) → is_utf8 bs ≡ b → is_utf8 bs ≡ false
not_utf8 bs h true e = absurd (h (IsUtf8-from_is_utf8 bs e))
not_utf8 bs h false e = e

pub tokens_read : (text : Text) (p : Tokens) → pointer_text p ≡ text → Some p ≡ pointer_of text
tokens_read text p e = sym (pointer_of-text p) ∙ ap pointer_of e

none_read : (text : Text) (o : Option Tokens) → pointer_of text ≡ o
    → ((p : Tokens) → ¬ (pointer_text p ≡ text)) → None ≡ o
none_read text None e h = refl
none_read text (Some p) e h = absurd (h p (pointer_of-sound text p e))

pub no_tokens_read : (text : Text) → ((p : Tokens) → ¬ (pointer_text p ≡ text)) → None ≡ pointer_of text
no_tokens_read text h = none_read text (pointer_of text) refl h

pub none_found : {A : Type 0} (n : ℕ) (xs : List A) → position_from (λ _. false) n xs ≡ None
none_found n [] = refl
none_found n (x ∷ xs) = none_found (n + 1) xs

-- ---- a number determines the place

pub none_alike : {A : Type 0} (f : A → Bool) (n : ℕ) (xs : List A)
    → is_none (position_from f n xs) ≡ is_none (find f xs)
none_alike f n [] = refl
none_alike f n (x ∷ xs) = by_test (f x) f n x xs (none_alike f (n + 1) xs)
  where
    by_test : {A : Type 0} (b : Bool) (f : A → Bool) (n : ℕ) (x : A) (xs : List A)
        → is_none (position_from f (n + 1) xs) ≡ is_none (find f xs)
        → is_none (cond b (Some n) (position_from f (n + 1) xs)) ≡ is_none (cond b (Some x) (find f xs))
    by_test true f n x xs e = refl
    by_test false f n x xs e = e

-- ---- what stands at the number

shifted : {A : Type 0} (f : A → Bool) (n : ℕ) (xs : List A)
    → position_from f (n + 1) xs ≡ option_map (λ i. i + 1) (position_from f n xs)
shifted f n [] = refl
shifted f n (x ∷ xs) = by_test (f x) f n xs (shifted f (n + 1) xs)
  where
    by_test : {A : Type 0} (b : Bool) (f : A → Bool) (n : ℕ) (xs : List A)
        → position_from f (n + 1 + 1) xs ≡ option_map (λ i. i + 1) (position_from f (n + 1) xs)
        → cond b (Some (n + 1)) (position_from f (n + 1 + 1) xs)
        ≡ option_map (λ i. i + 1) (cond b (Some n) (position_from f (n + 1) xs))
    by_test true f n xs e = refl
    by_test false f n xs e = e

get_next : {A : Type 0} (x : A) (xs : List A) (i : ℕ) → slice_get (x ∷ xs) (i + 1) ≡ slice_get xs i
get_next x xs i = ap (slice_get (x ∷ xs)) (add-one i)

get_later : {A : Type 0} (x : A) (xs : List A) (o : Option ℕ)
    → option_and_then (slice_get (x ∷ xs)) (option_map (λ i. i + 1) o) ≡ option_and_then (slice_get xs) o
get_later x xs None = refl
get_later x xs (Some i) = get_next x xs i

pub found_at : {A : Type 0} (f : A → Bool) (xs : List A)
    → option_and_then (slice_get xs) (position_from f 0 xs) ≡ find f xs
found_at f [] = refl
found_at f (x ∷ xs) = by_test (f x) f x xs
    (ap (option_and_then (slice_get (x ∷ xs))) (shifted f 0 xs) ∙ get_later x xs (position_from f 0 xs) ∙ found_at f xs)
  where
    by_test : {A : Type 0} (b : Bool) (f : A → Bool) (x : A) (xs : List A)
        → option_and_then (slice_get (x ∷ xs)) (position_from f 1 xs) ≡ find f xs
        → option_and_then (slice_get (x ∷ xs)) (cond b (Some 0) (position_from f 1 xs)) ≡ cond b (Some x) (find f xs)
    by_test true f x xs e = refl
    by_test false f x xs e = e

pub target_at : (all : List Site) (r : Option Parts)
    → option_and_then (slice_get all) (option_and_then (number_named all) r) ≡ option_and_then (named all) r
target_at all None = refl
target_at all (Some uri) = found_at (names all uri) all
