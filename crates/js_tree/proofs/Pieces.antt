-- A text that goes out in pieces, and an array that goes out item by item.
use Rattle.std.proofs.Common.{◌≡◌, ℕ, ◌+◌, ◌<◌, ◌≤◌, Bool, true, List, [], ◌∷◌, ◌++◌, length, drop, map}
use Rattle.std.proofs.Common.{get_or, Result, Ok, Err, refl, ap, sym, ◌∙◌, arith}
use Rattle.std.proofs.KnownBytes.{Appends-nil}
use Rattle.std.proofs.lemmas.List.{drop_more, drop_all}
use Rattle.std.specs.Result.{IsErr}
use Rattle.js_doc.specs.BytesOut.{Progress, Goes, Stops, Puts}
use Rattle.js_doc.specs.Compact.{compact, comma_if, compact_items}
use Rattle.js_doc.specs.Value.{Value, items}
use Rattle.js_doc.proofs.BytesGone.{Wrote, starts, goes_on, same_left, puts_err, puts_last}

-- the first piece went, and the rest is put
pub then_puts : {T E : Type 0} (a b c : Progress) (p q : List ℕ) (r : Result T E) → Goes a b p
    → Puts b c q r → Puts a c (p ++ q) r
then_puts a b c p q r g h = puts_last a b c q (p ++ q) r (goes_on a a b p q (p ++ q) (starts a (p ++ q)) g) h

-- it stopped in the first piece
pub stops_in : {T E : Type 0} (a b : Progress) (p q : List ℕ) (r : Result T E) → IsErr r
    → Stops a b p → Puts a b (p ++ q) r
stops_in a b p q r h s = puts_err a a b p q (p ++ q) r h (starts a (p ++ q)) s

pub nothing_goes : (a : Progress) → Goes a a []
nothing_goes a = (Appends-nil a.gone, (omega arith, omega arith), refl)

pub stopped : {T E : Type 0} (a b : Progress) (p : List ℕ) (r : Result T E) (e : E) → r ≡ Err e
    → Puts a b p r → Stops a b p
stopped a b p (Ok x) e f s = absurd cc
stopped a b p (Err d) e f s = s

pub gone : {T E : Type 0} (a b : Progress) (p : List ℕ) (r : Result T E) (x : T) → r ≡ Ok x → Puts a b p r → Goes a b p
gone a b p (Ok y) x f s = s
gone a b p (Err e) x f s = absurd cc

-- ---- an array

left_is : (later : Bool) (xs ys : List Value) (x : Value) → xs ≡ x ∷ ys
    → compact_items later (items xs) ≡ comma_if later ++ (compact x ++ compact_items true (items ys))
left_is later xs ys x e = ap (λ vs. compact_items later (items vs)) e

-- it stopped before the item
pub stops_at_comma : {T E : Type 0} (a b c : Progress) (later : Bool) (xs ys : List Value) (x : Value) (all : List ℕ)
    (r : Result T E) → Wrote a b (compact_items later (items xs)) all → xs ≡ x ∷ ys → IsErr r
    → Stops b c (comma_if later) → Puts a c all r
stops_at_comma a b c later xs ys x all r w e h s =
    puts_err a b c (comma_if later) (compact x ++ compact_items true (items ys)) all r h
    (same_left a b _ _ all w (left_is later xs ys x e)) s

-- it stopped in the item
pub stops_at_item : {T E : Type 0} (a b c d : Progress) (later : Bool) (xs ys : List Value) (x : Value) (all : List ℕ)
    (r : Result T E) → Wrote a b (compact_items later (items xs)) all → xs ≡ x ∷ ys → Goes b c (comma_if later)
    → IsErr r → Stops c d (compact x) → Puts a d all r
stops_at_item a b c d later xs ys x all r w e g h s =
    puts_err a c d (compact x) (compact_items true (items ys)) all r h
    (goes_on a b c (comma_if later) (compact x ++ compact_items true (items ys)) all
    (same_left a b _ _ all w (left_is later xs ys x e)) g) s

-- the item went
pub item_goes : (a b c d : Progress) (later now : Bool) (xs ys : List Value) (x : Value) (all : List ℕ)
    → Wrote a b (compact_items later (items xs)) all → xs ≡ x ∷ ys → Goes b c (comma_if later) → now ≡ true
    → Goes c d (compact x) → Wrote a d (compact_items now (items ys)) all
item_goes a b c d later now xs ys x all w e g n h =
    same_left a d _ _ all
    (goes_on a c d (compact x) (compact_items true (items ys)) all
    (goes_on a b c (comma_if later) (compact x ++ compact_items true (items ys)) all
    (same_left a b _ _ all w (left_is later xs ys x e)) g) h)
    (ap (λ b. compact_items b (items ys)) (sym n))

-- no item is left
pub array_ends : {T E : Type 0} (a b c : Progress) (later : Bool) (xs : List Value) (all : List ℕ) (r : Result T E)
    → Wrote a b (compact_items later (items xs)) all → xs ≡ [] → Puts b c (93 ∷ []) r → Puts a c all r
array_ends a b c later xs all r w e h =
    puts_last a b c (93 ∷ []) all r (same_left a b _ _ all w (ap (λ vs. compact_items later (items vs)) e)) h

-- ---- what is left of a list, seen otherwise

pub seen_next : {A B : Type 0} (f : A → B) (xs : List A) (i : ℕ) (x : A) → i < length xs → x ≡ get_or xs i x
    → map f (drop i xs) ≡ f x ∷ map f (drop (i + 1) xs)
seen_next f xs i x h e = ap (map f) (drop_more xs i x h ∙ ap (λ y. y ∷ drop (i + 1) xs) (sym e))

pub seen_all : {A B : Type 0} (f : A → B) (xs : List A) (i : ℕ) → length xs ≤ i → map f (drop i xs) ≡ []
seen_all f xs i h = ap (map f) (drop_all i xs h)

pub seen_at : {A B : Type 0} (f : A → B) (xs : List A) (i : ℕ) (d : A) → i < length xs
    → map f (drop i xs) ≡ f (get_or xs i d) ∷ map f (drop (i + 1) xs)
seen_at f xs i d h = ap (map f) (drop_more xs i d h)
