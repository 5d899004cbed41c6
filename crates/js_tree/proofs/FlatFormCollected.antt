-- A collector of the flat form, and the events of a tree.
use Rattle.std.specs.Prelude.{◌≡◌, ◌≢◌, ℕ, zero, suc, ◌-◌, ◌<◌, ◌≤◌, Bool, List, [], ◌∷◌, ◌++◌}
use Rattle.std.specs.Prelude.{length, map, slice_set, slice_index_or, refl}
use Rattle.std.proofs.Common.{arith, ap, sym, ◌∙◌, append-nil}
use Rattle.std.proofs.lemmas.List.{append_assoc, length-append, length-map, map-append}
use Rattle.js_tree.specs.Events.{closing, events, events_of, Passes, after_all}
use Rattle.js_tree.specs.Flat.{flat_form, flat_of}
use Rattle.js_tree.specs.FlatState.{FlatRow, FlatState, flat_start, opening_row, flat_opened, closed_row}
use Rattle.js_tree.specs.FlatState.{with_closed, flat_closed, flat_after, open_numbers, flat_state}
use Rattle.js_tree.specs.Forest.{Forest, empty, tree, node_count}
use Rattle.js_tree.specs.Note.{Note}
use Rattle.js_tree.specs.OutputUnit.{OutputUnit}
use Rattle.js_tree.specs.Result.{ResultTree}
use Rattle.js_tree.specs.declared.collecting.flat.Flat.{Flat}
use Rattle.js_tree.proofs.EventSequences.{passes-after_all, after_all-append}

-- ---- the events of a tree

abbrev at : List FlatRow → List ℕ → FlatState
at rows numbers = record { rows = rows; numbers = numbers }

opened_below : (rows : List FlatRow) (n : ℕ) (numbers : List ℕ) (row : FlatRow)
    → flat_opened rows (n ∷ numbers) row ≡ at (rows ++ row ∷ []) (length rows ∷ n ∷ numbers)
opened_below [] n numbers row = refl
opened_below (r ∷ rows) n numbers row = refl

with_closed-at : (rows : List FlatRow) (row : FlatRow) (rest : List FlatRow) (valid : Bool) (note : Note) (size : ℕ)
    → with_closed (length rows) valid note size ((rows ++ row ∷ []) ++ rest)
    ≡ rows ++ (closed_row row valid note size ∷ rest)
with_closed-at [] row rest valid note size = refl
with_closed-at (r ∷ rows) row rest valid note size = ap (λ zs. r ∷ zs) (with_closed-at rows row rest valid note size)

pub length-flat_of : {A : Type 0} (f : Forest A) → length (flat_of f) ≡ node_count f
length-flat_of empty = refl
length-flat_of (tree a below rest) =
    omega (arith, length-append (flat_of below) (flat_of rest), length-flat_of below, length-flat_of rest)

size_is : (rows : List FlatRow) (row : FlatRow) (f : Forest OutputUnit)
    → length ((rows ++ row ∷ []) ++ flat_of f) - length rows ≡ suc (node_count f)
size_is rows row f = omega
    (arith, length-append (rows ++ row ∷ []) (flat_of f), length-append rows (row ∷ []), length-flat_of f)

abbrev unknown : OutputUnit → FlatRow
unknown u = opening_row u.keyword u.absolute u.instance

pub closed_at : (rows : List FlatRow) (u : OutputUnit) (f : Forest OutputUnit) (numbers : List ℕ)
    → flat_closed ((rows ++ unknown u ∷ []) ++ flat_of f) (length rows ∷ numbers) u.valid u.note
    ≡ at (rows ++ (u, suc (node_count f)) ∷ flat_of f) numbers
closed_at rows u f numbers =
    ap (λ size. at (with_closed (length rows) u.valid u.note size ((rows ++ unknown u ∷ []) ++ flat_of f)) numbers)
    (size_is rows (unknown u) f)
    ∙ ap (λ zs. at zs numbers) (with_closed-at rows (unknown u) (flat_of f) u.valid u.note (suc (node_count f)))

reported_below : (f : Forest OutputUnit) (rows : List FlatRow) (n : ℕ) (numbers : List ℕ)
    → after_all flat_after (at rows (n ∷ numbers)) (events_of f) ≡ at (rows ++ flat_of f) (n ∷ numbers)
reported_below empty rows n numbers = ap (λ zs. at zs (n ∷ numbers)) (sym (append-nil rows))
reported_below (tree u below rest) rows n numbers =
    ap (λ s. after_all flat_after s (events_of below ++ (closing u.valid u.note ∷ events_of rest)))
    (opened_below rows n numbers (unknown u))
    ∙ (after_all-append flat_after (at (rows ++ unknown u ∷ []) (length rows ∷ n ∷ numbers)) (events_of below)
    (closing u.valid u.note ∷ events_of rest)
    ∙ (ap (λ s. after_all flat_after s (closing u.valid u.note ∷ events_of rest))
    (reported_below below (rows ++ unknown u ∷ []) (length rows) (n ∷ numbers))
    ∙ (ap (λ s. after_all flat_after s (events_of rest)) (closed_at rows u below (n ∷ numbers))
    ∙ (reported_below rest (rows ++ (u, suc (node_count below)) ∷ flat_of below) n numbers
    ∙ ap (λ zs. at zs (n ∷ numbers))
    (append_assoc rows ((u, suc (node_count below)) ∷ flat_of below) (flat_of rest))))))

reported : (t : ResultTree) → after_all flat_after flat_start (events t) ≡ at (flat_form t) []
reported t =
    after_all-append flat_after (at (unknown t.root ∷ []) (0 ∷ [])) (events_of t.below)
    (closing t.root.valid t.root.note ∷ [])
    ∙ (ap (λ s. flat_after s (closing t.root.valid t.root.note)) (reported_below t.below (unknown t.root ∷ []) 0 [])
    ∙ closed_at [] t.root t.below [])

pub flat_held : (t : ResultTree) (c d : Flat) → flat_state c ≡ flat_start
    → Passes (λ a e b. flat_state b ≡ flat_after (flat_state a) e) (events t) c d → flat_state d ≡ at (flat_form t) []
flat_held t c d h p = passes-after_all flat_state flat_after (events t) c d p
    ∙ (ap (λ s. after_all flat_after s (events t)) h ∙ reported t)

-- ---- the code's rows and numbers

open_numbers-append : (ns : List ℕ) (n : ℕ) (ms : List ℕ) → open_numbers (ns ++ n ∷ []) ms ≡ n ∷ open_numbers ns ms
open_numbers-append [] n ms = refl
open_numbers-append (x ∷ ns) n ms = open_numbers-append ns n (x ∷ ms)

pub with_closed-beyond : (n : ℕ) (valid : Bool) (note : Note) (size : ℕ) (rows : List FlatRow) → length rows ≤ n
    → with_closed n valid note size rows ≡ rows
with_closed-beyond n valid note size [] le = refl
with_closed-beyond zero valid note size (r ∷ rows) le = absurd (omega (arith, le))
with_closed-beyond (suc n) valid note size (r ∷ rows) le =
    ap (λ zs. r ∷ zs) (with_closed-beyond n valid note size rows (omega (arith, le)))

pub row_closed : {R : Type 0} (row_of : R
    → FlatRow) (rows : List R) (n : ℕ) (old new : R) (valid : Bool) (note : Note) (size : ℕ) → n < length rows
    → old ≡ slice_index_or rows n old → row_of new ≡ closed_row (row_of old) valid note size
    → map row_of (slice_set rows n new) ≡ with_closed n valid note size (map row_of rows)
row_closed row_of [] n old new valid note size lt e f = absurd (omega (arith, lt))
row_closed row_of (y ∷ ys) zero old new valid note size lt e f =
    ap (λ z. z ∷ map row_of ys) (f ∙ ap (λ z. closed_row (row_of z) valid note size) e)
row_closed row_of (y ∷ ys) (suc n) old new valid note size lt e f =
    ap (λ zs. row_of y ∷ zs) (row_closed row_of ys n old new valid note size (omega (arith, lt)) e f)

popped : (rows : List FlatRow) (ns ms : List ℕ) (n : ℕ) (valid : Bool) (note : Note) (zs : List FlatRow)
    → ns ≡ ms ++ n ∷ [] → zs ≡ with_closed n valid note (length rows - n) rows
    → at zs (open_numbers ms []) ≡ flat_closed rows (open_numbers ns []) valid note
popped rows ns ms n valid note zs e f =
    ap (λ qs. at qs (open_numbers ms [])) f ∙ ap (λ ks. flat_closed rows ks valid note)
    (sym (ap (λ xs. open_numbers xs []) e ∙ open_numbers-append ms n []))

pub closes : {R : Type 0} (row_of : R → FlatRow) (rows : List R) (ns ms : List ℕ) (n : ℕ) (old new : R) (valid : Bool)
    (note : Note) (size : ℕ) → ns ≡ ms ++ n ∷ [] → n < length rows → size ≡ length rows - n
    → old ≡ slice_index_or rows n old → row_of new ≡ closed_row (row_of old) valid note size
    → at (map row_of (slice_set rows n new)) (open_numbers ms [])
    ≡ flat_closed (map row_of rows) (open_numbers ns []) valid note
closes row_of rows ns ms n old new valid note size e lt s i f =
    popped (map row_of rows) ns ms n valid note _ e
    (row_closed row_of rows n old new valid note size lt i f ∙ ap (λ k. with_closed n valid note k (map row_of rows))
    (let l = length-map rows row_of in omega (arith, s, l)))

pub closes_beyond : {R : Type 0} (row_of : R → FlatRow) (rows : List R) (ns ms : List ℕ) (n : ℕ) (valid : Bool)
    (note : Note) → ns ≡ ms ++ n ∷ [] → length rows ≤ n
    → at (map row_of rows) (open_numbers ms []) ≡ flat_closed (map row_of rows) (open_numbers ns []) valid note
closes_beyond row_of rows ns ms n valid note e le =
    popped (map row_of rows) ns ms n valid note _ e (sym
    (with_closed-beyond n valid note _ (map row_of rows) (let l = length-map rows row_of in omega (arith, le, l))))

-- a list that is turned onto another isn't empty
open_numbers-there : (ns : List ℕ) (m : ℕ) (ms : List ℕ) → (y : ℕ) × (ys : List ℕ) × open_numbers ns (m ∷ ms) ≡ y ∷ ys
open_numbers-there [] m ms = (m, ms, refl)
open_numbers-there (n ∷ ns) m ms = open_numbers-there ns n (m ∷ ms)

opened_there : (rows : List FlatRow) (ks : List ℕ) (row : FlatRow) (y : ℕ) (ys : List ℕ) → ks ≡ y ∷ ys
    → flat_opened rows ks row ≡ at (rows ++ row ∷ []) (length rows ∷ ks)
opened_there rows ks row y ys e = ap (λ qs. flat_opened rows qs row) e
    ∙ (opened_below rows y ys row ∙ ap (λ qs. at (rows ++ row ∷ []) (length rows ∷ qs)) (sym e))

pub opens : {R : Type 0} (row_of : R → FlatRow) (rows new : List R) (ns ms : List ℕ) (r : R) (row : FlatRow) (n : ℕ)
    → (length ns ≡ 0 → length rows ≡ 0) → row_of r ≡ row → new ≡ rows ++ r ∷ [] → ms ≡ ns ++ n ∷ [] → n ≡ length rows
    → at (map row_of new) (open_numbers ms []) ≡ flat_opened (map row_of rows) (open_numbers ns []) row
opens row_of [] new [] ms r row n h f e d l = ap (λ qs. at (map row_of qs) (open_numbers ms [])) e ∙ (ap (λ qs. at
    (row_of r ∷ []) (open_numbers qs [])) d ∙ (ap (λ q. at (q ∷ []) (n ∷ [])) f ∙ ap (λ q. at (row ∷ []) (q ∷ [])) l))
opens row_of (y ∷ ys) new [] ms r row n h f e d l = let a : suc (length ys) ≡ 0 = h refl in absurd (omega (arith, a))
opens row_of rows new (x ∷ xs) ms r row n h f e d l =
    let w = open_numbers-there xs x [] in
    let a : map row_of new ≡ map row_of rows ++ row ∷ [] = ap (map row_of) e
    ∙ (map-append row_of rows (r ∷ []) ∙ ap (λ q. map row_of rows ++ q ∷ []) f) in
    let b : open_numbers ms [] ≡ n ∷ open_numbers (x ∷ xs) [] = ap (λ qs. open_numbers qs []) d
    ∙ open_numbers-append (x ∷ xs) n [] in
    let k : n ≡ length (map row_of rows) = l ∙ sym (length-map rows row_of) in
    ap (λ qs. at qs (open_numbers ms [])) a ∙ (ap (λ qs. at (map row_of rows ++ row ∷ []) qs) (b ∙ ap (λ q. q ∷
    open_numbers (x ∷ xs) []) k) ∙ sym (opened_there (map row_of rows) (open_numbers (x ∷ xs) []) row w.0 w.1 w.2))

-- no node is open
pub none_open : (ns : List ℕ) → open_numbers ns [] ≡ [] → ns ≡ []
none_open [] e = refl
none_open (n ∷ ns) e = let w = open_numbers-there ns n [] in let k = w.2 in absurd cc

-- a row is made only where a node is open or there is no row
pub made_in_time : {R : Type 0} (row_of : R → FlatRow) (rows : List R) (ns : List ℕ) → (length ns ≡ 0 → length rows ≡ 0)
    → map row_of rows ≢ [] → open_numbers ns [] ≡ [] → ⊥
made_in_time row_of [] ns h there none = there refl
made_in_time row_of (r ∷ rows) ns h there none = let l : suc (length rows) ≡ 0 = h (ap length (none_open ns none)) in
    absurd (omega (arith, l))
