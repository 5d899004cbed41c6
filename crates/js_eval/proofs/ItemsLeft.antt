-- The items that a cursor has left.
use Rattle.std.proofs.Common.{◌≡◌, ◌==◌, ℕ, zero, suc, ◌+◌, ◌<◌, ◌≤◌, nat_lt, nat_le, Bool, true, false, not}
use Rattle.std.proofs.Common.{◌||◌, cond, List, [], ◌∷◌, ◌++◌, length, get_or, take, drop, map, filter, refl}
use Rattle.std.proofs.Common.{sym, ap, ◌∙◌, arith, add-one, drop-cons}
use Rattle.std.proofs.Math.ListN.{set}
use Rattle.std.proofs.lemmas.Bool.{le-ltb, lt-ltb, le-leb, lt-leb, eqb-true, eqb-false, ne_eqb}
use Rattle.std.proofs.lemmas.Grind.{get_or-set_at}
use Rattle.std.proofs.lemmas.List.{drop_all, drop-map, take-map, get_or-set_other, length-map}
use Rattle.std.proofs.lemmas.List.Folds.{list_any-append}
use Rattle.js_doc.specs.Value.{Value}
use Rattle.js_doc.specs.Seen.{value_of}
use Rattle.js_doc.specs.declared.doc.Doc.{Doc}
use Rattle.js_doc.specs.declared.doc.Doc.TheVariants as doc
use Rattle.js_eval.specs.Applications.{among_indexes, indexed_from}
use Rattle.js_eval.specs.code.Cursors.{AreMarked, is_marked, items_left}

at_least : (marks : List Bool) (docs : List Doc) (i : ℕ) (d : Doc) → i < length docs
    → items_left marks i docs ≡ cond (not (is_marked marks i))
    ((i, value_of (get_or docs i d)) ∷ items_left marks (i + 1) docs) (items_left marks (i + 1) docs)
at_least marks docs i d h = rw (drop-cons docs i d, add-one)

pub item_taken : (marks : List Bool) (docs : List Doc) (i : ℕ) (d : Doc) → i < length docs → d ≡ get_or docs i d
    → is_marked marks i ≡ false
    → items_left marks i docs ≡ (i, value_of d) ∷ items_left marks (i + 1) docs
item_taken marks docs i d low here off =
    let a = at_least marks docs i d low in
    let v : value_of (get_or docs i d) ≡ value_of d = ap value_of (sym here) in
    rw (off, v) at a

pub item_passed : (marks : List Bool) (docs : List Doc) (i : ℕ) → i < length docs → is_marked marks i ≡ true
    → items_left marks i docs ≡ items_left marks (i + 1) docs
item_passed marks docs i low on =
    let a = at_least marks docs i doc.Null low in
    rw on at a

pub none_left : (marks : List Bool) (docs : List Doc) (i : ℕ) → length docs ≤ i → items_left marks i docs ≡ []
none_left marks docs i high =
    let e : drop i docs ≡ [] = drop_all i docs high in
    ap (λ ds. filter (λ e. not (is_marked marks e.0)) (indexed_from i (map value_of ds))) e

-- ---- where a cursor begins

unmarked : (marks : List Bool) (i : ℕ) → marks ≡ [] → not (is_marked marks i) ≡ true
unmarked marks i e = ap (λ ms. not (is_marked ms i)) e

all_kept : (marks : List Bool) (es : List (ℕ × Value)) → marks ≡ [] → filter (λ e. not (is_marked marks e.0)) es ≡ es
all_kept marks [] none = refl
all_kept marks (e ∷ es) none =
    let u = unmarked marks e.0 none in
    let r = all_kept marks es none in
    cc

pub all_left : (marks : List Bool) (docs : List Doc) → marks ≡ []
    → items_left marks 0 docs ≡ indexed_from 0 (map value_of docs)
all_left marks docs none = all_kept marks (indexed_from 0 (map value_of docs)) none

-- those below n are the first n
below_next : (n i : ℕ) (vs : List Value) → n ≤ i → filter (λ e. nat_lt e.0 n) (indexed_from i vs) ≡ []
below_next n i [] le = refl
below_next n i (v ∷ vs) le =
    let e : nat_lt i n ≡ false = le-ltb i n le in
    let r = below_next n (suc i) vs (omega arith) in
    cc

first_below : (n m i : ℕ) (vs : List Value) → n ≡ m + i
    → filter (λ e. nat_lt e.0 n) (indexed_from i vs) ≡ indexed_from i (take m vs)
first_below n zero i vs e = below_next n i vs (omega arith)
first_below n (suc m) i [] e = refl
first_below n (suc m) i (v ∷ vs) e =
    let low : i < n = omega arith in
    let t : nat_lt i n ≡ true = lt-ltb i n low in
    let r = first_below n m (suc i) vs (omega arith) in
    cc

pub first_left : (marks : List Bool) (docs firsts : List Doc) (n : ℕ) → marks ≡ [] → firsts ≡ take n docs
    → items_left marks 0 firsts ≡ filter (λ e. nat_lt e.0 n) (indexed_from 0 (map value_of docs))
first_left marks docs firsts n none e =
    all_left marks firsts none ∙ ap (λ ds. indexed_from 0 (map value_of ds)) e ∙ ap (indexed_from 0)
    (sym (take-map value_of n docs)) ∙ sym (first_below n n 0 (map value_of docs) (omega arith))

-- those from n on are behind the first n
all_from : (n i : ℕ) (vs : List Value) → n ≤ i → filter (λ e. nat_le n e.0) (indexed_from i vs) ≡ indexed_from i vs
all_from n i [] le = refl
all_from n i (v ∷ vs) le =
    let t : nat_le n i ≡ true = le-leb n i le in
    let r = all_from n (suc i) vs (omega arith) in
    cc

behind : (n m i : ℕ) (vs : List Value) → n ≡ m + i
    → filter (λ e. nat_le n e.0) (indexed_from i vs) ≡ indexed_from n (drop m vs)
behind n zero i vs e =
    let same : i ≡ n = omega arith in
    all_from n i vs (omega arith) ∙ ap (λ k. indexed_from k vs) same
behind n (suc m) i [] e = refl
behind n (suc m) i (v ∷ vs) e =
    let high : i < n = omega arith in
    let t : nat_le n i ≡ false = lt-leb n i high in
    let r = behind n m (suc i) vs (omega arith) in
    cc

pub from_left : (marks : List Bool) (docs : List Doc) (n : ℕ) → marks ≡ []
    → items_left marks n docs ≡ filter (λ e. nat_le n e.0) (indexed_from 0 (map value_of docs))
from_left marks docs n none =
    all_kept marks (indexed_from n (map value_of (drop n docs))) none
    ∙ ap (indexed_from n) (sym (drop-map value_of n docs)) ∙ sym (behind n n 0 (map value_of docs) (omega arith))

-- the marks say of each item what the list of indexes does
marked_as : (marks : List Bool) (count : ℕ) (indexes : List ℕ) (i : ℕ) (vs : List Value) → AreMarked marks count indexes
    → length vs + i ≤ count
    → filter (λ e. not (is_marked marks e.0)) (indexed_from i vs)
    ≡ filter (λ e. not (among_indexes e.0 indexes)) (indexed_from i vs)
marked_as marks count indexes i [] are few = refl
marked_as marks count indexes i (v ∷ vs) are few =
    let t : not (is_marked marks i) ≡ not (among_indexes i indexes) = ap not (are i (omega arith)) in
    let r = marked_as marks count indexes (suc i) vs are (omega arith) in
    cc

pub except_left : (marks : List Bool) (docs : List Doc) (count : ℕ) (indexes : List ℕ) → count ≡ length docs
    → AreMarked marks count indexes
    → items_left marks 0 docs ≡ filter (λ e. not (among_indexes e.0 indexes)) (indexed_from 0 (map value_of docs))
except_left marks docs count indexes many are =
    let l : length (map value_of docs) ≡ length docs = length-map docs value_of in
    marked_as marks count indexes 0 (map value_of docs) are (omega arith)

or_none : (b : Bool) → b || false ≡ b
or_none true = refl
or_none false = refl

or_one : (b : Bool) → b || true ≡ true
or_one true = refl
or_one false = refl

marked_at : (old : List Bool) (count : ℕ) (indexes : List ℕ) (j i : ℕ) (b : Bool) → (i == j) ≡ b → length old ≡ count
    → j < count → is_marked old i ≡ among_indexes i indexes
    → is_marked (set old j true) i ≡ among_indexes i indexes || (b || false)
marked_at old count indexes j i true e len low h = get_or-set_at old j i true false (eqb-true i j e) (omega arith)
    ∙ sym (or_one (among_indexes i indexes))
marked_at old count indexes j i false e len low h = get_or-set_other old j i true false (eqb-false i j e) ∙ h
    ∙ sym (or_none (among_indexes i indexes))

-- one mark more
pub mark_more : (old new : List Bool) (count : ℕ) (indexes more : List ℕ) (j : ℕ) → length old ≡ count → j < count
    → new ≡ set old j true → more ≡ indexes ++ j ∷ []
    → AreMarked old count indexes → AreMarked new count more
mark_more old new count indexes more j len low put grown are = λ i h.
    ap (λ ms. is_marked ms i) put ∙ marked_at old count indexes j i (i == j) refl len low (are i h)
    ∙ sym (ap (among_indexes i) grown ∙ list_any-append (λ k. i == k) indexes (j ∷ []))

-- an index beyond the marks sets none
pub mark_none : (marks : List Bool) (count : ℕ) (indexes more : List ℕ) (j : ℕ) → count ≤ j → more ≡ indexes ++ j ∷ []
    → AreMarked marks count indexes → AreMarked marks count more
mark_none marks count indexes more j high grown are = λ i h.
    let apart : (i == j) ≡ false = ne_eqb i j (λ e. omega arith) in
    are i h ∙ sym (ap (among_indexes i) grown ∙ list_any-append (λ k. i == k) indexes (j ∷ [])
    ∙ ap (λ b. among_indexes i indexes || (b || false)) apart ∙ or_none (among_indexes i indexes))
