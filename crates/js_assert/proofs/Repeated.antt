-- The texts of the items behind one, and what they say of equal items.
use Rattle.std.proofs.Common.{◌≡◌, ℕ, ◌+◌, ◌<◌, List, [], ◌∷◌, Bool, true, false, ◌||◌, cond, Some, None, String}
use Rattle.std.proofs.Common.{Global, string_bytes, map, length, get_or, drop, refl, sym, ap, ap₂, ◌∙◌}
use Rattle.std.proofs.lemmas.List.{drop_more}
use Rattle.std.specs.Cmp.Lexicographic.{slice_cmp, texts_ties, nat_list_eq_equiv}
use Rattle.std.specs.List.{list_any}
use Rattle.std.specs.Ordering.{is_eq, nat_cmp}
use Rattle.std.specs.Str.{bytes_eq}
use Rattle.js_doc.specs.Compact.{compact}
use Rattle.js_doc.specs.Equality.{same, same-sound}
use Rattle.js_doc.specs.Seen.{value_of}
use Rattle.js_doc.specs.Value.{Value}
use Rattle.js_doc.specs.declared.doc.Doc.{Doc}
use Rattle.js_assert.specs.Arrays.{first_equal, pair_or, equal_pair}

abbrev pub Keys : Type 0
Keys = List (String Global)

abbrev pub is_key : Keys → List ℕ → Bool
is_key keys s = list_any (λ k. is_eq (slice_cmp nat_cmp s (string_bytes k))) keys

abbrev pub is_text : List Doc → List ℕ → Bool
is_text ds s = list_any (λ d. bytes_eq s (compact (value_of d))) ds

-- the keys are the documents' texts
abbrev pub HasTexts : Keys → List Doc → Type 0
HasTexts keys ds = (q : String Global) → is_key keys (string_bytes q) ≡ is_text ds (string_bytes q)

first_or : (b a : Bool) → cond b true a ≡ b || a
first_or true a = refl
first_or false a = refl

put_text : (old new : Keys) (d : Doc) (ds : List Doc) (k : String Global) → HasTexts old ds
    → string_bytes k ≡ compact (value_of d)
    → ((q : String Global) → is_key new (string_bytes q)
    ≡ cond (is_eq (slice_cmp nat_cmp (string_bytes k) (string_bytes q))) true (is_key old (string_bytes q)))
    → HasTexts new (d ∷ ds)
put_text old new d ds k texts is updates = λ q.
    let tie : is_eq (slice_cmp nat_cmp (string_bytes k) (string_bytes q))
    ≡ bytes_eq (string_bytes q) (compact (value_of d)) =
    sym (texts_ties (string_bytes k) (string_bytes q)) ∙ nat_list_eq_equiv.symm (string_bytes k) (string_bytes q)
    ∙ ap (bytes_eq (string_bytes q)) is in
    updates q ∙ ap₂ (λ b a. cond b true a) tie (texts q)
    ∙ first_or (bytes_eq (string_bytes q) (compact (value_of d))) (is_text ds (string_bytes q))

-- one document more in front
pub texts_more : (old new : Keys) (ds : List Doc) (i j : ℕ) (d : Doc) (k : String Global) → i + 1 ≡ j → i < length ds
    → d ≡ get_or ds i d → HasTexts old (drop j ds) → string_bytes k ≡ compact (value_of d)
    → ((q : String Global) → is_key new (string_bytes q)
    ≡ cond (is_eq (slice_cmp nat_cmp (string_bytes k) (string_bytes q))) true (is_key old (string_bytes q)))
    → HasTexts new (drop i ds)
texts_more old new ds i j d k next low here texts is updates = λ q.
    let first : drop i ds ≡ d ∷ drop j ds = drop_more ds i d low
    ∙ ap₂ (λ e rest. e ∷ rest) (sym here) (ap (λ n. drop n ds) next) in
    put_text old new d (drop j ds) k texts is updates q ∙ sym (ap (λ es. is_text es (string_bytes q)) first)

neither : (a b : Bool) → a || b ≡ false → (a ≡ false) × (b ≡ false)
neither false b e = (refl, e)
neither true b e = absurd (cc)

unlike : (v w : Value) (b : Bool) → same v w ≡ b → bytes_eq (compact v) (compact w) ≡ false → b ≡ false
unlike v w false e h = refl
unlike v w true e h =
    let alike : bytes_eq (compact v) (compact w) ≡ true = ap (λ u. bytes_eq (compact v) (compact u))
    (sym (same-sound v w e)) ∙ nat_list_eq_equiv.refl (compact v) in absurd (cc (alike, h))

-- no document with another text is equal
none_equal : (v : Value) (n : ℕ) (ds : List Doc) → is_text ds (compact v) ≡ false
    → first_equal v n (map value_of ds) ≡ None
none_equal v n [] h = refl
none_equal v n (d ∷ ds) h =
    let apart = neither (bytes_eq (compact v) (compact (value_of d))) (is_text ds (compact v)) h in
    ap (λ b. cond b (Some n) (first_equal v (n + 1) (map value_of ds)))
    (unlike v (value_of d) (same v (value_of d)) refl apart.0) ∙ none_equal v (n + 1) ds apart.1

-- a document whose text stands nowhere behind it begins no pair
pub skipped : (ds : List Doc) (i j : ℕ) (d : Doc) → i + 1 ≡ j → i < length ds → d ≡ get_or ds i d
    → is_text (drop j ds) (compact (value_of d)) ≡ false
    → equal_pair i (map value_of (drop i ds)) ≡ equal_pair j (map value_of (drop j ds))
skipped ds i j d next low here new =
    let first : drop i ds ≡ d ∷ drop (i + 1) ds = drop_more ds i d low ∙ ap (λ e. e ∷ drop (i + 1) ds) (sym here) in
    let later = ap (λ n. drop n ds) next in
    let none : first_equal (value_of d) (i + 1) (map value_of (drop (i + 1) ds)) ≡ None = ap (λ es.
    first_equal (value_of d) (i + 1) (map value_of es)) later ∙ none_equal (value_of d) (i + 1) (drop j ds) new in
    ap (λ es. equal_pair i (map value_of es)) first ∙ ap (λ o. pair_or i o (equal_pair (i + 1)
    (map value_of (drop (i + 1) ds)))) none ∙ ap (λ n. equal_pair n (map value_of (drop n ds))) next
