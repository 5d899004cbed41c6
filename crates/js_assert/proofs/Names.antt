-- Names that were seen, one name further.
use Rattle.std.proofs.Common.{◌≡◌, ℕ, ◌+◌, ◌<◌, List, [], ◌∷◌, ◌++◌, Bool, true, false, ◌||◌, cond, Bor}
use Rattle.std.proofs.Common.{map, length, get_or, take, drop, refl, sym, ap, ap₂, ◌∙◌}
use Rattle.std.proofs.lemmas.List.{drop_more, take_more, map-append}
use Rattle.std.proofs.lemmas.List.Folds.{list_any-append}
use Rattle.std.specs.Cmp.Lexicographic.{slice_cmp, texts_ties, nat_list_eq_equiv}
use Rattle.std.specs.List.{list_any}
use Rattle.std.specs.Ordering.{is_eq, nat_cmp}
use Rattle.std.specs.Str.{bytes_eq}
use Rattle.js_doc.specs.Seen.{value_of}
use Rattle.js_doc.specs.Value.{Value, text}
use Rattle.js_doc.specs.declared.doc.Doc.{Doc}
use Rattle.js_assert.specs.ArgumentShape.{are_new_names}

abbrev pub Texts : Type 0
Texts = List (Bor (List ℕ))

abbrev pub is_key : Texts → List ℕ → Bool
is_key keys s = list_any (λ k. is_eq (slice_cmp nat_cmp s k.now)) keys

-- the keys are the names that were seen
abbrev pub HasSeen : Texts → List (List ℕ) → Type 0
HasSeen keys names = (q : Bor (List ℕ)) → is_key keys q.now ≡ list_any (bytes_eq q.now) names

last_or : (b a : Bool) → cond b true a ≡ a || (b || false)
last_or true true = refl
last_or true false = refl
last_or false true = refl
last_or false false = refl

pub seen_more : (old new : Texts) (names : List (List ℕ)) (k : Bor (List ℕ)) → HasSeen old names
    → ((q : Bor (List ℕ)) → is_key new q.now ≡ cond (is_eq (slice_cmp nat_cmp k.now q.now)) true (is_key old q.now))
    → HasSeen new (names ++ k.now ∷ [])
seen_more old new names k seen updates = λ q.
    let tie : is_eq (slice_cmp nat_cmp k.now q.now) ≡ bytes_eq q.now k.now = sym (texts_ties k.now q.now)
    ∙ nat_list_eq_equiv.symm k.now q.now in
    updates q ∙ ap₂ (λ b a. cond b true a) tie (seen q) ∙ last_or (bytes_eq q.now k.now)
    (list_any (bytes_eq q.now) names) ∙ sym (list_any-append (bytes_eq q.now) names (k.now ∷ []))

first_is : (names : List (List ℕ)) (v : Value) (vs : List Value) (name : List ℕ) → v ≡ text name
    → list_any (bytes_eq name) names ≡ false
    → are_new_names names (v ∷ vs) ≡ are_new_names (names ++ name ∷ []) vs
first_is names v vs name e fresh = rw (e, fresh)

pub names_more : (names : List (List ℕ)) (ds : List Doc) (i : ℕ) (d : Doc) (name : List ℕ) → i < length ds
    → d ≡ get_or ds i d → value_of d ≡ text name → list_any (bytes_eq name) names ≡ false
    → are_new_names names (map value_of (drop i ds))
    ≡ are_new_names (names ++ name ∷ []) (map value_of (drop (i + 1) ds))
names_more names ds i d name low here e fresh =
    ap (λ xs. are_new_names names (map value_of xs)) (drop_more ds i d low)
    ∙ first_is names (value_of (get_or ds i d)) (map value_of (drop (i + 1) ds)) name (ap value_of (sym here) ∙ e) fresh

pub read_more : (names : List (List ℕ)) (ds : List Doc) (i : ℕ) (d : Doc) (name : List ℕ) → i < length ds
    → d ≡ get_or ds i d → value_of d ≡ text name → map value_of (take i ds) ≡ map text names
    → map value_of (take (i + 1) ds) ≡ map text (names ++ name ∷ [])
read_more names ds i d name low here e read =
    ap (map value_of) (take_more ds i d low) ∙ map-append value_of (take i ds) (get_or ds i d ∷ [])
    ∙ ap₂ (λ vs v. vs ++ v ∷ []) read (ap value_of (sym here) ∙ e)
    ∙ sym (map-append text names (name ∷ []))
