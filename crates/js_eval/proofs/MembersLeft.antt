-- The members that a cursor has left, where it begins.
use Rattle.std.proofs.Common.{◌≡◌, ℕ, Bool, true, false, not, ◌||◌, cond, List, [], ◌∷◌, ◌++◌, ◌+◌, ◌<◌}
use Rattle.std.proofs.Common.{length, get_or, Bor, filter, take, refl, sym, ap, ap₂, ◌∙◌}
use Rattle.std.proofs.lemmas.List.{take_more, map-append}
use Rattle.std.proofs.lemmas.List.Folds.{list_any-append}
use Rattle.std.specs.Cmp.Lexicographic.{slice_cmp, texts_ties, nat_list_eq_equiv}
use Rattle.std.specs.List.{list_any}
use Rattle.std.specs.Ordering.{is_eq, nat_cmp}
use Rattle.std.specs.Str.{bytes_eq}
use Rattle.js_doc.specs.Value.{Value, Named}
use Rattle.js_eval.specs.Applications.{among_names}
use Rattle.js_eval.specs.code.Cursors.{HasNames, is_among_keys}
use Rattle.js_eval.specs.SchemaSet.{Text}
use Rattle.js_eval.specs.Seen.{texts_of}

-- where every member is chosen
pub all_chosen : (ms : Named) → filter (λ m. true) ms ≡ ms
all_chosen [] = refl
all_chosen (m ∷ ms) = ap (λ xs. m ∷ xs) (all_chosen ms)

-- two tests that agree choose alike
pub filter_alike : {X : Type 0} (t u : X → Bool) → ((x : X) → t x ≡ u x) → (xs : List X) → filter t xs ≡ filter u xs
filter_alike t u same [] = refl
filter_alike t u same (x ∷ xs) =
    let e = same x in
    let r = filter_alike t u same xs in
    cc

-- those that aren't in the set are those that aren't among the names
pub except_names : (keys : List (Bor Text)) (names : List Text) (ms : Named) → HasNames keys names
    → filter (λ m. not (is_among_keys keys m.0)) ms ≡ filter (λ m. not (among_names m.0 names)) ms
except_names keys names ms has = filter_alike (λ (m : List ℕ × Value). not (is_among_keys keys m.0))
    (λ m. not (among_names m.0 names)) (λ m. ap not (has m.0)) ms

-- the names that are in the set are those that are among the names
pub names_by_set : (keys : List (Bor Text)) (names : List Text) (all found : List Text) → HasNames keys names
    → found ≡ filter (λ name. is_among_keys keys name) all → found ≡ filter (λ name. among_names name names) all
names_by_set keys names all found has e = e
    ∙ filter_alike (λ (name : Text). is_among_keys keys name) (λ name. among_names name names) has all

-- ---- a set of names, one name more

last_or : (b a : Bool) → cond b true a ≡ a || (b || false)
last_or true true = refl
last_or true false = refl
last_or false true = refl
last_or false false = refl

lend : Text → Bor Text
lend name = record { ref_ptr = (0, 0); now = name }

pub none_seen : HasNames [] []
unfolding is_among_keys
none_seen = λ name. refl

pub name_more : (old new : List (Bor Text)) (names more : List Text) (k : Text)
    → more ≡ names ++ k ∷ [] → HasNames old names
    → ((q : Bor Text) → list_any (λ x. is_eq (slice_cmp nat_cmp q.now x.now)) new
    ≡ cond (is_eq (slice_cmp nat_cmp k q.now)) true (list_any (λ x. is_eq (slice_cmp nat_cmp q.now x.now)) old))
    → HasNames new more
unfolding is_among_keys lend
name_more old new names more k grown seen updates = λ name.
    let tie : is_eq (slice_cmp nat_cmp k name) ≡ bytes_eq name k = sym (texts_ties k name)
    ∙ nat_list_eq_equiv.symm k name in
    updates (lend name) ∙ ap₂ (λ b a. cond b true a) tie (seen name)
    ∙ last_or (bytes_eq name k) (among_names name names)
    ∙ sym (ap (among_names name) grown ∙ list_any-append (bytes_eq name) names (k ∷ []))

-- the names before one, and it
pub texts_more : (names : List (Bor Text)) (i : ℕ) (d : Bor Text) → i < length names
    → texts_of (take (i + 1) names) ≡ texts_of (take i names) ++ (get_or names i d).now ∷ []
texts_more names i d low = ap texts_of (take_more names i d low)
    ∙ map-append (λ (name : Bor Text). name.now) (take i names) (get_or names i d ∷ [])
