-- Where each member is passed over, none is chosen.
use Rattle.std.proofs.Common.{◌≡◌, ◌||◌, ◌<◌, ℕ, zero, suc, Bool, true, false, not, List, [], ◌∷◌, ◌++◌, Option, Some}
use Rattle.std.proofs.Common.{Ordering, Less, Equal, Greater, Bor}
use Rattle.std.proofs.Common.{filter, length, get_or, map, refl, sym, ap, ◌∙◌, arith}
use Rattle.std.specs.Prelude.{codes, is_some, slice_get}
use Rattle.std.specs.List.{flat_map, list_all, list_any}
use Rattle.std.specs.Option.{option_map_or}
use Rattle.std.specs.Ordering.{match_ordering}
use Rattle.std.specs.Str.{bytes_eq}
use Rattle.std.proofs.lemmas.Bool.{and_parts}
use Rattle.std.proofs.lemmas.Slice.Eq.{bytes_eq-Decides}
use Rattle.js_assert.specs.Argument.{entries, has}
use Rattle.js_assert.specs.Pattern.{matches}
use Rattle.js_doc.specs.Members.{get, name_cmp}
use Rattle.js_doc.specs.Value.{Value, Named}
use Rattle.js_doc.proofs.FiniteMaps.{get_here}
use Rattle.js_eval.specs.Applications.{among_names, is_property, matches_pattern}
use Rattle.js_eval.specs.code.Cursors.{is_named, named_in}
use Rattle.js_eval.specs.SchemaSet.{Text}
use Rattle.js_eval.specs.Seen.{texts_of}
use Rattle.js_eval.proofs.Lists.{all_more}
use Rattle.js_eval.proofs.Started.{is_property_by}

kept_at : {X : Type 0} (b : Bool) (t : X → Bool) (x : X) (xs : List X) → t x ≡ b → not (t x) ≡ true → filter t xs ≡ []
    → filter t (x ∷ xs) ≡ []
kept_at true t x xs e h r = absurd (let f : not (t x) ≡ false = ap not e in cc)
kept_at false t x xs e h r = cc

-- the test fails of each
pub none_kept : {X : Type 0} (t : X → Bool) (xs : List X) → list_all (λ x. not (t x)) xs ≡ true → filter t xs ≡ []
none_kept t [] h = refl
none_kept t (x ∷ xs) h =
    let p = and_parts _ _ h in
    kept_at (t x) t x xs refl p.0 (none_kept t xs p.1)

-- each passes the first of two tests, of which the chosen pass neither
pub none_but : {X : Type 0} (a b : X → Bool) (xs : List X) → list_all a xs ≡ true
    → filter (λ x. not (a x || b x)) xs ≡ []
none_but a b [] h = refl
none_but a b (x ∷ xs) h =
    let p = and_parts _ _ h in
    let e : a x ≡ true = p.0 in
    let r = none_but a b xs p.1 in
    cc

-- or the only one
pub none_except : {X : Type 0} (a : X → Bool) (xs : List X) → list_all a xs ≡ true → filter (λ x. not (a x)) xs ≡ []
none_except a [] h = refl
none_except a (x ∷ xs) h =
    let p = and_parts _ _ h in
    let e : a x ≡ true = p.0 in
    let r = none_except a xs p.1 in
    cc

-- no member is additional
pub none_additional : (o : Option (Bor Named)) (schema ms : Named) → named_in o ≡ option_map_or entries (get
    (codes "properties") schema) [] → list_all (λ (m : List ℕ × Value). is_named o m.0) ms ≡ true
    → filter (λ (m : List ℕ × Value). not (is_property schema m.0 || matches_pattern schema m.0)) ms ≡ []
none_additional o schema ms e h =
    none_but (λ (m : List ℕ × Value). is_property schema m.0) (λ m. matches_pattern schema m.0) ms
    (all_more (λ (m : List ℕ × Value). is_named o m.0) (λ m. is_property schema m.0)
    (λ m t. sym (is_property_by o schema m.0 e) ∙ t) ms h)

-- no pattern matches the name of a member
pub none_matched : {A : Type 0} (f : List ℕ × Value → List ℕ × Value → A) (ms ps : Named)
    → list_all (λ (p : List ℕ × Value). list_all (λ (m : List ℕ × Value). not (matches p.0 m.0)) ms) ps ≡ true
    → flat_map (λ (p : List ℕ × Value). map (f p) (filter (λ (m : List ℕ × Value). matches p.0 m.0) ms)) ps ≡ []
none_matched f ms [] h = refl
none_matched f ms (p ∷ ps) h =
    let q = and_parts _ _ h in
    let matched = λ (p m : List ℕ × Value). matches p.0 m.0 in
    let e : filter (matched p) ms ≡ [] = none_kept (matched p) ms q.0 in
    let r = none_matched f ms ps q.1 in
    ap (λ xs. map (f p) xs ++ flat_map (λ (p : List ℕ × Value). map (f p) (filter (matched p) ms)) ps) e ∙ r

or_true : (b : Bool) → (b || true) ≡ true
or_true true = refl
or_true false = refl

-- the name at an index is among them
pub among_at : (names : List (Bor Text)) (i : ℕ) (d : Bor Text) (name : Text) → i < length names
    → bytes_eq name (get_or names i d).now ≡ true → among_names name (texts_of names) ≡ true
among_at [] i d name l h = absurd (omega arith)
among_at (y ∷ ys) zero d name l h = ap (λ b. b || list_any (bytes_eq name) (texts_of ys)) h
among_at (y ∷ ys) (suc i) d name l h =
    ap (λ b. bytes_eq name y.now || b) (among_at ys i d name (omega arith) h) ∙ or_true (bytes_eq name y.now)

-- ---- a name that stands at a rank

later : (o : Ordering) (found : Option Value) (v : Value) → is_some found ≡ true
    → is_some (match_ordering o found (Some v) found) ≡ true
later Less found v h = h
later Equal found v h = refl
later Greater found v h = h

stands : (ms : Named) (r : ℕ) (k : List ℕ) (v : Value) → slice_get ms r ≡ Some (k, v) → has k ms ≡ true
stands [] r k v e = absurd (cc)
stands (m ∷ ms) zero k v e =
    let same : m ≡ (k, v) = cc in
    ap (λ x. has k (x ∷ ms)) same ∙ ap is_some (get_here k v ms)
stands (m ∷ ms) (suc r) k v e = later (name_cmp k m.0) (get k ms) m.1 (stands ms r k v e)

pub named_at_rank : (ms : Named) (r : ℕ) (name other : List ℕ) (v : Value) → Some (other, v) ≡ slice_get ms r
    → bytes_eq name other ≡ true → has name ms ≡ true
named_at_rank ms r name other v e b =
    ap (λ k. has k ms) ((bytes_eq-Decides name other).0 b) ∙ stands ms r other v (sym e)
