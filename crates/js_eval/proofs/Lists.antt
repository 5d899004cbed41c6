-- Two functions that agree wherever a test holds give the same over a list of which each element passes the test.
use Rattle.std.specs.Prelude.{◌≡◌, ℕ, Bool, true, false, ◌&&◌, cond, List, [], ◌∷◌, Some, map, filter, refl}
use Rattle.std.specs.List.{list_all, flat_map}
use Rattle.std.specs.Ordering.{match_ordering, is_eq}
use Rattle.std.specs.declared.cmp.Ordering.{Ordering}
use Rattle.std.specs.declared.cmp.Ordering.TheVariants.{Less, Equal, Greater}
use Rattle.std.specs.Str.{bytes_eq}
use Rattle.std.proofs.Common.{sym, ◌∙◌, ap}
use Rattle.std.proofs.lemmas.Bool.{and_parts}
use Rattle.std.proofs.lemmas.Map.Text.{is_eq-slice_cmp}
use Rattle.std.proofs.lemmas.Slice.Eq.{bytes_eq-Decides}
use Rattle.js_doc.specs.Value.{Value, Named}
use Rattle.js_doc.specs.Members.{get, name_cmp}

pub and_true : {b c : Bool} → b ≡ true → c ≡ true → (b && c) ≡ true
and_true p q = cc

pub and_same : {b c d e : Bool} → b ≡ d → c ≡ e → (b && c) ≡ (d && e)
and_same p q = cc

module _ {X : Type 0} (s : X → Bool) where
  pub all_more : (q : X → Bool) → ((x : X) → s x ≡ true → q x ≡ true) → (xs : List X)
      → list_all s xs ≡ true → list_all q xs ≡ true
  all_more q more [] h = refl
  all_more q more (x ∷ xs) h = let p = and_parts _ _ h in and_true (more x p.0) (all_more q more xs p.1)

  pub all_same : (f g : X → Bool) → ((x : X) → s x ≡ true → f x ≡ g x) → (xs : List X) → list_all s xs ≡ true
      → list_all f xs ≡ list_all g xs
  all_same f g same [] h = refl
  all_same f g same (x ∷ xs) h = let p = and_parts _ _ h in and_same (same x p.0) (all_same f g same xs p.1)

  pub map_same : {A : Type 0} (f g : X → A) → ((x : X) → s x ≡ true → f x ≡ g x) → (xs : List X)
      → list_all s xs ≡ true → map f xs ≡ map g xs
  map_same f g same [] h = refl
  map_same f g same (x ∷ xs) h =
      let p = and_parts _ _ h in let e = same x p.0 in let r = map_same f g same xs p.1 in cc

  pub filter_same : (f g : X → Bool) → ((x : X) → s x ≡ true → f x ≡ g x) → (xs : List X) → list_all s xs ≡ true
      → filter f xs ≡ filter g xs
  filter_same f g same [] h = refl
  filter_same f g same (x ∷ xs) h =
      let p = and_parts _ _ h in
      let e = same x p.0 in
      let r = filter_same f g same xs p.1 in cc

  pub flat_map_same : {A : Type 0} (f g : X → List A) → ((x : X) → s x ≡ true → f x ≡ g x) → (xs : List X)
      → list_all s xs ≡ true → flat_map f xs ≡ flat_map g xs
  flat_map_same f g same [] h = refl
  flat_map_same f g same (x ∷ xs) h =
      let p = and_parts _ _ h in let e = same x p.0 in let r = flat_map_same f g same xs p.1 in cc

  -- those that pass a second test pass both
  filtered_at : (p : X → Bool) (b : Bool) (x : X) (xs : List X) → p x ≡ b → s x ≡ true
      → list_all (λ y. s y && p y) xs ≡ true → list_all (λ y. s y && p y) (cond b (x ∷ xs) xs) ≡ true
  filtered_at p true x xs e h r = and_true (and_true h e) r
  filtered_at p false x xs e h r = r

  pub all_filtered : (p : X → Bool) (xs : List X) → list_all s xs ≡ true
      → list_all (λ y. s y && p y) (filter p xs) ≡ true
  all_filtered p [] h = refl
  all_filtered p (x ∷ xs) h = let q = and_parts _ _ h in
      filtered_at p (p x) x (filter p xs) refl q.0 (all_filtered p xs q.1)

-- ---- a member that is found

kept_at : (f p : List ℕ × Value → Bool) (m : List ℕ × Value) (ms : Named) (b : Bool) → p m ≡ b
    → list_all f (cond b (m ∷ ms) ms) ≡ true → (p m ≡ true → f m ≡ true) × (list_all f ms ≡ true)
kept_at f p m ms true e h = let q = and_parts _ _ h in (λ _. q.0, q.1)
kept_at f p m ms false e h = (λ t. absurd (let x : false ≡ true = sym e ∙ t in cc), h)

moved_to : (f : List ℕ × Value → Bool) (name other : List ℕ) (u y : Value) → name ≡ other → u ≡ y
    → f (other, u) ≡ true → f (name, y) ≡ true
moved_to f name other u y e g h = ap (λ n. f (n, y)) e ∙ ap (λ v. f (other, v)) (sym g) ∙ h

found_at : (f p : List ℕ × Value → Bool) (name : List ℕ) (m : List ℕ × Value) (ms : Named) (y : Value) (o : Ordering)
    → name_cmp name m.0 ≡ o → match_ordering o (get name ms) (Some m.1) (get name ms) ≡ Some y
    → (p m ≡ true → f m ≡ true) → (get name ms ≡ Some y → f (name, y) ≡ true) → p (name, y) ≡ true → f (name, y) ≡ true
found_at f p name m ms y Less e h here later t = later h
found_at f p name m ms y Greater e h here later t = later h
found_at f p name m ms y Equal e h here later t =
    let b : bytes_eq name m.0 ≡ true = sym (is_eq-slice_cmp name m.0) ∙ ap is_eq e in
    let same : name ≡ m.0 = (bytes_eq-Decides name m.0).0 b in
    let that : m.1 ≡ y = cc in
    moved_to f name m.0 m.1 y same that (here (moved_to p m.0 name y m.1 (sym same) (sym that) t))

-- a member that is found passes what each of the chosen passes, if it is one of them
pub found : (f p : List ℕ × Value → Bool) (name : List ℕ) (ms : Named) (y : Value) → get name ms ≡ Some y
    → list_all f (filter p ms) ≡ true → p (name, y) ≡ true → f (name, y) ≡ true
found f p name [] y e h t = cc
found f p name (m ∷ ms) y e h t =
    let k = kept_at f p m (filter p ms) (p m) refl h in
    found_at f p name m ms y (name_cmp name m.0) refl e k.0 (λ r. found f p name ms y r k.1 t) t
