-- Those that a keyword asks for of a value's items are all of them exactly where they are as many.
use Rattle.std.specs.Prelude.{◌≡◌, ℕ, suc, ◌==◌, ◌<◌, ◌≤◌, ◌||◌, Bool, true, false, ◌&&◌, cond}
use Rattle.std.specs.Prelude.{List, [], ◌∷◌, map, filter, length, refl}
use Rattle.std.specs.List.{list_all}
use Rattle.std.proofs.Common.{sym, ◌∙◌, ap, arith}
use Rattle.std.proofs.lemmas.Bool.{ne_eqb}
use Rattle.std.proofs.lemmas.Bool.Decides.{nat_tests}
use Rattle.js_doc.specs.Value.{Value}
use Rattle.js_assert.specs.Argument.{values}
use Rattle.js_eval.specs.Applications.{Application, among_indexes, indexed, indexed_from}
use Rattle.js_eval.specs.Evaluated.{index_in_step, indexes_applied}
use Rattle.js_eval.specs.Laws.{is_every_item, are_each_among}
use Rattle.js_eval.specs.Note.{are_all_items}
use Rattle.js_eval.proofs.Lists.{and_same}

abbrev positions_of : List (ℕ × Value) → List ℕ
positions_of es = map (λ e. e.0) es

-- ---- what is applied to items, by their indexes

module _ {P : Type 0} (f : ℕ × Value → Application P) (at : (e : ℕ × Value) → index_in_step (f e).at ≡ e.0 ∷ []) where
  pub applied_to : (es : List (ℕ × Value)) → indexes_applied (map f es) ≡ positions_of es
  applied_to [] = refl
  applied_to (e ∷ es) = let a = at e in let r = applied_to es in cc

  holding_at : (b : Bool) (e : ℕ × Value) (apps : List (Application P)) (es : List (ℕ × Value))
      → indexes_applied apps ≡ positions_of es
      → indexes_applied (cond b (f e ∷ apps) apps) ≡ positions_of (cond b (e ∷ es) es)
  holding_at true e apps es r = let a = at e in cc
  holding_at false e apps es r = r

  pub holding_to : (h : Application P → Bool) (es : List (ℕ × Value))
      → indexes_applied (filter h (map f es)) ≡ positions_of (filter (λ e. h (f e)) es)
  holding_to h [] = refl
  holding_to h (e ∷ es) = holding_at (h (f e)) e (filter h (map f es)) (filter (λ e. h (f e)) es) (holding_to h es)

-- ---- those that pass a test are as many as all exactly where all pass it

suc_same : (m n : ℕ) → (suc m == suc n) ≡ (m == n)
suc_same m n = grind (arith, nat_tests)

module _ (p : ℕ × Value → Bool) where
  fewer_at : (b : Bool) (e : ℕ × Value) (es : List (ℕ × Value)) → length (positions_of (filter p es)) ≤ length es
      → length (positions_of (cond b (e ∷ filter p es) (filter p es))) ≤ length (e ∷ es)
  fewer_at true e es h = omega (arith, h)
  fewer_at false e es h = omega (arith, h)

  fewer : (es : List (ℕ × Value)) → length (positions_of (filter p es)) ≤ length es
  fewer [] = omega arith
  fewer (e ∷ es) = fewer_at (p e) e es (fewer es)

  as_many_at : (b : Bool) (e : ℕ × Value) (es : List (ℕ × Value))
      → (length (positions_of (filter p es)) == length es) ≡ list_all p es
      → (length (positions_of (cond b (e ∷ filter p es) (filter p es))) == length (e ∷ es)) ≡ (b && list_all p es)
  as_many_at true e es h = suc_same (length (positions_of (filter p es))) (length es) ∙ h
  as_many_at false e es h =
      let l = fewer es in
      let n : (length (positions_of (filter p es)) == suc (length es))
      ≡ false = ne_eqb _ _ (λ e. omega (arith, l, e)) in
      n

  as_many : (es : List (ℕ × Value)) → (length (positions_of (filter p es)) == length es) ≡ list_all p es
  as_many [] = refl
  as_many (e ∷ es) = as_many_at (p e) e es (as_many es)

  -- ---- and all are among them exactly there

  above_at : (b : Bool) (m i : ℕ) (v : Value) (es : List (ℕ × Value)) → (m == i) ≡ false
      → among_indexes m (positions_of es) ≡ false → among_indexes m (positions_of (cond b ((i, v) ∷ es) es)) ≡ false
  above_at true m i v es n r = ap (λ b. b || among_indexes m (positions_of es)) n ∙ r
  above_at false m i v es n r = r

  above : (m i : ℕ) (vs : List Value) → m < i → among_indexes m (positions_of (filter p (indexed_from i vs))) ≡ false
  above m i [] h = refl
  above m i (v ∷ vs) h = above_at (p (i, v)) m i v (filter p (indexed_from (suc i) vs))
      (ne_eqb m i (λ e. omega (arith, h, e))) (above m (suc i) vs (omega (arith, h)))

  one_less : (m i : ℕ) (vs : List Value) (ns : List ℕ) → m < i → list_all (λ e. among_indexes e.0 (m ∷ ns))
      (indexed_from i vs) ≡ list_all (λ e. among_indexes e.0 ns) (indexed_from i vs)
  one_less m i [] ns h = refl
  one_less m i (v ∷ vs) ns h =
      let n : (i == m) ≡ false = ne_eqb i m (λ e. omega (arith, h, e)) in
      and_same (ap (λ b. b || among_indexes i ns) n) (one_less m (suc i) vs ns (omega (arith, h)))

  each_at : (b : Bool) (i : ℕ) (v : Value) (vs : List Value)
      → list_all (λ e. among_indexes e.0 (positions_of (filter p (indexed_from (suc i) vs))))
      (indexed_from (suc i) vs) ≡ list_all p (indexed_from (suc i) vs)
      → list_all (λ e. among_indexes e.0 (positions_of (cond b ((i, v) ∷ filter p (indexed_from (suc i) vs)) (filter p
      (indexed_from (suc i) vs))))) ((i, v) ∷ indexed_from (suc i) vs) ≡ (b && list_all p (indexed_from (suc i) vs))
  each_at true i v vs r =
      let ns = positions_of (filter p (indexed_from (suc i) vs)) in
      let s : (i == i) ≡ true = grind (arith, nat_tests) in
      and_same (ap (λ b. b || among_indexes i ns) s) (one_less i (suc i) vs ns (omega arith) ∙ r)
  each_at false i v vs r =
      let ns = positions_of (filter p (indexed_from (suc i) vs)) in
      ap (λ b. b && list_all (λ e. among_indexes e.0 ns) (indexed_from (suc i) vs)) (above i (suc i) vs (omega arith))

  each : (i : ℕ) (vs : List Value) → list_all (λ e. among_indexes e.0 (positions_of (filter p (indexed_from i vs))))
      (indexed_from i vs) ≡ list_all p (indexed_from i vs)
  each i [] = refl
  each i (v ∷ vs) = each_at (p (i, v)) i v vs (each (suc i) vs)

-- ---- both together

length_indexed : (i : ℕ) (vs : List Value) → length (indexed_from i vs) ≡ length vs
length_indexed i [] = refl
length_indexed i (v ∷ vs) = ap suc (length_indexed (suc i) vs)

reported_by : (v : Value) (n : ℕ) (ns : List ℕ) (b : Bool) → length (values v) ≡ suc n → (length ns == suc n) ≡ b
    → are_all_items v ns ≡ b
reported_by v n [] b e h = sym (ne_eqb 0 (suc n) (λ e. omega (arith, e))) ∙ h
reported_by v n (i ∷ is) b e h = ap (λ m. length (i ∷ is) == m) e ∙ h

by_number : (p : ℕ × Value → Bool) (v : Value) (vs : List Value) → values v ≡ vs
    → are_all_items v (positions_of (filter p (indexed_from 0 vs)))
    ≡ are_each_among (indexed_from 0 vs) (positions_of (filter p (indexed_from 0 vs)))
by_number p v [] e = refl
by_number p v (x ∷ xs) e =
    reported_by v (length (indexed_from 1 xs)) (positions_of (filter p (indexed_from 0 (x ∷ xs))))
    (list_all p (indexed_from 0 (x ∷ xs)))
    (ap length e ∙ sym (length_indexed 0 (x ∷ xs))) (as_many p (indexed_from 0 (x ∷ xs)))
    ∙ sym (each p 0 (x ∷ xs))

pub of_items : (p : ℕ × Value → Bool) (v : Value) (ns : List ℕ) → ns ≡ positions_of (filter p (indexed v))
    → are_all_items v ns ≡ is_every_item v ns
of_items p v ns e = ap (are_all_items v) e ∙ (by_number p v (values v) refl ∙ sym (ap (is_every_item v) e))
