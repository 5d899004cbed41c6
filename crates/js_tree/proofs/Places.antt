-- Places that an order distinguishes: where they are as many as there are, they are all, and no two of all are
-- tied.
use Rattle.std.proofs.Common.{◌≡◌, ◌≢◌, ℕ, zero, suc, ◌≤◌, ◌<◌, ◌==◌, Bool, true, false, ◌||◌}
use Rattle.std.proofs.Common.{if◌then◌else◌, List, [], ◌∷◌, length, refl, ap, sym, ◌∙◌, arith}
use Rattle.std.proofs.lemmas.Cmp.{tied_itself}
use Rattle.std.specs.Cmp.{IsTotalOrder, unsigned_Decides}
use Rattle.std.specs.Ordering.{ordering_reverse}
use Rattle.std.specs.declared.cmp.Ordering.{Ordering}
use Rattle.std.specs.declared.cmp.Ordering.TheVariants.{Less, Equal, Greater}

-- the place is none of these
abbrev IsOut : ℕ → List ℕ → Type 0
IsOut p [] = Unit {0}
IsOut p (q ∷ ps) = (q ≢ p) × IsOut p ps

abbrev AreDistinct : List ℕ → Type 0
AreDistinct [] = Unit {0}
AreDistinct (p ∷ ps) = IsOut p ps × AreDistinct ps

abbrev pub AreBelow : ℕ → List ℕ → Type 0
AreBelow n [] = Unit {0}
AreBelow n (p ∷ ps) = (p < n) × AreBelow n ps

abbrev has : ℕ → List ℕ → Bool
has p [] = false
has p (q ∷ ps) = (q == p) || has p ps

abbrev without : ℕ → List ℕ → List ℕ
without p [] = []
without p (q ∷ ps) = if q == p then without p ps else q ∷ without p ps

equals : (p q : ℕ) → (p == q) ≡ true → p ≡ q
equals p q e = (unsigned_Decides p q).0 e

differs : (p q : ℕ) → (p == q) ≡ false → p ≢ q
differs p q e h = let t : true ≡ false = sym ((unsigned_Decides p q).1 h) ∙ e in absurd cc

-- ---- as many places as there are

without-out : (p : ℕ) (ps : List ℕ) → IsOut p ps → without p ps ≡ ps
without-out p [] o = refl
without-out p (q ∷ ps) o = at (q == p) refl (without-out p ps o.1)
  where
    at : (v : Bool) → (q == p) ≡ v → without p ps ≡ ps → (if v then without p ps else q ∷ without p ps) ≡ q ∷ ps
    at true e i = absurd (o.0 (equals q p e))
    at false e i = ap (λ l. q ∷ l) i

one_fewer : (n : ℕ) (ps : List ℕ) → AreDistinct ps → length ps ≤ suc (length (without n ps))
one_fewer n [] d = omega arith
one_fewer n (p ∷ ps) d = at (p == n) refl (one_fewer n ps d.1)
  where
    at : (v : Bool) → (p == n) ≡ v → length ps ≤ suc (length (without n ps))
        → suc (length ps) ≤ suc (length (if v then without n ps else p ∷ without n ps))
    at true e i =
        let o : without n ps ≡ ps = ap (λ k. without k ps) (sym (equals p n e)) ∙ without-out p ps d.0 in
        let l : length (without n ps) ≡ length ps = ap length o in omega (arith, l)
    at false e i = omega (arith, i)

out-without : (n p : ℕ) (ps : List ℕ) → IsOut p ps → IsOut p (without n ps)
out-without n p [] o = tt
out-without n p (q ∷ ps) o = at (q == n) (out-without n p ps o.1)
  where
    at : (v : Bool) → IsOut p (without n ps) → IsOut p (if v then without n ps else q ∷ without n ps)
    at true i = i
    at false i = (o.0, i)

distinct-without : (n : ℕ) (ps : List ℕ) → AreDistinct ps → AreDistinct (without n ps)
distinct-without n [] d = tt
distinct-without n (p ∷ ps) d = at (p == n) (distinct-without n ps d.1)
  where
    at : (v : Bool) → AreDistinct (without n ps) → AreDistinct (if v then without n ps else p ∷ without n ps)
    at true i = i
    at false i = (out-without n p ps d.0, i)

below-without : (n : ℕ) (ps : List ℕ) → AreBelow (suc n) ps → AreBelow n (without n ps)
below-without n [] b = tt
below-without n (p ∷ ps) b = at (p == n) refl (below-without n ps b.1)
  where
    less : p < suc n → p ≢ n → p < n
    less h d = omega (arith, h, d)

    at : (v : Bool) → (p == n) ≡ v → AreBelow n (without n ps)
        → AreBelow n (if v then without n ps else p ∷ without n ps)
    at true e i = i
    at false e i = (less b.0 (differs p n e), i)

at_most : (n : ℕ) (ps : List ℕ) → AreDistinct ps → AreBelow n ps → length ps ≤ n
at_most n [] d b = omega arith
at_most zero (p ∷ ps) d b = absurd (omega (arith, b.0))
at_most (suc n) (p ∷ ps) d b =
    let k = at_most n (without n (p ∷ ps)) (distinct-without n (p ∷ ps) d) (below-without n (p ∷ ps) b) in
    omega (arith, k, one_fewer n (p ∷ ps) d)

not_has-out : (p : ℕ) (ps : List ℕ) → has p ps ≡ false → IsOut p ps
not_has-out p [] e = tt
not_has-out p (q ∷ ps) e = at (q == p) refl e (λ k. not_has-out p ps k)
  where
    at : (v : Bool) → (q == p) ≡ v → (v || has p ps) ≡ false → (has p ps ≡ false → IsOut p ps) → IsOut p (q ∷ ps)
    at true h k i = absurd cc
    at false h k i = (differs q p h, i k)

all_are_had : (n : ℕ) (ps : List ℕ) → AreDistinct ps → AreBelow n ps → length ps ≡ n → (p : ℕ) → p < n → has p ps ≡ true
all_are_had n ps d b l p h = at (has p ps) refl
  where
    at : (v : Bool) → has p ps ≡ v → v ≡ true
    at true e = refl
    at false e = absurd (omega (arith, l, at_most n (p ∷ ps) (not_has-out p ps e, d) (h, b)))

-- ---- places in falling order

module _ (r : ℕ → ℕ → Ordering) where
  -- these come before the place
  abbrev pub AreBefore : ℕ → List ℕ → Type 0
  AreBefore p [] = Unit {0}
  AreBefore p (q ∷ ps) = (r q p ≡ Less) × AreBefore p ps

  abbrev pub AreFalling : List ℕ → Type 0
  AreFalling [] = Unit {0}
  AreFalling (p ∷ ps) = AreBefore p ps × AreFalling ps

module _ (r : ℕ → ℕ → Ordering) (total : IsTotalOrder r) where
  before_next : (p q : ℕ) (ps : List ℕ) → r p q ≡ Less → AreBefore r p ps → AreBefore r q ps
  before_next p q [] h b = tt
  before_next p q (x ∷ ps) h b = (total.trans x p q b.0 h, before_next p q ps h b.1)

  -- one place more
  pub one_more : (p q : ℕ) (ps : List ℕ) → r p q ≡ Less → AreFalling r (p ∷ ps) → AreFalling r (q ∷ (p ∷ ps))
  one_more p q ps h f = ((h, before_next p q ps h f.0), f)

  before-out : (p : ℕ) (ps : List ℕ) → AreBefore r p ps → IsOut p ps
  before-out p [] b = tt
  before-out p (q ∷ ps) b = (
    (λ e. let t : Less ≡ Equal = sym b.0 ∙ ap (λ k. r k p) e ∙ tied_itself total p in
        absurd cc),
    before-out p ps b.1,
  )

  falling-distinct : (ps : List ℕ) → AreFalling r ps → AreDistinct ps
  falling-distinct [] f = tt
  falling-distinct (p ∷ ps) f = (before-out p ps f.0, falling-distinct ps f.1)

  had-before : (p q : ℕ) (ps : List ℕ) → AreBefore r p ps → has q ps ≡ true → r q p ≡ Less
  had-before p q [] b h = absurd cc
  had-before p q (x ∷ ps) b h = at (x == q) refl h (λ k. had-before p q ps b.1 k)
    where
      at : (v : Bool) → (x == q) ≡ v → (v || has q ps) ≡ true → (has q ps ≡ true → r q p ≡ Less) → r q p ≡ Less
      at true e k i = ap (λ y. r y p) (sym (equals x q e)) ∙ b.0
      at false e k i = i k

  not_tied : (p q : ℕ) → r q p ≡ Less → r p q ≡ Equal → ⊥
  not_tied p q l e = let t : Equal ≡ Greater = sym e ∙ total.antisymm p q ∙ ap ordering_reverse l in absurd cc

  had-apart : (p q : ℕ) (ps : List ℕ) → AreFalling r ps → has p ps ≡ true → has q ps ≡ true → r p q ≡ Equal → p ≡ q
  had-apart p q [] f h k e = absurd cc
  had-apart p q (x ∷ ps) f h k e = at (x == p) refl (x == q) refl h k (λ h k. had-apart p q ps f.1 h k e)
    where
      at : (v : Bool) → (x == p) ≡ v → (w : Bool) → (x == q) ≡ w → (v || has p ps) ≡ true → (w || has q ps) ≡ true
          → (has p ps ≡ true → has q ps ≡ true → p ≡ q) → p ≡ q
      at true i true j h k g = sym (equals x p i) ∙ equals x q j
      at true i false j h k g = absurd (not_tied p q (ap (λ y. r q y) (sym (equals x p i)) ∙ had-before x q ps f.0 k) e)
      at false i true j h k g =
          let l : r p q ≡ Less = ap (λ y. r p y) (sym (equals x q j)) ∙ had-before x p ps f.0 h in
          let t : Less ≡ Equal = sym l ∙ e in absurd cc
      at false i false j h k g = g h k

  -- where as many places fall as there are, no two of all are tied
  pub all_apart : (n : ℕ) (ps : List ℕ) → AreFalling r ps → AreBelow n ps → length ps ≡ n → (p q : ℕ) → p < n → q < n
      → r p q ≡ Equal → p ≡ q
  all_apart n ps f b l p q h k e =
      let d = falling-distinct ps f in had-apart p q ps f (all_are_had n ps d b l p h) (all_are_had n ps d b l q k) e
