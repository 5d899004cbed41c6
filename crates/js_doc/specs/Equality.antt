-- Equality of values (JSON Schema Core, section 4.2.2), as a test that computes. It is exact: `same` answers
-- true exactly on equal values (`same-refl` and `same-sound`), and so it is an equivalence.
use Rattle.std.specs.Prelude.{◌≡◌, Bool, true, false, ◌&&◌, ◌==◌, refl}
use Rattle.std.proofs.Common.{sym, ap, ◌∙◌}
use Rattle.std.proofs.lemmas.Bool.{eq-eqb, eqb-true}
use Rattle.std.specs.Cmp.{IsEquivalence}
use base.Stored.{Gv, gnil, gnum, gcons}
use Rattle.js_doc.specs.Value.{Value}
use Rattle.js_doc.specs.Coding.{to_value, from_value, from_value-to_value}

-- equality of stored trees, node by node
abbrev pub same_tree : Gv → Gv → Bool
same_tree gnil gnil = true
same_tree (gnum m) (gnum n) = m == n
same_tree (gcons a b) (gcons c d) = same_tree a c && same_tree b d
same_tree _ _ = false

-- equality of values: no two of them are stored alike
abbrev pub same : Value → Value → Bool
same v w = same_tree (to_value v) (to_value w)

-- ---- the laws

pub same_tree-refl : (a : Gv) → same_tree a a ≡ true
same_tree-refl gnil = refl
same_tree-refl (gnum n) = eq-eqb n n refl
same_tree-refl (gcons a b) = rw (same_tree-refl a, same_tree-refl b)

and_both : (x y : Bool) → x && y ≡ true → (x ≡ true) × (y ≡ true)
and_both true y e = (refl, e)
and_both false y e = absurd (cc)

pub same_tree-sound : (a b : Gv) → same_tree a b ≡ true → a ≡ b
same_tree-sound gnil gnil e = refl
same_tree-sound gnil (gnum n) e = absurd (cc)
same_tree-sound gnil (gcons c d) e = absurd (cc)
same_tree-sound (gnum m) gnil e = absurd (cc)
same_tree-sound (gnum m) (gnum n) e = ap gnum (eqb-true m n e)
same_tree-sound (gnum m) (gcons c d) e = absurd (cc)
same_tree-sound (gcons a b) gnil e = absurd (cc)
same_tree-sound (gcons a b) (gnum n) e = absurd (cc)
same_tree-sound (gcons a b) (gcons c d) e =
    let both = and_both (same_tree a c) (same_tree b d) e in
    λ i. gcons (same_tree-sound a c both.0 i) (same_tree-sound b d both.1 i)

-- a value is the same as itself
pub same-refl : (v : Value) → same v v ≡ true
same-refl v = same_tree-refl (to_value v)

-- what is the same is equal
pub same-sound : (v w : Value) → same v w ≡ true → v ≡ w
same-sound v w e = sym (from_value-to_value v) ∙ ap from_value (same_tree-sound (to_value v) (to_value w) e)
    ∙ from_value-to_value w

-- what is equal is the same
pub same-complete : (v w : Value) → v ≡ w → same v w ≡ true
same-complete v w e = sym (ap (same v) e) ∙ same-refl v

same_back : (v w : Value) (b : Bool) → same v w ≡ b → (c : Bool) → same w v ≡ c → b ≡ c
same_back v w true e c f = sym (same-refl w) ∙ ap (same w) (sym (same-sound v w e)) ∙ f
same_back v w false e true f = sym e ∙ ap (same v) (same-sound w v f) ∙ same-refl v
same_back v w false e false f = refl

pub same-equivalence : IsEquivalence same
same-equivalence = record {
  refl = same-refl;
  symm = λ v w. same_back v w _ refl _ refl;
  congr = λ v w u e. ap (λ x. same x u) (same-sound v w e);
}
