-- What stands behind a prefix.
use Rattle.std.proofs.Common.{◌≡◌, ◌≢◌, ℕ, ◌==◌, [], ◌∷◌, ◌++◌, Bool, true, false, Option, Some, None, cond, refl}
use Rattle.std.proofs.Common.{sym, ap, ◌∙◌, drop, length, ◌+◌, option_map, Bor}
use Rattle.std.specs.Option.{MatchOption}
use Rattle.std.specs.Str.Pattern.{FindsTextPrefix, LacksTextAt}
use Rattle.std.proofs.lemmas.Bool.{eq-eqb, eqb-true}
use Rattle.js_doc.specs.Value.{Text}
use Rattle.js_upgrade.specs.Dialect.{after_prefix}

pub after-append : (p rest : Text) → after_prefix p (p ++ rest) ≡ Some rest
after-append [] rest = refl
after-append (b ∷ p) rest = rw (eq-eqb b b refl) (after-append p rest)

none_at : (b c : ℕ) (p s : Text) (v : Bool) → (c == b) ≡ v → ((rest : Text) → c ∷ s ≢ b ∷ (p ++ rest))
    → (((rest : Text) → s ≢ p ++ rest) → after_prefix p s ≡ None) → cond v (after_prefix p s) None ≡ None
none_at b c p s true e other more = more (λ rest same. other rest (λ i. eqb-true c b e i ∷ same i))
none_at b c p s false e other more = refl

-- where the text begins otherwise
pub after-none : (p s : Text) → ((rest : Text) → s ≢ p ++ rest) → after_prefix p s ≡ None
after-none [] s other = absurd (other s refl)
after-none (b ∷ p) [] other = refl
after-none (b ∷ p) (c ∷ s) other = none_at b c p s (c == b) refl other (after-none p s)

pub after_is : (p s : Text) (r : Option (Bor Text)) → MatchOption r (LacksTextAt p s 0)
    (λ x. (n : ℕ) × FindsTextPrefix p s (Some n) × (x.now ≡ drop n s) × (length x.now + n ≡ length s))
    → option_map (λ t. t.now) r ≡ after_prefix p s
after_is p s None lacks = sym (after-none p s lacks)
after_is p s (Some x) strips =
    ap Some strips.2 ∙ sym (after-append p (drop strips.0 s)) ∙ ap (after_prefix p) (sym strips.1.1)

-- ---- the text is the prefix and what stands behind it

pub some_is : {A : Type 0} (x y : A) → Some x ≡ Some y → x ≡ y
some_is x y e = cc

prefixed_by : (b p : ℕ) (ps bs r : Text) (same : Bool) → (b == p) ≡ same
    → (after_prefix ps bs ≡ Some r → bs ≡ ps ++ r) → cond same (after_prefix ps bs) None ≡ Some r
    → b ∷ bs ≡ p ∷ (ps ++ r)
prefixed_by b p ps bs r true is more found = λ i. eqb-true b p is i ∷ more found i
prefixed_by b p ps bs r false is more found = absurd (cc)

pub after-prefixed : (p t r : Text) → after_prefix p t ≡ Some r → t ≡ p ++ r
after-prefixed [] t r is = some_is t r is
after-prefixed (p ∷ ps) [] r is = absurd (cc)
after-prefixed (p ∷ ps) (b ∷ bs) r is = prefixed_by b p ps bs r (b == p) refl (after-prefixed ps bs r) is
