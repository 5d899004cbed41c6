-- No two of the values are equal exactly where no pair of equal ones is found.
use Rattle.std.proofs.Common.{◌≡◌, ℕ, ◌+◌, Bool, true, false, not, ◌&&◌, ◌||◌, if◌then◌else◌, [], ◌∷◌, Option}
use Rattle.std.proofs.Common.{Some, None, is_some, is_none, refl, sym, ap, ap₂, ◌∙◌}
use Rattle.std.specs.List.{list_any}
use Rattle.js_doc.specs.Value.{Value, Values}
use Rattle.js_doc.specs.Equality.{same}
use Rattle.js_assert.specs.Arrays.{is_unique, first_equal, pair_or, equal_pair}

first_at : (b : Bool) (n : ℕ) (more : Option ℕ) → is_some (if b then Some n else more) ≡ b || is_some more
first_at true n more = refl
first_at false n more = refl

any_first : (v : Value) (n : ℕ) (vs : Values) → list_any (same v) vs ≡ is_some (first_equal v n vs)
any_first v n [] = refl
any_first v n (w ∷ vs) = ap (λ b. same v w || b) (any_first v (n + 1) vs)
    ∙ sym (first_at (same v w) n (first_equal v (n + 1) vs))

pair_here : (n : ℕ) (j : Option ℕ) (later : Option (ℕ × ℕ))
    → is_none (pair_or n j later) ≡ not (is_some j) && is_none later
pair_here n None later = refl
pair_here n (Some j) later = refl

unique_pair : (n : ℕ) (vs : Values) → is_unique vs ≡ is_none (equal_pair n vs)
unique_pair n [] = refl
unique_pair n (v ∷ vs) =
    ap₂ (λ a b. not a && b) (any_first v (n + 1) vs) (unique_pair (n + 1) vs)
    ∙ sym (pair_here n (first_equal v (n + 1) vs) (equal_pair (n + 1) vs))

pub unique_is : (vs : Values) (o : Option (ℕ × ℕ)) → o ≡ equal_pair 0 vs
    → is_none o ≡ is_unique vs
unique_is vs o e = ap is_none e ∙ sym (unique_pair 0 vs)
