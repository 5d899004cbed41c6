-- The two keywords that count what `contains` matches stand behind it.
use Rattle.std.specs.Prelude.{◌≡◌, ℕ, List, Bool, true, false, ◌||◌, codes, refl}
use Rattle.std.specs.Str.{bytes_eq}
use Rattle.std.proofs.Common.{sym, ◌∙◌, ap}
use Rattle.std.proofs.lemmas.Slice.Eq.{bytes_eq-Decides}
use Rattle.js_assert.proofs.Counting.{says_whatever_matches, error_whatever_matches}
use Rattle.js_assert.specs.Laws.{is_counting}
use Rattle.js_eval.specs.Keywords.{comes_before_else}
use Rattle.js_eval.proofs.Recursion.Before.{CountsLater}

not_named : (name other : List ℕ) (b : Bool) → bytes_eq name other ≡ b → comes_before_else other ≡ false
    → comes_before_else name ≡ true → b ≡ false
not_named name other true e o h = absurd (let n = (bytes_eq-Decides name other).0 e in
    let z : true ≡ false = sym h ∙ (ap comes_before_else n ∙ o) in cc)
not_named name other false e o h = refl

neither : (name : List ℕ) → comes_before_else name ≡ true → is_counting name ≡ false
neither name h =
    let a = not_named name (codes "maxContains") (bytes_eq name (codes "maxContains")) refl refl h in
    let b = not_named name (codes "minContains") (bytes_eq name (codes "minContains")) refl refl h in
    ap (λ c. c || bytes_eq name (codes "minContains")) a ∙ b

pub counts_later : CountsLater
counts_later = record {
  says = λ name argument siblings v m n h. says_whatever_matches name argument siblings v m n (neither name h);
  error = λ name argument siblings v m n h. error_whatever_matches name argument siblings v m n (neither name h);
}
