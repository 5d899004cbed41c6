-- Where a trail may be cut.
use Rattle.std.specs.Prelude.{◌≡◌, ℕ, ◌≤◌, List, [], ◌∷◌, ◌++◌, length, refl}
use Rattle.std.specs.List.{slice_index}
use Rattle.std.specs.String.Boundary.{IsSplitPoint}
use Rattle.std.proofs.Common.{sym, subst, arith}
use Rattle.std.proofs.lemmas.List.{length-append}
use Rattle.js_doc.specs.Pointer.{Tokens, pointer_text}
use Rattle.js_eval.specs.Keywords.{Member}
use Rattle.js_eval.specs.Location.{step_tokens}
use Rattle.js_eval.specs.SchemaSet.{Text, Step}
use Rattle.js_eval.specs.Walk.Progress.{at_name, at_step}

low_at : (s r : List ℕ) → slice_index (s ++ 47 ∷ r) (length s) ≡ 47
low_at [] r = refl
low_at (a ∷ s) r = low_at s r

-- a pointer's text may be cut before a token
pub seam : (s : List ℕ) (t : Tokens) → IsSplitPoint (s ++ pointer_text t) (length s)
seam s [] = (omega (arith, length-append s []), λ p q. absurd (omega (arith, length-append s [])))
seam s (x ∷ t) = (
  omega (arith, length-append s (pointer_text (x ∷ t))),
  λ p q r. absurd (let e = low_at s _ in
      let f : 128 ≤ 47 = subst (λ n. 128 ≤ n) e r in omega (arith, f)),
)

pub split_at_name : (old new : Text) (k : Member) (mark : ℕ) → mark ≡ length old → new ≡ at_name old k
    → IsSplitPoint new mark
unfolding at_name
split_at_name old new k mark m e =
    subst (λ n. IsSplitPoint new n) (sym m) (subst (λ s. IsSplitPoint s (length old)) (sym e) (seam old (k.0 ∷ [])))

pub split_at_step : (old new : Text) (s : Step) (mark : ℕ) → mark ≡ length old → new ≡ at_step old s
    → IsSplitPoint new mark
unfolding at_step
split_at_step old new s mark m e = subst (λ n. IsSplitPoint new n) (sym m)
    (subst (λ x. IsSplitPoint x (length old)) (sym e) (seam old (step_tokens s)))
