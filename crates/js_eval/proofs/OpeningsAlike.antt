-- Equal texts make the same event.
use Rattle.std.specs.Prelude.{◌≡◌, ℕ, List, Result, IfOk}
use Rattle.std.proofs.Common.{subst}
use Rattle.js_tree.specs.Events.{opening}
use Rattle.js_tree.specs.Rows.RelativeState.{RelativeState, relative_after}

pub opening_alike : {A E : Type 0} (r : Result A E) (s t : RelativeState) {k l a b i j : List ℕ} → k ≡ l → a ≡ b → i ≡ j
    → IfOk r (λ _. s ≡ relative_after t (opening k a i)) → IfOk r (λ _. s ≡ relative_after t (opening l b j))
opening_alike r s t {k = k} {l = l} {a = a} {b = b} {i = i} {j = j} p q o h =
    let e : opening k a i ≡ opening l b j = λ x. opening (p x) (q x) (o x) in
    subst (λ event. IfOk r (λ _. s ≡ relative_after t event)) e h
