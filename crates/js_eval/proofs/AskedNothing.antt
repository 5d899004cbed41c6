-- What is asked for where there are no members, of an array's items from the first on, and by one application alone.
use Rattle.std.proofs.Common.{◌≡◌, ℕ, nat_le, List, [], ◌∷◌, true, Option, Some, None, filter, refl}
use Rattle.std.specs.Prelude.{MatchOption}
use Rattle.std.proofs.Math.Dec.{leb-zero}
use Rattle.std.specs.List.{flat_map}
use Rattle.js_doc.specs.Value.{Value, Named}
use Rattle.js_assert.specs.Argument.{has}
use Rattle.js_bundle.specs.Document.{Documents}
use Rattle.js_eval.specs.code.Applied.{applied_of}
use Rattle.js_eval.specs.code.Asked.{IsApplied, IsOne, one_asked}
use Rattle.js_eval.specs.declared.instance.Applied.{Applied}

-- no name is one of no members'
pub none_named : (ms : Named) → filter (λ m. has {A = Value} m.0 []) ms ≡ []
none_named [] = refl
none_named (m ∷ ms) = none_named ms

-- nothing of each is nothing
pub none_of_each : {A B : Type 0} (ps : List B) → flat_map {A = A} (λ p. []) ps ≡ []
none_of_each [] = refl
none_of_each (p ∷ ps) = none_of_each ps

-- each index is at least 0
pub from_first : (es : List (ℕ × Value)) → filter (λ e. nat_le 0 e.0) es ≡ es
from_first [] = refl
from_first (e ∷ es) =
    let t : nat_le 0 e.0 ≡ true = leb-zero e.0 in
    let r = from_first es in
    cc

-- ---- one application is asked for, and then nothing

pub taken : (documents : Documents) (o r n : Option Applied) → r ≡ o → n ≡ None → MatchOption r
    (one_asked documents o ≡ []) (λ a. one_asked documents o ≡ applied_of documents a ∷ one_asked documents n)
taken documents None r n e f = rw e refl
taken documents (Some a) r n e f = rw (e, f) refl

pub taken_applied : (documents : Documents) (o r : Option Applied) → r ≡ o → IsOne documents o
    → MatchOption r (Unit {0}) (λ a. IsApplied documents a)
taken_applied documents None r e h = rw e tt
taken_applied documents (Some a) r e h = rw e h
