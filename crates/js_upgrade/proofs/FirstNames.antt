-- A name among members whose names ascend, from the first member on.
use Rattle.std.proofs.Common.{◌≡◌, ◌<◌, [], ◌∷◌, true, false, Some, None, Ordering, Less, Equal, Greater, cond, refl}
use Rattle.std.proofs.Common.{bytes_eq, sym, ap, ◌∙◌, subst}
use Rattle.std.proofs.Common.{arith}
use Rattle.std.proofs.lemmas.Bool.{lt-ltb}
use Rattle.std.proofs.lemmas.Cmp.{nat_list_cmp_total}
use Rattle.std.specs.Cmp.Lexicographic.{slice_cmp}
use Rattle.std.specs.Cmp.{tied_itself}
use Rattle.std.specs.Ordering.{match_ordering, nat_cmp, ordering_then}
use Rattle.std.specs.Prelude.{◌==◌}
use Rattle.js_doc.specs.Members.{IsAscending, get, name_cmp}
use Rattle.js_doc.specs.Value.{Value, Text, Named}
use Rattle.js_doc.proofs.FiniteMaps.{get_below, name_equal}
use Rattle.js_doc.proofs.TokenLookup.{is_text-refl}
use Rattle.js_upgrade.specs.code.Initials.{initial}

lower : (k name : Text) → initial k < initial name → name_cmp k name ≡ Less
lower [] [] low = absurd (omega (arith, low))
lower [] (y ∷ ys) low = refl
lower (x ∷ xs) [] low = absurd (omega (arith, low))
lower (x ∷ xs) (y ∷ ys) low =
    ap (λ b. ordering_then (cond b Less (cond (x == y) Equal Greater)) (slice_cmp nat_cmp xs ys)) (lt-ltb x y low)

pub not_there : (k name : Text) (v : Value) (ms rest : Named) → ms ≡ (name, v) ∷ rest → IsAscending ms
    → initial k < initial name → None ≡ get k ms
not_there k name v ms rest is ascends low =
    sym (ap (get k) is ∙ get_below k ((name, v) ∷ rest) (lower k name low) (subst IsAscending is ascends))

-- the first member has the name
pub first_there : (k name : Text) (v : Value) (ms rest : Named) → ms ≡ (name, v) ∷ rest → name ≡ k → Some v ≡ get k ms
first_there k name v ms rest is same =
    sym (ap (get k) is ∙ ap (λ o. match_ordering o (get k rest) (Some v) (get k rest))
    (ap (name_cmp k) same ∙ tied_itself nat_list_cmp_total k))

passed_by : (k name : Text) (v : Value) (rest : Named) (o : Ordering) → name_cmp k name ≡ o
    → bytes_eq name k ≡ false → get k rest ≡ match_ordering o (get k rest) (Some v) (get k rest)
passed_by k name v rest Less is other = refl
passed_by k name v rest Greater is other = refl
passed_by k name v rest Equal is other =
    let wrong : true ≡ false = sym (ap (bytes_eq name) (name_equal k name is) ∙ is_text-refl name) ∙ other in
    absurd (cc)

-- the first member has another name
pub first_passed : (k name : Text) (v : Value) (ms rest : Named) → ms ≡ (name, v) ∷ rest → bytes_eq name k ≡ false
    → get k rest ≡ get k ms
first_passed k name v ms rest is other =
    passed_by k name v rest (name_cmp k name) refl other ∙ sym (ap (get k) is)

pub rest_ascends : (m : Text × Value) (ms rest : Named) → ms ≡ m ∷ rest → IsAscending ms → IsAscending rest
rest_ascends m ms rest is ascends = (subst IsAscending is ascends).1
