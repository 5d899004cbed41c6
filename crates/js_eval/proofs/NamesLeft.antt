-- The names that are left of a keyword's, and the members that are left.
use Rattle.std.proofs.Common.{◌≡◌, ℕ, zero, suc, ◌+◌, List, [], ◌∷◌, Some, None, Ordering, Less, Equal}
use Rattle.std.proofs.Common.{Greater, drop, filter, map, slice_get, ap, ap₂, subst, sym, ◌∙◌, arith}
use Rattle.std.proofs.lemmas.Cmp.{nat_list_cmp_total}
use Rattle.std.specs.Ordering.{ordering_reverse}
use Rattle.js_assert.specs.Argument.{has}
use Rattle.js_doc.specs.Members.{get, name_cmp, IsAscending, IsBelowHead}
use Rattle.js_doc.specs.Seen.{pair_of}
use Rattle.js_doc.specs.Value.{Named, Value}
use Rattle.js_doc.specs.declared.doc.Doc.{Doc}
use Rattle.js_doc.proofs.FiniteMaps.{get_below, name_equal}
use Rattle.js_eval.specs.code.NamesLeft.{names_left}
use Rattle.js_eval.proofs.Shared.{later_names, member_first, one_more}

-- the first that is left has the rank, and the others are left behind it
pub next_left : {A : Type 0} (all : List A) (r : ℕ) (x : A) (xs : List A) → x ∷ xs ≡ drop r all
    → (xs ≡ drop (r + 1) all) × (slice_get all r ≡ Some x)
next_left [] zero x xs e = absurd (cc)
next_left [] (suc r) x xs e = absurd (cc)
next_left (y ∷ ys) zero x xs e =
    let first : x ≡ y = cc in
    let rest : xs ≡ ys = cc in
    (rest, ap Some (sym first))
next_left (y ∷ ys) (suc r) x xs e =
    let more = next_left ys r x xs e in
    let number : suc (r + 1) ≡ suc r + 1 = omega arith in
    (subst (λ n. xs ≡ drop n (y ∷ ys)) number more.0, more.1)

-- the others are left behind the rank after it
pub left_behind : {A : Type 0} (all : List A) (r n : ℕ) (x : A) (xs : List A) → n ≡ r + 1
    → x ∷ xs ≡ drop r all → xs ≡ drop n all
left_behind all r n x xs e h = (next_left all r x xs h).0 ∙ ap (λ k. drop k all) (sym e)

-- ---- of names and members that ascend, the first name looked up

-- the member that has it is the first to come
pub look_up : (n : List ℕ × Value) (ns ms : Named) (v : Value) → get n.0 ms ≡ Some v
    → IsAscending (n ∷ ns) → IsAscending ms
    → filter (λ m. has m.0 (n ∷ ns)) ms ≡ (n.0, v) ∷ filter (λ m. has m.0 ns) ms
look_up n ns ms v e a b = one_more n ns ms a.0 a.1 b ∙ ap (λ o. member_first n.0 o (filter (λ m. has m.0 ns) ms)) e

-- a name that no member has changes nothing
pub pass_by : (n : List ℕ × Value) (ns ms : Named) → get n.0 ms ≡ None → IsAscending (n ∷ ns) → IsAscending ms
    → filter (λ m. has m.0 (n ∷ ns)) ms ≡ filter (λ m. has m.0 ns) ms
pass_by n ns ms e a b = one_more n ns ms a.0 a.1 b ∙ ap (λ o. member_first n.0 o (filter (λ m. has m.0 ns) ms)) e

-- ---- or a step on either side

-- a name below the first member is no member's
pub pass_name : (n m : List ℕ × Value) (ns ms : Named) → name_cmp n.0 m.0 ≡ Less → IsAscending (m ∷ ms)
    → filter (λ x. has x.0 (n ∷ ns)) (m ∷ ms) ≡ filter (λ x. has x.0 ns) (m ∷ ms)
pass_name n m ns ms e a = later_names n ns (m ∷ ms) e a

-- a member below the first name has none of them
pub pass_member : (n m : List ℕ × Value) (ns ms : Named) → name_cmp n.0 m.0 ≡ Greater → IsAscending (n ∷ ns)
    → filter (λ x. has x.0 (n ∷ ns)) (m ∷ ms) ≡ filter (λ x. has x.0 (n ∷ ns)) ms
pass_member n m ns ms e a =
    let below : name_cmp m.0 n.0 ≡ Less = nat_list_cmp_total.antisymm m.0 n.0 ∙ ap ordering_reverse e in
    let none : get m.0 (n ∷ ns) ≡ None = get_below m.0 (n ∷ ns) below a in
    cc

-- so the first name may be passed over, or the first member, by the order that was found
pub name_passed : (n m : List ℕ
    × Doc) (ns ms : List (List ℕ × Doc)) (whole : Named) (a b : List ℕ) (o : Ordering)
    → o ≡ name_cmp a b → a ≡ (pair_of n).0 → b ≡ (pair_of m).0 → o ≡ Less → IsAscending (map pair_of (m ∷ ms))
    → names_left (map pair_of (m ∷ ms)) (n ∷ ns) ≡ whole → names_left (map pair_of (m ∷ ms)) ns ≡ whole
name_passed n m ns ms whole a b o found first second less ascend same =
    let e : name_cmp (pair_of n).0 (pair_of m).0 ≡ Less = sym (found ∙ ap₂ name_cmp first second) ∙ less in
    sym (pass_name (pair_of n) (pair_of m) (map pair_of ns) (map pair_of ms) e ascend) ∙ same

pub member_passed : (n m : List ℕ
    × Doc) (ns ms : List (List ℕ × Doc)) (whole : Named) (a b : List ℕ) (o : Ordering)
    → o ≡ name_cmp a b → a ≡ (pair_of n).0 → b ≡ (pair_of m).0 → o ≡ Greater → IsAscending (map pair_of (n ∷ ns))
    → names_left (map pair_of (m ∷ ms)) (n ∷ ns) ≡ whole → names_left (map pair_of ms) (n ∷ ns) ≡ whole
member_passed n m ns ms whole a b o found first second greater ascend same =
    let e : name_cmp (pair_of n).0 (pair_of m).0 ≡ Greater = sym (found ∙ ap₂ name_cmp first second) ∙ greater in
    sym (pass_member (pair_of n) (pair_of m) (map pair_of ns) (map pair_of ms) e ascend) ∙ same

-- where both names are equal, it is the first to come
pub take_both : (n m : List ℕ × Value) (ns ms : Named) → name_cmp n.0 m.0 ≡ Equal → IsAscending (m ∷ ms)
    → filter (λ x. has x.0 (n ∷ ns)) (m ∷ ms) ≡ (n.0, m.1) ∷ filter (λ x. has x.0 ns) ms
take_both n m ns ms e a =
    let same : m.0 ≡ n.0 = sym (name_equal n.0 m.0 e) in
    let at : name_cmp m.0 n.0 ≡ Equal = nat_list_cmp_total.antisymm m.0 n.0 ∙ ap ordering_reverse e in
    let later = later_names n ns ms (subst (λ x. IsBelowHead x ms) same a.0) a.1 in
    let first : m ∷ filter (λ x. has x.0 ns) ms
    ≡ (n.0, m.1) ∷ filter (λ x. has x.0 ns) ms = ap (λ x. (x, m.1) ∷ filter (λ x. has x.0 ns) ms) same in
    cc
