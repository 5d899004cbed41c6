-- The members that have some names: one name more.
use Rattle.std.proofs.Common.{◌≡◌, ℕ, List, [], ◌∷◌, Option, Some, None, Ordering, Less, Equal}
use Rattle.std.proofs.Common.{Greater, filter, refl, sym, ap, subst, ◌∙◌}
use Rattle.std.specs.Ordering.{ordering_reverse}
use Rattle.std.proofs.lemmas.Cmp.{nat_list_cmp_total}
use Rattle.js_assert.specs.Argument.{has}
use Rattle.js_doc.specs.Members.{get, name_cmp, IsBelowHead, IsAscending}
use Rattle.js_doc.specs.Value.{Value, Named}
use Rattle.js_doc.proofs.FiniteMaps.{get_below, name_equal}

-- in front, the member of this name, where there is one
abbrev pub member_first : List ℕ → Option Value → Named → Named
member_first name None rest = rest
member_first name (Some v) rest = (name, v) ∷ rest

below_head : (k l : List ℕ) (ms : Named) → name_cmp k l ≡ Less → IsBelowHead l ms → IsBelowHead k ms
below_head k l [] h s = tt
below_head k l (m ∷ ms) h s = nat_list_cmp_total.trans k l m.0 h s

-- members behind a name don't have it
pub later_names : (n : List ℕ × Value) (ns ms : Named) → IsBelowHead n.0 ms → IsAscending ms
    → filter (λ m. has m.0 (n ∷ ns)) ms ≡ filter (λ m. has m.0 ns) ms
later_names n ns [] h a = refl
later_names n ns (m ∷ ms) h a =
    let g : name_cmp m.0 n.0 ≡ Greater = nat_list_cmp_total.antisymm m.0 n.0 ∙ ap ordering_reverse h in
    let r = later_names n ns ms (below_head n.0 m.0 ms h a.0) a.1 in
    cc

-- a name more: the member that has it comes first
one_at : (n m : List ℕ × Value) (ns ms : Named) (o : Ordering) → name_cmp m.0 n.0 ≡ o → IsBelowHead n.0 ns
    → IsAscending ns → IsBelowHead m.0 ms → IsAscending ms
    → filter (λ m. has m.0 (n ∷ ns)) ms ≡ member_first n.0 (get n.0 ms) (filter (λ m. has m.0 ns) ms)
    → filter (λ m. has m.0 (n ∷ ns)) (m ∷ ms) ≡ member_first n.0 (get n.0 (m ∷ ms)) (filter (λ m. has m.0 ns) (m ∷ ms))
one_at n m ns ms Less e h a k b r =
    let g : name_cmp n.0 m.0 ≡ Greater = nat_list_cmp_total.antisymm n.0 m.0 ∙ ap ordering_reverse e in
    let f : get m.0 ns ≡ None = get_below m.0 ns (below_head m.0 n.0 ns e h) a in
    cc
one_at n m ns ms Equal e h a k b r =
    let same : m.0 ≡ n.0 = name_equal m.0 n.0 e in
    let g : name_cmp n.0 m.0 ≡ Equal = nat_list_cmp_total.antisymm n.0 m.0 ∙ ap ordering_reverse e in
    let f : get m.0 ns ≡ None = ap (λ k. get k ns) same ∙ get_below n.0 ns h a in
    let later = later_names n ns ms (subst (λ x. IsBelowHead x ms) same k) b in
    let first : m ∷ filter (λ m. has m.0 ns) ms
    ≡ (n.0, m.1) ∷ filter (λ m. has m.0 ns) ms = ap (λ x. (x, m.1) ∷ filter (λ m. has m.0 ns) ms) same in
    cc
one_at n m ns ms Greater e h a k b r =
    let l : name_cmp n.0 m.0 ≡ Less = nat_list_cmp_total.antisymm n.0 m.0 ∙ ap ordering_reverse e in
    later_names n ns (m ∷ ms) l (k, b)
    ∙ sym (ap (λ o. member_first n.0 o (filter (λ m. has m.0 ns) (m ∷ ms))) (get_below n.0 (m ∷ ms) l (k, b)))

pub one_more : (n : List ℕ × Value) (ns ms : Named) → IsBelowHead n.0 ns → IsAscending ns → IsAscending ms
    → filter (λ m. has m.0 (n ∷ ns)) ms ≡ member_first n.0 (get n.0 ms) (filter (λ m. has m.0 ns) ms)
one_more n ns [] h a b = refl
one_more n ns (m ∷ ms) h a b = one_at n m ns ms (name_cmp m.0 n.0) refl h a b.0 b.1 (one_more n ns ms h a b.1)
