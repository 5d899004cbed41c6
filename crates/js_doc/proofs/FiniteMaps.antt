-- Members whose names ascend, as a finite map.
use Rattle.std.proofs.Common.{◌≡◌, ℕ, List, [], ◌∷◌, Option, Some, None, Ordering, Less, Equal}
use Rattle.std.proofs.Common.{Greater, is_eq, refl, sym, ap, ◌∙◌, subst}
use Rattle.std.specs.Cmp.{tied_itself}
use Rattle.std.specs.Cmp.Lexicographic.{texts_ties}
use Rattle.std.specs.Ordering.{match_ordering, ordering_reverse}
use Rattle.std.proofs.lemmas.Cmp.{nat_list_cmp_total}
use Rattle.js_doc.specs.Members.{name_cmp, get, put, IsBelowHead, IsAscending}
use Rattle.js_doc.proofs.TokenLookup.{is_text-sound}

pub name_equal : (k l : List ℕ) → name_cmp k l ≡ Equal → k ≡ l
name_equal k l e = is_text-sound k l (texts_ties k l ∙ ap is_eq e)

-- ---- a member further on

passed : {A : Type 0} (o : Ordering) (x y : A) → ¬ (o ≡ Equal) → match_ordering o x y x ≡ x
passed Less x y n = refl
passed Equal x y n = absurd (n refl)
passed Greater x y n = refl

pub get_past : {A : Type 0} (l : List ℕ) (m : List ℕ × A) (ms : List (List ℕ × A)) → ¬ (l ≡ m.0)
    → get l (m ∷ ms) ≡ get l ms
get_past l m ms n = passed (name_cmp l m.0) (get l ms) (Some m.1) (λ e. n (name_equal l m.0 e))

pub get_here : {A : Type 0} (k : List ℕ) (v : A) (ms : List (List ℕ × A)) → get k ((k, v) ∷ ms) ≡ Some v
get_here k v ms = rw (tied_itself nat_list_cmp_total k)

-- ---- what is put

same_at : {A : Type 0} (k : List ℕ) (v : A) (m : List ℕ × A) (ms : List (List ℕ × A)) (o : Ordering)
    → name_cmp k m.0 ≡ o → get k (put k v ms) ≡ Some v
    → get k (match_ordering o ((k, v) ∷ m ∷ ms) ((m.0, v) ∷ ms) (m ∷ put k v ms)) ≡ Some v
same_at k v m ms Less e h = get_here k v (m ∷ ms)
same_at k v m ms Equal e h = rw e
same_at k v m ms Greater e h = rw e h

pub get-put : {A : Type 0} (k : List ℕ) (v : A) (ms : List (List ℕ × A)) → get k (put k v ms) ≡ Some v
get-put k v [] = get_here k v []
get-put k v (m ∷ ms) = same_at k v m ms (name_cmp k m.0) refl (get-put k v ms)

other_at : {A : Type 0} (k l : List ℕ) (v : A) (m : List ℕ × A) (ms : List (List ℕ × A)) (o : Ordering) → ¬ (l ≡ k)
    → name_cmp k m.0 ≡ o → get l (put k v ms) ≡ get l ms
    → get l (match_ordering o ((k, v) ∷ m ∷ ms) ((m.0, v) ∷ ms) (m ∷ put k v ms)) ≡ get l (m ∷ ms)
other_at k l v m ms Less n e h = get_past l (k, v) (m ∷ ms) n
other_at k l v m ms Equal n e h =
    let other : ¬ (l ≡ m.0) = λ i. n (i ∙ sym (name_equal k m.0 e)) in
    get_past l (m.0, v) ms other ∙ sym (get_past l m ms other)
other_at k l v m ms Greater n e h = ap (λ x. match_ordering (name_cmp l m.0) x (Some m.1) x) h

pub get-put_other : {A : Type 0} (k l : List ℕ) (v : A) (ms : List (List ℕ × A)) → ¬ (l ≡ k)
    → get l (put k v ms) ≡ get l ms
get-put_other k l v [] n = get_past l (k, v) [] n
get-put_other k l v (m ∷ ms) n = other_at k l v m ms (name_cmp k m.0) n refl (get-put_other k l v ms n)

head_at : {A : Type 0} (first k : List ℕ) (v : A) (m : List ℕ × A) (ms : List (List ℕ × A)) (o : Ordering)
    → name_cmp first k ≡ Less → name_cmp first m.0 ≡ Less
    → IsBelowHead first (match_ordering o ((k, v) ∷ m ∷ ms) ((m.0, v) ∷ ms) (m ∷ put k v ms))
head_at first k v m ms Less h s = h
head_at first k v m ms Equal h s = s
head_at first k v m ms Greater h s = s

below_head-put : {A : Type 0} (first k : List ℕ) (v : A) (ms : List (List ℕ × A)) → name_cmp first k ≡ Less
    → IsBelowHead first ms → IsBelowHead first (put k v ms)
below_head-put first k v [] h s = h
below_head-put first k v (m ∷ ms) h s = head_at first k v m ms (name_cmp k m.0) h s

ascending_at : {A : Type 0} (k : List ℕ) (v : A) (m : List ℕ × A) (ms : List (List ℕ × A)) (o : Ordering)
    → name_cmp k m.0 ≡ o → IsAscending (m ∷ ms) → IsAscending (put k v ms)
    → IsAscending (match_ordering o ((k, v) ∷ m ∷ ms) ((m.0, v) ∷ ms) (m ∷ put k v ms))
ascending_at k v m ms Less e s more = (e, s)
ascending_at k v m ms Equal e s more = s
ascending_at k v m ms Greater e s more =
    (below_head-put m.0 k v ms (nat_list_cmp_total.antisymm m.0 k ∙ ap ordering_reverse e) s.0, more)

pub ascending-put : {A : Type 0} (k : List ℕ) (v : A) (ms : List (List ℕ × A)) → IsAscending ms
    → IsAscending (put k v ms)
ascending-put k v [] s = (tt, tt)
ascending-put k v (m ∷ ms) s = ascending_at k v m ms (name_cmp k m.0) refl s (ascending-put k v ms s.1)

-- ---- equal where every name has the same value

below_trans : {A : Type 0} (k l : List ℕ) (ms : List (List ℕ × A)) → name_cmp k l ≡ Less
    → IsBelowHead l ms → IsBelowHead k ms
below_trans k l [] h s = tt
below_trans k l (m ∷ ms) h s = nat_list_cmp_total.trans k l m.0 h s

pub get_below : {A : Type 0} (k : List ℕ) (ms : List (List ℕ × A)) → IsBelowHead k ms → IsAscending ms → get k ms ≡ None
get_below k [] h s = refl
get_below k (m ∷ ms) h s = rw h (get_below k ms (below_trans k m.0 ms h s.0) s.1)

abbrev value_or : {A : Type 0} → A → Option A → A
value_or d None = d
value_or d (Some x) = x

abbrev Alike : {A : Type 0} → List (List ℕ × A) → List (List ℕ × A) → Type 0
Alike ms ns = (k : List ℕ) → get k ms ≡ get k ns

tail_at : {A : Type 0} (k : List ℕ) (m n : List ℕ × A) (ms ns : List (List ℕ × A)) (o : Ordering) → name_cmp k m.0 ≡ o
    → m.0 ≡ n.0 → IsAscending (m ∷ ms) → IsAscending (n ∷ ns)
    → Alike (m ∷ ms) (n ∷ ns) → get k ms ≡ get k ns
tail_at k m n ms ns Equal e is s t h =
    let here : k ≡ m.0 = name_equal k m.0 e in
    get_below k ms (subst (λ x. IsBelowHead x ms) (sym here) s.0) s.1
    ∙ sym (get_below k ns (subst (λ x. IsBelowHead x ns) (sym (here ∙ is)) t.0) t.1)
tail_at k m n ms ns Less e is s t h =
    let other : ¬ (k ≡ m.0) = λ i. let same : name_cmp k m.0 ≡ Equal = ap (λ x. name_cmp x m.0) i
    ∙ tied_itself nat_list_cmp_total m.0 in absurd (cc) in
    sym (get_past k m ms other) ∙ h k ∙ get_past k n ns (λ i. other (i ∙ sym is))
tail_at k m n ms ns Greater e is s t h =
    let other : ¬ (k ≡ m.0) = λ i. let same : name_cmp k m.0 ≡ Equal = ap (λ x. name_cmp x m.0) i
    ∙ tied_itself nat_list_cmp_total m.0 in absurd (cc) in
    sym (get_past k m ms other) ∙ h k ∙ get_past k n ns (λ i. other (i ∙ sym is))

heads_at : {A : Type 0} (m n : List ℕ × A) (ms ns : List (List ℕ × A)) (o : Ordering) → name_cmp m.0 n.0 ≡ o
    → IsAscending (m ∷ ms) → IsAscending (n ∷ ns) → Alike (m ∷ ms) (n ∷ ns)
    → (Alike ms ns → ms ≡ ns) → m ∷ ms ≡ n ∷ ns
heads_at m n ms ns Less e s t h more =
    let is : Some m.1 ≡ None = sym (get_here m.0 m.1 ms) ∙ h m.0 ∙ get_below m.0 (n ∷ ns) e t in absurd (cc)
heads_at m n ms ns Greater e s t h more =
    let below : name_cmp n.0 m.0 ≡ Less = nat_list_cmp_total.antisymm n.0 m.0 ∙ ap ordering_reverse e in
    let is : Some n.1 ≡ None = sym (get_here n.0 n.1 ns) ∙ sym (h n.0) ∙ get_below n.0 (m ∷ ms) below s in absurd (cc)
heads_at m n ms ns Equal e s t h more =
    let name : m.0 ≡ n.0 = name_equal m.0 n.0 e in
    let there : get m.0 (n ∷ ns) ≡ Some n.1 = rw e in
    let value : m.1 ≡ n.1 = ap (value_or m.1) (sym (get_here m.0 m.1 ms) ∙ h m.0 ∙ there) in
    let rest : ms ≡ ns = more (λ k. tail_at k m n ms ns (name_cmp k m.0) refl name s t h) in
    λ i. (name i, value i) ∷ rest i

pub same_map : {A : Type 0} (ms ns : List (List ℕ × A)) → IsAscending ms → IsAscending ns → Alike ms ns → ms ≡ ns
same_map [] [] s t h = refl
same_map [] (n ∷ ns) s t h = let is : None ≡ Some n.1 = h n.0 ∙ get_here n.0 n.1 ns in absurd (cc)
same_map (m ∷ ms) [] s t h = let is : Some m.1 ≡ None = sym (get_here m.0 m.1 ms) ∙ h m.0 in absurd (cc)
same_map (m ∷ ms) (n ∷ ns) s t h = heads_at m n ms ns (name_cmp m.0 n.0) refl s t h (same_map ms ns s.1 t.1)
