-- That one pass over ascending members gives the keywords that have a node in the order of their nodes.
use Rattle.std.specs.Prelude.{◌≡◌, ℕ, Bool, true, false, not, ◌&&◌, cond, List, [], ◌∷◌, ◌++◌, filter, codes, refl}
use Rattle.std.specs.List.{AllByRecursion}
use Rattle.std.specs.Ordering.{is_gt, ordering_reverse}
use Rattle.std.specs.declared.cmp.Ordering.{Ordering}
use Rattle.std.specs.declared.cmp.Ordering.TheVariants.{Less, Equal, Greater}
use Rattle.std.proofs.Common.{sym, ◌∙◌, ap, ap₂}
use Rattle.std.proofs.lemmas.Cmp.{nat_list_cmp_total}
use Rattle.std.proofs.lemmas.Slice.Eq.{bytes_eq-Decides}
use Rattle.js_doc.specs.Value.{Named}
use Rattle.js_doc.specs.Members.{name_cmp, IsAscending}
use Rattle.js_eval.specs.Keywords.{Member, has_node, is_else, is_after_if, comes_before_else, comes_after_else}
use Rattle.js_eval.specs.code.Turns.{turn_by, turn_of, is_ever, ever, first_turn, second_turn}
use Rattle.js_eval.specs.code.Turns.{last_turn, if_first, if_second, if_last, in_order}
use Rattle.js_eval.proofs.FoundByName.{Below, below_all, its_own_reverse}

-- ---- `else`

-- `else` has a node, and doesn't stand behind `if`
is_named_else : (name : List ℕ) → is_else name ≡ true → name ≡ codes "else"
is_named_else name h = (bytes_eq-Decides name (codes "else")).0 h

pub else_has_node : (name : List ℕ) → is_else name ≡ true → has_node name ≡ true
else_has_node name h = ap has_node (is_named_else name h)

pub else_before : (name : List ℕ) → is_else name ≡ true → is_after_if name ≡ false
else_before name h = ap is_after_if (is_named_else name h)

-- ---- ascending names

is_greater : (o : Ordering) → is_gt o ≡ true → o ≡ Greater
is_greater Less e = cc
is_greater Equal e = cc
is_greater Greater e = refl

-- a name behind one that stands behind `if`
behind : (x y : List ℕ) → is_after_if x ≡ true → name_cmp x y ≡ Less → is_after_if y ≡ true
behind x y h r =
    let g : name_cmp x (codes "if") ≡ Greater = is_greater (name_cmp x (codes "if")) h in
    let b : name_cmp (codes "if") x ≡ Less = nat_list_cmp_total.antisymm (codes "if") x ∙ ap ordering_reverse g in
    let t : name_cmp (codes "if") y ≡ Less = nat_list_cmp_total.trans (codes "if") x y b r in
    ap is_gt (nat_list_cmp_total.antisymm y (codes "if") ∙ ap ordering_reverse t)

AreBehind : Named → Type 0
AreBehind ms = AllByRecursion (λ m. is_after_if m.0 ≡ true) ms

are_behind : (x : List ℕ) (ms : Named) → is_after_if x ≡ true → Below x ms → AreBehind ms
unfolding Below AreBehind
are_behind x [] h b = tt
are_behind x (m ∷ ms) h b = (behind x m.0 h b.0, are_behind x ms h b.1)

-- ---- those behind `if`

no_first_at : (n e a : Bool) (m : Member) (ms : List Member) → a ≡ true → ms ≡ []
    → cond (n && (not e && not a)) (m ∷ ms) ms ≡ []
no_first_at n e false m ms h r = cc
no_first_at false e true m ms h r = r
no_first_at true false true m ms h r = r
no_first_at true true true m ms h r = r

no_first : (ms : Named) → AreBehind ms → filter (λ k. comes_before_else k.0) ms ≡ []
unfolding AreBehind
no_first [] b = refl
no_first (m ∷ ms) b = no_first_at (has_node m.0) (is_else m.0) (is_after_if m.0) m
    (filter (λ k. comes_before_else k.0) ms) b.0 (no_first ms b.1)

no_else_at : (e : Bool) (m : Member) (ms : List Member) → (e ≡ true → ⊥) → ms ≡ [] → cond e (m ∷ ms) ms ≡ []
no_else_at true m ms h r = absurd (h refl)
no_else_at false m ms h r = r

apart : (b : Bool) → b ≡ true → b ≡ false → ⊥
apart true h r = let z : true ≡ false = r in cc
apart false h r = let z : false ≡ true = h in cc

no_else : (ms : Named) → AreBehind ms → filter (λ k. is_else k.0) ms ≡ []
unfolding AreBehind
no_else [] b = refl
no_else (m ∷ ms) b = no_else_at (is_else m.0) m (filter (λ k. is_else k.0) ms)
    (λ h. apart (is_after_if m.0) b.0 (else_before m.0 h)) (no_else ms b.1)

all_last_at : (n a e : Bool) (m : Member) (ks ls : List Member) → a ≡ true → ks ≡ ls
    → cond (n && a) (m ∷ ks) ks ≡ cond (is_ever (turn_by n a e)) (m ∷ ls) ls
all_last_at n false e m ks ls h r = cc
all_last_at false true e m ks ls h r = r
all_last_at true true e m ks ls h r = ap (λ xs. m ∷ xs) r

all_last : (ms : Named) → AreBehind ms → filter (λ k. comes_after_else k.0) ms ≡ ever ms
unfolding AreBehind turn_of
all_last [] b = refl
all_last (m ∷ ms) b = all_last_at (has_node m.0) (is_after_if m.0) (is_else m.0) m
    (filter (λ k. comes_after_else k.0) ms) (ever ms) b.0 (all_last ms b.1)

-- ---- those behind `else`

no_more_at : (x y : List ℕ) → is_else x ≡ true → name_cmp x y ≡ Less → is_else y ≡ true → ⊥
no_more_at x y h r q =
    let s : x ≡ y = is_named_else x h ∙ sym (is_named_else y q) in
    let t : name_cmp x x ≡ Less = ap (name_cmp x) s ∙ r in
    let z : Equal ≡ Less = sym (its_own_reverse (name_cmp x x) (nat_list_cmp_total.antisymm x x)) ∙ t in
    cc

no_more_else : (x : List ℕ) (ms : Named) → is_else x ≡ true → Below x ms → filter (λ k. is_else k.0) ms ≡ []
unfolding Below
no_more_else x [] h b = refl
no_more_else x (m ∷ ms) h b =
    no_else_at (is_else m.0) m (filter (λ k. is_else k.0) ms) (no_more_at x m.0 h b.0) (no_more_else x ms h b.1)

-- ---- one member more

first_step : (n a e : Bool) (k : Member) (ks fs : List Member) → (a ≡ true → ks ≡ []) → ks ≡ fs
    → cond (n && (not e && not a)) (k ∷ ks) ks ≡ if_first (turn_by n a e) k fs
first_step false a e k ks fs h r = r
first_step true true true k ks fs h r = h refl
first_step true true false k ks fs h r = h refl
first_step true false true k ks fs h r = r
first_step true false false k ks fs h r = ap (λ xs. k ∷ xs) r

second_step : (n a e : Bool) (k : Member) (ks ss : List Member) → (e ≡ true → n ≡ true) → (e ≡ true → a ≡ false)
    → (e ≡ true → ks ≡ []) → (a ≡ true → ks ≡ []) → ks ≡ ss
    → cond e (k ∷ ks) ks ≡ if_second (turn_by n a e) k ss
second_step false a true k ks ss node before alone none r = absurd (let z : false ≡ true = node refl in cc)
second_step true true true k ks ss node before alone none r = absurd (let z : true ≡ false = before refl in cc)
second_step true false true k ks ss node before alone none r = ap (λ xs. k ∷ xs) (alone refl)
second_step false a false k ks ss node before alone none r = r
second_step true true false k ks ss node before alone none r = none refl
second_step true false false k ks ss node before alone none r = r

last_step : (n a e : Bool) (k : Member) (ks ls after : List Member) → (a ≡ true → ks ≡ after) → ks ≡ ls
    → cond (n && a) (k ∷ ks) ks ≡ if_last (turn_by n a e) k after ls
last_step false a e k ks ls after h r = r
last_step true true e k ks ls after h r = ap (λ xs. k ∷ xs) (h refl)
last_step true false true k ks ls after h r = r
last_step true false false k ks ls after h r = r

-- ---- all of ascending members

firsts_are : (ms : Named) → IsAscending ms → filter (λ k. comes_before_else k.0) ms ≡ first_turn ms
unfolding turn_of
firsts_are [] a = refl
firsts_are (m ∷ ms) a =
    first_step (has_node m.0) (is_after_if m.0) (is_else m.0) m (filter (λ k. comes_before_else k.0) ms) (first_turn ms)
    (λ h. no_first ms (are_behind m.0 ms h (below_all ms m.0 a.0 a.1))) (firsts_are ms a.1)

seconds_are : (ms : Named) → IsAscending ms → filter (λ k. is_else k.0) ms ≡ second_turn ms
unfolding turn_of
seconds_are [] a = refl
seconds_are (m ∷ ms) a =
    second_step (has_node m.0) (is_after_if m.0) (is_else m.0) m (filter (λ k. is_else k.0) ms) (second_turn ms)
    (else_has_node m.0) (else_before m.0) (λ h. no_more_else m.0 ms h (below_all ms m.0 a.0 a.1))
    (λ h. no_else ms (are_behind m.0 ms h (below_all ms m.0 a.0 a.1))) (seconds_are ms a.1)

lasts_are : (ms : Named) → IsAscending ms → filter (λ k. comes_after_else k.0) ms ≡ last_turn ms
unfolding turn_of
lasts_are [] a = refl
lasts_are (m ∷ ms) a =
    last_step (has_node m.0) (is_after_if m.0) (is_else m.0) m (filter (λ k. comes_after_else k.0) ms)
    (last_turn ms) (ever ms)
    (λ h. all_last ms (are_behind m.0 ms h (below_all ms m.0 a.0 a.1))) (lasts_are ms a.1)

pub turns_in_order : (ms : Named) → IsAscending ms → first_turn ms ++ (second_turn ms ++ last_turn ms) ≡ in_order ms
turns_in_order ms a =
    sym (ap₂ (λ xs ys. xs ++ ys) (firsts_are ms a) (ap₂ (λ xs ys. xs ++ ys) (seconds_are ms a) (lasts_are ms a)))
