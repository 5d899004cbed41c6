-- What stands under a name among members that are gathered.
use Rattle.std.proofs.Common.{◌≡◌, [], ◌∷◌, Option, Some, None, Ordering, Less, Equal, Greater}
use Rattle.std.proofs.Common.{option_and_then, refl, sym, ap, ◌∙◌}
use Rattle.std.specs.Cmp.{tied_itself}
use Rattle.std.specs.Ordering.{match_ordering}
use Rattle.std.proofs.lemmas.Cmp.{nat_list_cmp_total}
use Rattle.js_doc.specs.Members.{get, name_cmp, put, IsAscending}
use Rattle.js_doc.specs.Value.{Value, Text, Named}
use Rattle.js_doc.proofs.FiniteMaps.{get-put, get-put_other, get_below, name_equal}
use Rattle.js_upgrade.specs.Schema.{gathered_members, put_all}
use Rattle.js_upgrade.proofs.Each.{Each}

-- ---- names that differ

itself : (k : Text) → name_cmp k k ≡ Equal
itself k = tied_itself nat_list_cmp_total k

less_differs : (n k : Text) → name_cmp n k ≡ Less → ¬ (n ≡ k)
less_differs n k is same =
    let wrong : Less ≡ Equal = sym is ∙ ap (λ l. name_cmp l k) same ∙ itself k in absurd (cc)

greater_differs : (n k : Text) → name_cmp n k ≡ Greater → ¬ (n ≡ k)
greater_differs n k is same =
    let wrong : Greater ≡ Equal = sym is ∙ ap (λ l. name_cmp l k) same ∙ itself k in absurd (cc)

-- ---- one list of members, put among others

put_same_by : (n k : Text) (v : Value) (a b : Named) (o : Ordering) → name_cmp n k ≡ o → get n a ≡ get n b
    → get n (put k v a) ≡ get n (put k v b)
put_same_by n k v a b Equal is e =
    ap (λ l. get l (put k v a)) (name_equal n k is) ∙ get-put k v a ∙ sym (get-put k v b)
    ∙ sym (ap (λ l. get l (put k v b)) (name_equal n k is))
put_same_by n k v a b Less is e =
    get-put_other k n v a (less_differs n k is) ∙ e ∙ sym (get-put_other k n v b (less_differs n k is))
put_same_by n k v a b Greater is e =
    get-put_other k n v a (greater_differs n k is) ∙ e ∙ sym (get-put_other k n v b (greater_differs n k is))

-- what stood there counts by what it had under the name
put_all_same : (n : Text) (ms a b : Named) → get n a ≡ get n b → get n (put_all ms a) ≡ get n (put_all ms b)
put_all_same n [] a b e = e
put_all_same n (m ∷ ms) a b e =
    put_all_same n ms (put m.0 m.1 a) (put m.0 m.1 b) (put_same_by n m.0 m.1 a b (name_cmp n m.0) refl e)

put_all_other : (n : Text) (ms among : Named) → Each (λ k v. ¬ (n ≡ k)) ms → get n (put_all ms among) ≡ get n among
put_all_other n [] among e = refl
put_all_other n (m ∷ ms) among e =
    put_all_other n ms (put m.0 m.1 among) e.1 ∙ get-put_other m.0 n m.1 among e.0

-- ---- all of them, where each name comes from one

module _ (src : Text → Text) (f : Text → Value → Named) (n : Text) where
  abbrev pub ComesFrom : Text → Value → Type 0
  ComesFrom k v = Each (λ l w. src l ≡ k) (f k v)

  other_names : (k : Text) (ms : Named) → ¬ (src n ≡ k) → Each (λ l w. src l ≡ k) ms → Each (λ l w. ¬ (n ≡ l)) ms
  other_names k [] other e = tt
  other_names k (m ∷ ms) other e = (λ same. other (ap src same ∙ e.0), other_names k ms other e.1)

  -- the member that it comes from isn't among them
  past_by : (m : Text × Value) (ms among : Named) (o : Ordering) → name_cmp (src n) m.0 ≡ o
      → match_ordering o (get (src n) ms) (Some m.1) (get (src n) ms) ≡ None → ComesFrom m.0 m.1
      → (get (src n) ms ≡ None
      → get n (gathered_members f ms (put_all (f m.0 m.1) among)) ≡ get n (put_all (f m.0 m.1) among))
      → get n (gathered_members f (m ∷ ms) among) ≡ get n among
  past_by m ms among Equal is none from more = absurd (cc)
  past_by m ms among Less is none from more =
      more none ∙ put_all_other n (f m.0 m.1) among (other_names m.0 (f m.0 m.1) (less_differs (src n) m.0 is) from)
  past_by m ms among Greater is none from more =
      more none
      ∙ put_all_other n (f m.0 m.1) among (other_names m.0 (f m.0 m.1) (greater_differs (src n) m.0 is) from)

  past : (ms among : Named) → Each ComesFrom ms → get (src n) ms ≡ None → get n (gathered_members f ms among)
      ≡ get n among
  past [] among e none = refl
  past (m ∷ ms) among e none =
      past_by m ms among (name_cmp (src n) m.0) refl none e.0 (past ms (put_all (f m.0 m.1) among) e.1)

  -- what the member becomes has it, or nothing has
  abbrev pub by_origin : Option Value → Option Value
  by_origin found = option_and_then (λ v. get n (put_all (f (src n) v) [])) found

  found_by : (m : Text × Value) (ms among : Named) (o : Ordering) → name_cmp (src n) m.0 ≡ o
      → IsAscending (m ∷ ms) → ComesFrom m.0 m.1 → Each ComesFrom ms → get n among ≡ None
      → ((a : Named) → get n a ≡ None → get n (gathered_members f ms a) ≡ by_origin (get (src n) ms))
      → get n (gathered_members f (m ∷ ms) among)
      ≡ by_origin (match_ordering o (get (src n) ms) (Some m.1) (get (src n) ms))
  found_by m ms among Equal is s from others none more =
      let same : src n ≡ m.0 = name_equal (src n) m.0 is in
      past ms (put_all (f m.0 m.1) among) others (ap (λ k. get k ms) same ∙ get_below m.0 ms s.0 s.1)
      ∙ put_all_same n (f m.0 m.1) among [] none ∙ sym (ap (λ k. get n (put_all (f k m.1) [])) same)
  found_by m ms among Less is s from others none more =
      more (put_all (f m.0 m.1) among)
      (put_all_other n (f m.0 m.1) among (other_names m.0 (f m.0 m.1) (less_differs (src n) m.0 is) from) ∙ none)
  found_by m ms among Greater is s from others none more =
      more (put_all (f m.0 m.1) among)
      (put_all_other n (f m.0 m.1) among (other_names m.0 (f m.0 m.1) (greater_differs (src n) m.0 is) from) ∙ none)

  pub gathered_from : (ms among : Named) → IsAscending ms → Each ComesFrom ms → get n among ≡ None
      → get n (gathered_members f ms among) ≡ by_origin (get (src n) ms)
  gathered_from [] among s e none = none
  gathered_from (m ∷ ms) among s e none =
      found_by m ms among (name_cmp (src n) m.0) refl s e.0 e.1 none
      (λ a absent. gathered_from ms a s.1 e.1 absent)

-- what stands under the name is what the member that it comes from becomes
pub gathered_get : (src : Text → Text) (f : Text → Value → Named) (n : Text) (ms : Named) (v w : Value)
    → IsAscending ms → Each (λ k u. Each (λ l x. src l ≡ k) (f k u)) ms → get (src n) ms ≡ Some v
    → get n (put_all (f (src n) v) []) ≡ Some w → get n (gathered_members f ms []) ≡ Some w
gathered_get src f n ms v w s e found has =
    gathered_from src f n ms [] s e refl
    ∙ ap (option_and_then (λ u. get n (put_all (f (src n) u) []))) found ∙ has
