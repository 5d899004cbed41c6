-- Each of a schema's keywords is found by its name, since the names ascend.
use Rattle.std.specs.Prelude.{◌≡◌, Bool, true, false, cond, List, [], ◌∷◌, ◌++◌, ℕ, Some, filter, refl}
use Rattle.std.specs.List.{AllByRecursion}
use Rattle.std.specs.Ordering.{ordering_reverse}
use Rattle.std.specs.declared.cmp.Ordering.{Ordering}
use Rattle.std.specs.declared.cmp.Ordering.TheVariants.{Less, Equal, Greater}
use Rattle.std.proofs.Common.{◌∙◌, ap}
use Rattle.std.proofs.lemmas.Cmp.{nat_list_cmp_total}
use Rattle.js_doc.specs.Value.{Value, Named}
use Rattle.js_doc.specs.Members.{get, name_cmp, IsBelowHead, IsAscending}
use Rattle.js_assert.specs.Argument.{entries}
use Rattle.js_eval.specs.Keywords.{Member, keywords, keywords_that, comes_before_else, comes_after_else, is_else}

-- the keyword stands among these
abbrev pub IsAmong : Named → Member → Type 0
IsAmong siblings k = get k.0 siblings ≡ Some k.1

abbrev pub AreAmong : Named → List Member → Type 0
AreAmong siblings ks = AllByRecursion (IsAmong siblings) ks

-- ---- lists of which each element is so

module _ {X : Type 0} (P : X → Type 0) where
  kept : (t : X → Bool) (b : Bool) (x : X) (xs : List X) → P x → AllByRecursion P (filter t xs)
      → AllByRecursion P (cond b (x ∷ filter t xs) (filter t xs))
  kept t true x xs p r = (p, r)
  kept t false x xs p r = r

  pub all_of_filter : (t : X → Bool) (xs : List X) → AllByRecursion P xs → AllByRecursion P (filter t xs)
  all_of_filter t [] h = tt
  all_of_filter t (x ∷ xs) h = kept t (t x) x xs h.0 (all_of_filter t xs h.1)

  all_of_both : (xs ys : List X) → AllByRecursion P xs → AllByRecursion P ys → AllByRecursion P (xs ++ ys)
  all_of_both [] ys h r = r
  all_of_both (x ∷ xs) ys h r = (h.0, all_of_both xs ys h.1 r)

-- ---- ascending members

unfoldable pub Below : List ℕ → Named → Type 0
Below k ms = AllByRecursion (λ m. name_cmp k m.0 ≡ Less) ms

below_more : (k l : List ℕ) (ms : Named) → name_cmp k l ≡ Less → Below l ms → Below k ms
unfolding Below
below_more k l [] h r = tt
below_more k l (m ∷ ms) h r = (nat_list_cmp_total.trans k l m.0 h r.0, below_more k l ms h r.1)

pub below_all : (ms : Named) (k : List ℕ) → IsBelowHead k ms → IsAscending ms → Below k ms
unfolding Below
below_all [] k h a = tt
below_all (m ∷ ms) k h a = (h, below_more k m.0 ms h (below_all ms m.0 a.0 a.1))

pub its_own_reverse : (o : Ordering) → o ≡ ordering_reverse o → o ≡ Equal
its_own_reverse Less e = cc
its_own_reverse Equal e = refl
its_own_reverse Greater e = cc

found_here : (m : List ℕ × Value) (ms : Named) → get m.0 (m ∷ ms) ≡ Some m.1
found_here m ms = let e : name_cmp m.0 m.0
    ≡ Equal = its_own_reverse (name_cmp m.0 m.0) (nat_list_cmp_total.antisymm m.0 m.0) in cc

found_later : (x m : List ℕ × Value) (ms : Named) → name_cmp m.0 x.0 ≡ Less → get x.0 ms ≡ Some x.1
    → get x.0 (m ∷ ms) ≡ Some x.1
found_later x m ms h e = let o : name_cmp x.0 m.0 ≡ Greater = nat_list_cmp_total.antisymm x.0 m.0
    ∙ ap ordering_reverse h in cc

all_later : (m : List ℕ × Value) (ms xs : Named) → Below m.0 xs → AreAmong ms xs → AreAmong (m ∷ ms) xs
unfolding Below
all_later m ms [] h r = tt
all_later m ms (x ∷ xs) h r = (found_later x m ms h.0 r.0, all_later m ms xs h.1 r.1)

pub each_among : (ms : Named) → IsAscending ms → AreAmong ms ms
each_among [] a = tt
each_among (m ∷ ms) a = (found_here m ms, all_later m ms ms (below_all ms m.0 a.0 a.1) (each_among ms a.1))

-- ---- the keywords of a schema

pub keywords_among : (schema : Value) → IsAscending (entries schema) → AreAmong (entries schema) (keywords schema)
keywords_among schema a =
    let each = each_among (entries schema) a in
    all_of_both (IsAmong (entries schema)) (keywords_that comes_before_else schema)
    (keywords_that is_else schema ++ keywords_that comes_after_else schema)
    (all_of_filter (IsAmong (entries schema)) (λ k. comes_before_else k.0) (entries schema) each)
    (all_of_both (IsAmong (entries schema)) (keywords_that is_else schema) (keywords_that comes_after_else schema)
    (all_of_filter (IsAmong (entries schema)) (λ k. is_else k.0) (entries schema) each)
    (all_of_filter (IsAmong (entries schema)) (λ k. comes_after_else k.0) (entries schema) each))
