-- The keywords that a quiet walk doesn't visit ask for nothing and give nothing.
use Rattle.std.specs.Prelude.{◌≡◌, ℕ, ◌+◌, ◌-◌, ◌≤◌, Bool, true, false, not, ◌&&◌, cond, List, []}
use Rattle.std.specs.Prelude.{◌∷◌, ◌++◌, Option, filter, length, sum_by, refl}
use Rattle.std.specs.List.{list_all}
use Rattle.std.proofs.Common.{sym, ◌∙◌, ap, arith, append-nil}
use Rattle.std.proofs.lemmas.List.Elements.{filter-append}
use Rattle.std.proofs.lemmas.List.Filters.{sum_by-filter_both}
use Rattle.std.proofs.lemmas.List.Sums.{sum_by-cons}
use Rattle.js_doc.specs.Value.{Value, Named}
use Rattle.js_assert.specs.Argument.{entries}
use Rattle.js_tree.specs.Events.{Event, Passes}
use Rattle.js_eval.specs.Applications.{asks_of}
use Rattle.js_eval.specs.Keywords.{Member}
use Rattle.js_keyword.specs.Keyword.{which_keyword}
use Rattle.js_eval.specs.SchemaSet.{Text, SchemaSet}
use Rattle.js_eval.specs.Size.{nodes_of_keyword}
use Rattle.js_eval.specs.Verdict.{Known, asks, gives_names, gives_indexes, passes_by}
use Rattle.js_keyword.specs.declared.keyword.Keyword.{Keyword}
use Rattle.js_keyword.specs.declared.keyword.Keyword.TheVariants.{Assertion, Other}
use Rattle.js_eval.specs.Evaluated.{names_origin, indexes_origin}
use Rattle.js_eval.specs.Walk.Keeping.{condition_step, matching_step}
use Rattle.js_eval.specs.declared.evaluation.keeping.Origin.TheVariants.{Nowhere}
use Rattle.js_eval.specs.Walk.Progress.{passes_at}
use Rattle.js_eval.specs.Walk.Visited.{may_apply, is_visited}
use Rattle.js_eval.proofs.Recursion.Sources.{no_names_given, no_indexes_given}

pub unvisited : (quiet : Bool) (k : Member) → is_visited quiet k ≡ false → may_apply (which_keyword k.0) ≡ false
unfolding is_visited
unvisited true k h = h
unvisited false k h = cc

pub all_visited : (k : Member) → is_visited false k ≡ true
unfolding is_visited
all_visited k = refl

-- ---- by the keyword

condition_same : (κ : Keyword) (succeeded : ℕ) (before : Option Bool) → may_apply κ ≡ false
    → condition_step κ succeeded before ≡ before
condition_same (Assertion _) succeeded before h = refl
condition_same (Other _) succeeded before h = refl
condition_same _ succeeded before h = cc

matching_same : (κ : Keyword) (succeeded before : ℕ) → may_apply κ ≡ false
    → matching_step κ succeeded before ≡ before
matching_same (Assertion _) succeeded before h = refl
matching_same (Other _) succeeded before h = refl
matching_same _ succeeded before h = cc

names_nowhere : (κ : Keyword) → may_apply κ ≡ false → names_origin κ ≡ Nowhere
names_nowhere (Assertion _) h = refl
names_nowhere (Other _) h = refl
names_nowhere _ h = cc

indexes_nowhere : (κ : Keyword) → may_apply κ ≡ false → indexes_origin κ ≡ Nowhere
indexes_nowhere (Assertion _) h = refl
indexes_nowhere (Other _) h = refl
indexes_nowhere _ h = cc

none_asked : {P : Type 0} (S : SchemaSet P) (path : List P) (place : P) (siblings : Named) (v : Value) (c : Option Bool)
    (ns : List Text) (is : List ℕ) (k : Member) (κ : Keyword) → may_apply κ ≡ false
    → asks_of S path place siblings v c ns is k κ ≡ []
none_asked S path place siblings v c ns is k (Assertion _) h = refl
none_asked S path place siblings v c ns is k (Other _) h = refl
none_asked S path place siblings v c ns is k _ h = cc

-- ---- a keyword that isn't visited

module _ (quiet : Bool) (k : Member) (h : is_visited quiet k ≡ false) where
  pub condition_kept : (succeeded : ℕ) (before : Option Bool) → condition_step (which_keyword k.0) succeeded before
      ≡ before
  condition_kept succeeded before = condition_same (which_keyword k.0) succeeded before (unvisited quiet k h)

  pub matching_kept : (succeeded before : ℕ) → matching_step (which_keyword k.0) succeeded before ≡ before
  matching_kept succeeded before = matching_same (which_keyword k.0) succeeded before (unvisited quiet k h)

  module _ {P : Type 0} (S : SchemaSet P) (known : Known P) (above : List P) (place : P) (v : Value) where
    pub asks_none : asks S known above place v k ≡ []
    asks_none = none_asked S (above ++ place ∷ []) place (entries (S.schema place)) v _ _ _ k
        (which_keyword k.0) (unvisited quiet k h)

    pub gives_no_names : gives_names S known above place v k ≡ []
    gives_no_names =
        no_names_given S known above place v k (names_nowhere (which_keyword k.0) (unvisited quiet k h))

    pub gives_no_indexes : gives_indexes S known above place v k ≡ []
    gives_no_indexes =
        no_indexes_given S known above place v k (indexes_nowhere (which_keyword k.0) (unvisited quiet k h))

-- ---- lists of keywords

pub more_visited : (p : Member → Bool) (ks : List Member) (k : Member) → p k ≡ true
    → filter p (ks ++ k ∷ []) ≡ filter p ks ++ k ∷ []
more_visited p ks k h = filter-append p ks (k ∷ []) ∙ ap (λ b. filter p ks ++ cond b (k ∷ []) []) h

pub none_visited : (p : Member → Bool) (ks : List Member) (k : Member) → p k ≡ false
    → filter p (ks ++ k ∷ []) ≡ filter p ks
none_visited p ks k h = filter-append p ks (k ∷ [])
    ∙ (ap (λ b. filter p ks ++ cond b (k ∷ []) []) h ∙ append-nil (filter p ks))

every_one : (p : Member → Bool) (b : Bool) (k : Member) (ks ls : List Member) → b ≡ true → ls ≡ ks
    → cond b (k ∷ ls) ls ≡ k ∷ ks
every_one p true k ks ls h e = ap (λ l. k ∷ l) e
every_one p false k ks ls h e = cc

pub every_visited : (p : Member → Bool) → ((k : Member) → p k ≡ true) → (ks : List Member) → filter p ks ≡ ks
every_visited p all [] = refl
every_visited p all (k ∷ ks) = every_one p (p k) k ks (filter p ks) (all k) (every_visited p all ks)

and_apart : (b q a c r : Bool) → r ≡ (a && c) → (q && r) ≡ (cond b (q && a) a && cond (not b) (q && c) c)
and_apart true true a c r e = e
and_apart true false a c r e = refl
and_apart false true a c r e = e
and_apart false false true c r e = refl
and_apart false false false c r e = refl

all_if : (q : Member → Bool) (b : Bool) (k : Member) (ks : List Member)
    → list_all q (cond b (k ∷ ks) ks) ≡ cond b (q k && list_all q ks) (list_all q ks)
all_if q true k ks = refl
all_if q false k ks = refl

-- what holds of all keywords holds of those that a test chooses and of the others
pub all_apart : (p q : Member → Bool) (ks : List Member)
    → list_all q ks ≡ (list_all q (filter p ks) && list_all q (filter (λ k. not (p k)) ks))
all_apart p q [] = refl
all_apart p q (k ∷ ks) =
    let a = all_if q (p k) k (filter p ks) in
    let c = all_if q (not (p k)) k (filter (λ l. not (p l)) ks) in
    and_apart (p k) (q k) (list_all q (filter p ks)) (list_all q (filter (λ l. not (p l)) ks)) (list_all q ks)
    (all_apart p q ks) ∙ (ap (λ b. b && cond (not (p k)) (q k && list_all q (filter (λ l. not (p l)) ks))
    (list_all q (filter (λ l. not (p l)) ks))) (sym a) ∙ ap (λ b. list_all q (filter p (k ∷ ks)) && b) (sym c))

pub sum_apart : (p : Member → Bool) (f : Member → ℕ) (ks : List Member)
    → sum_by f (filter p ks) + sum_by f (filter (λ k. not (p k)) ks) ≡ sum_by f ks
sum_apart p f ks = sum_by-filter_both p (λ k. not (p k)) (λ k. refl) f ks

-- what a function gives of each of the keywords that a test chooses
all_same_at : (p q r : Member → Bool) (b : Bool) (k : Member) (ks : List Member) → b ≡ p k
    → ((l : Member) → p l ≡ true → q l ≡ r l) → list_all q ks ≡ list_all r ks
    → list_all q (cond b (k ∷ ks) ks) ≡ list_all r (cond b (k ∷ ks) ks)
all_same_at p q r true k ks e same i = ap (λ x. x && list_all q ks) (same k (sym e)) ∙ ap (λ x. r k && x) i
all_same_at p q r false k ks e same i = i

pub all_same : (p q r : Member → Bool) → ((k : Member) → p k ≡ true → q k ≡ r k) → (ks : List Member)
    → list_all q (filter p ks) ≡ list_all r (filter p ks)
all_same p q r same [] = refl
all_same p q r same (k ∷ ks) = all_same_at p q r (p k) k (filter p ks) refl same (all_same p q r same ks)

ones_at : (p : Member → Bool) (f : Member → ℕ) (b : Bool) (k : Member) (ks : List Member) → b ≡ p k → ((l : Member)
    → p l ≡ true → f l ≡ 1) → sum_by f ks ≡ length ks → sum_by f (cond b (k ∷ ks) ks) ≡ length (cond b (k ∷ ks) ks)
ones_at p f true k ks e one i = let o = one k (sym e) in omega (arith, o, i, sum_by-cons f k ks)
ones_at p f false k ks e one i = i

pub ones : (p : Member → Bool) (f : Member → ℕ) → ((k : Member) → p k ≡ true → f k ≡ 1) → (ks : List Member)
    → sum_by f (filter p ks) ≡ length (filter p ks)
ones p f one [] = refl
ones p f one (k ∷ ks) = ones_at p f (p k) k (filter p ks) refl one (ones p f one ks)

not_true : (b : Bool) → not b ≡ true → b ≡ false
not_true true h = cc
not_true false h = refl

module _ {P : Type 0} (S : SchemaSet P) (known : Known P) (above : List P) (place : P) (v : Value) where
  -- the others pass by themselves, and have a node each
  pub others_pass : (quiet : Bool) (matching : ℕ) (k : Member) → not (is_visited quiet k) ≡ true
      → passes_by S known above place v matching k (asks S known above place v k) ≡ passes_at S place v matching k []
  unfolding passes_at
  others_pass quiet matching k h = ap (λ l. passes_by S known above place v matching k l)
      (asks_none quiet k (not_true (is_visited quiet k) h) S known above place v)

  pub others_alone : (quiet : Bool) (nodes : List P → P → Value → ℕ) (k : Member) → not (is_visited quiet k) ≡ true
      → nodes_of_keyword S known nodes above place v k ≡ 1
  others_alone quiet nodes k h = ap (λ l. 1 + sum_by (λ a. nodes (above ++ place ∷ []) a.place a.value) l)
      (asks_none quiet k (not_true (is_visited quiet k) h) S known above place v)

-- ---- a reporter that takes any event

any_more : {C : Type 0} (takes : C → Event → C → Type 0) → ((c d : C) (e : Event) → takes c e d)
    → (es : List Event) (d : C) → Passes takes es d d
any_more takes any [] d = refl
any_more takes any (e ∷ es) d = (d, any d d e, any_more takes any es d)

pub any_events : {C : Type 0} (takes : C → Event → C → Type 0) → ((c d : C) (e : Event) → takes c e d)
    → (e : Event) (es : List Event) (c d : C) → Passes takes (e ∷ es) c d
any_events takes any e es c d = (d, any c d e, any_more takes any es d)

-- what was taken away, given back
pub given_back : (left count : ℕ) → count ≤ left → (left - count) + count ≡ left
given_back left count h = omega (arith, h)
