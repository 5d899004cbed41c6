-- What a keyword asks for and whether it passes, by what is known of the keywords before it.
use Rattle.std.specs.Prelude.{◌≡◌, ℕ, Bool, true, false, not, ◌&&◌, ◌||◌, cond, List, [], ◌∷◌, ◌++◌}
use Rattle.std.specs.Prelude.{Some, None, option_map, map, filter, codes, refl}
use Rattle.std.specs.List.{flat_map, AllByRecursion}
use Rattle.std.specs.Option.{option_map_or}
use Rattle.std.specs.Ordering.{is_lt}
use Rattle.std.specs.Str.{bytes_eq}
use Rattle.std.specs.declared.cmp.Ordering.TheVariants.{Less, Equal}
use Rattle.std.proofs.Common.{sym, ◌∙◌, ap, subst, append-nil}
use Rattle.std.proofs.lemmas.Bool.{and_parts}
use Rattle.std.proofs.lemmas.Cmp.{nat_list_cmp_total}
use Rattle.std.proofs.lemmas.List.{append_assoc, append_cancel_left}
use Rattle.std.proofs.lemmas.List.Concat.{flat_map-append}
use Rattle.std.proofs.lemmas.List.Elements.{filter-append}
use Rattle.std.proofs.lemmas.Slice.Eq.{bytes_eq-Decides}
use Rattle.js_doc.specs.Value.{Value, Named}
use Rattle.js_doc.specs.Members.{name_cmp, IsAscending, IsBelowHead}
use Rattle.js_assert.specs.Argument.{entries}
use Rattle.js_assert.specs.Assertion as assertion
use Rattle.js_assert.specs.Assertion.{asserted}
use Rattle.js_assert.specs.ErrorText as text
use Rattle.js_eval.specs.Applications.{Application, application, asks_of}
use Rattle.js_eval.specs.Evaluated.{names_origin, indexes_origin}
use Rattle.js_eval.specs.Keywords.{Member, keywords, keywords_that, comes_before_else, comes_after_else, is_else}
use Rattle.js_keyword.specs.Keyword.{which_keyword}
use Rattle.js_eval.specs.Unevaluated.{is_unevaluated_items, is_unevaluated_properties}
use Rattle.js_doc.specs.Pointer.{pointer_text}
use Rattle.js_eval.specs.Location.{Location, at_keyword_named}
use Rattle.js_eval.specs.Result.{OutputUnit}
use Rattle.js_eval.specs.Note.{Note, error_or_none, keyword_note}
use Rattle.js_eval.specs.Passes.{passes_of}
use Rattle.js_eval.specs.SchemaSet.{Text, SchemaSet, Alone}
use Rattle.js_eval.specs.Verdict as verdict
use Rattle.js_eval.specs.Verdict.{Known, within, asks, passes}
use Rattle.js_keyword.specs.declared.keyword.Keyword.{Keyword}
use Rattle.js_keyword.specs.declared.keyword.Keyword.TheVariants.{Then, Else, Assertion}
use Rattle.js_keyword.specs.declared.keyword.Keyword.TheVariants.{UnevaluatedItems, UnevaluatedProperties}
use Rattle.js_eval.proofs.Standard.{by_keyword}
use Rattle.js_eval.proofs.FoundByName.{IsAmong, AreAmong, all_of_filter, keywords_among}
use Rattle.js_eval.proofs.NoCircle.{names_in_no_circle, indexes_in_no_circle}
use Rattle.js_eval.specs.declared.evaluation.keeping.Origin.{Origin}
use Rattle.js_eval.specs.declared.evaluation.keeping.Origin.TheVariants.{Nowhere}
use Rattle.js_eval.specs.Walk.Progress.{IsKeywordAt, asked_by, passes_by, unit_by, passes_at}
use Rattle.js_eval.proofs.Recursion.AllKeywords.{IsAsBefore}
use Rattle.js_eval.proofs.Recursion.Sources.{no_names_given, no_indexes_given}
use Rattle.js_eval.proofs.Recursion.Order.{itself, is_branch, matches, all_pass, behind_first, found_before}
use Rattle.js_eval.proofs.Recursion.Order.{then_later, condition_in, matching_in, names_in, indexes_in}

-- ---- a keyword that comes first doesn't look at what `contains` matches

-- a lemma of js_assert, whose keywords can't be named here
pub record CountsLater : Type 0 where
  pub says : (name : Text) (argument : Value) (siblings : Named) (v : Value) (m n : ℕ) → comes_before_else name ≡ true
      → option_map_or (λ a. assertion.says a v m) (asserted name argument siblings) true
      ≡ option_map_or (λ a. assertion.says a v n) (asserted name argument siblings) true
  pub error : (name : Text) (argument : Value) (siblings : Named) (v : Value) (m n : ℕ) → comes_before_else name ≡ true
      → option_map_or (λ a. text.error a v m) (asserted name argument siblings) None
      ≡ option_map_or (λ a. text.error a v n) (asserted name argument siblings) None

module _ (later : CountsLater) (siblings : Named) (v : Value) (m n : ℕ) (k : Member)
    (first : comes_before_else k.0 ≡ true) where
  pub passes_first : (verdicts : List Bool) (κ : Keyword)
      → passes_of siblings v m k verdicts κ ≡ passes_of siblings v n k verdicts κ
  passes_first verdicts (Assertion _) = later.says k.0 k.1 siblings v m n first
  passes_first verdicts _ = refl

  pub note_first : {P : Type 0} (apps holding : List (Application P)) (b : Bool) (κ : Keyword)
      → keyword_note siblings v m k apps holding b κ ≡ keyword_note siblings v n k apps holding b κ
  note_first apps holding true (Assertion _) = refl
  note_first apps holding true _ = refl
  note_first apps holding false (Assertion _) = ap error_or_none (later.error k.0 k.1 siblings v m n first)
  note_first apps holding false _ = refl

-- ---- ascending names

abbrev Above : Text → Named → Type 0
Above n xs = AllByRecursion (λ x. name_cmp n x.0 ≡ Less) xs

abbrev Ascends : Named → Type 0
Ascends [] = Unit {0}
Ascends (m ∷ ms) = Above m.0 ms × Ascends ms

above_more : (k l : Text) (ms : Named) → name_cmp k l ≡ Less → Above l ms → Above k ms
above_more k l [] h r = tt
above_more k l (m ∷ ms) h r = (nat_list_cmp_total.trans k l m.0 h r.0, above_more k l ms h r.1)

above_all : (ms : Named) (k : Text) → IsBelowHead k ms → IsAscending ms → Above k ms
above_all [] k h a = tt
above_all (m ∷ ms) k h a = (h, above_more k m.0 ms h (above_all ms m.0 a.0 a.1))

ascends : (ms : Named) → IsAscending ms → Ascends ms
ascends [] a = tt
ascends (m ∷ ms) a = (above_all ms m.0 a.0 a.1, ascends ms a.1)

ascends_at : (t : Member → Bool) (b : Bool) (m : Member) (ms : Named) → Above m.0 ms → Ascends (filter t ms)
    → Ascends (cond b (m ∷ filter t ms) (filter t ms))
ascends_at t true m ms h r = (all_of_filter (λ x. name_cmp m.0 x.0 ≡ Less) t ms h, r)
ascends_at t false m ms h r = r

ascends_chosen : (t : Member → Bool) (ms : Named) → Ascends ms → Ascends (filter t ms)
ascends_chosen t [] a = tt
ascends_chosen t (m ∷ ms) a = ascends_at t (t m) m ms a.0 (ascends_chosen t ms a.1)

after_it : (l more : Named) (k : Member) → Ascends (l ++ k ∷ more) → Above k.0 more
after_it [] more k a = a.0
after_it (x ∷ l) more k a = after_it l more k a.1

below_it : (x k : Member) (l more : Named) → Above x.0 (l ++ k ∷ more) → name_cmp x.0 k.0 ≡ Less
below_it x k [] more a = a.0
below_it x k (y ∷ l) more a = below_it x k l more a.1

before_it : (l more : Named) (k : Member) → Ascends (l ++ k ∷ more) → AllByRecursion (λ x. name_cmp x.0 k.0 ≡ Less) l
before_it [] more k a = tt
before_it (x ∷ l) more k a = (below_it x k l more a.0, before_it l more k a.1)

-- ---- a keyword that looks at what the others have evaluated

filter_whole : {X : Type 0} (q : X → Bool) (xs : List X) → AllByRecursion (λ x. q x ≡ true) xs → filter q xs ≡ xs
filter_whole q [] h = refl
filter_whole q (x ∷ xs) h = let r = filter_whole q xs h.1 in let e = h.0 in rw e (ap (λ l. x ∷ l) r)

nothing_at : {X A : Type 0} (f : X → List A) (q : X → Bool) (b : Bool) (x : X) (xs : List X) → f x ≡ []
    → flat_map f (filter q xs) ≡ [] → flat_map f (cond b (x ∷ filter q xs) (filter q xs)) ≡ []
nothing_at f q true x xs e r = cc
nothing_at f q false x xs e r = r

nothing_behind : {X A : Type 0} (f : X → List A) (q : X → Bool) (xs : List X) → AllByRecursion (λ x. f x ≡ []) xs
    → flat_map f (filter q xs) ≡ []
nothing_behind f q [] h = refl
nothing_behind f q (x ∷ xs) h = nothing_at f q (q x) x xs h.0 (nothing_behind f q xs h.1)

all_both_ways : {X : Type 0} (Q : X → Type 0) (xs ys : List X) → AllByRecursion Q xs → AllByRecursion Q ys
    → AllByRecursion Q (xs ++ ys)
all_both_ways Q [] ys h r = r
all_both_ways Q (x ∷ xs) ys h r = (h.0, all_both_ways Q xs ys h.1 r)

all_so : {X : Type 0} (Q R : X → Type 0) → ((x : X) → Q x → R x) → (xs : List X)
    → AllByRecursion Q xs → AllByRecursion R xs
all_so Q R f [] h = tt
all_so Q R f (x ∷ xs) h = (f x h.0, all_so Q R f xs h.1)

by_test_at : {X : Type 0} (p : X → Bool) (R : X → Type 0) (x : X) (xs : List X) → ((x : X) → p x ≡ true → R x)
    → AllByRecursion R (filter p xs) → (b : Bool) → p x ≡ b → AllByRecursion R (cond b (x ∷ filter p xs) (filter p xs))
by_test_at p R x xs f rest true e = (f x e, rest)
by_test_at p R x xs f rest false e = rest

by_test : {X : Type 0} (p : X → Bool) (R : X → Type 0) → ((x : X) → p x ≡ true → R x) → (xs : List X)
    → AllByRecursion R (filter p xs)
by_test p R f [] = tt
by_test p R f (x ∷ xs) = by_test_at p R x xs f (by_test p R f xs) (p x) refl

module _ (schema : Value) (ascending : IsAscending (entries schema)) (done more : List Member) (k : Member)
    (split : done ++ k ∷ more ≡ keywords schema)
    (u : Member → Bool) (not_first : comes_before_else k.0 ≡ false) (not_else : is_else k.0 ≡ false)
    (first : (x : Member) → comes_before_else x.0 ≡ true → u x ≡ false) (other : (x : Member) → is_else x.0 ≡ true
    → u x ≡ false) (less : (x : Member) → name_cmp x.0 k.0 ≡ Less → u x ≡ false) (it : u k ≡ true)
    {A : Type 0} (f : Member → List A) (behind : (x : Member) → name_cmp k.0 x.0 ≡ Less → f x ≡ []) where
  pub all_before : flat_map f (filter (λ x. not (u x)) (keywords schema)) ≡ flat_map f done
  all_before =
      let q = λ (x : Member). not (u x) in
      let d = behind_first (λ l. comes_before_else l.0) (keywords_that comes_before_else schema)
      (keywords_that is_else schema ++ keywords_that comes_after_else schema) done more k
      (all_pass (λ l. comes_before_else l.0) (entries schema)) not_first split in
      let s2 : d.0 ++ k ∷ more ≡ keywords_that is_else schema ++ keywords_that comes_after_else schema =
      append_cancel_left (keywords_that comes_before_else schema) _ _ (sym (append_assoc
      (keywords_that comes_before_else schema) d.0 (k ∷ more)) ∙ (ap (λ l. l ++ k ∷ more) (sym d.1) ∙ split)) in
      let e = behind_first (λ l. is_else l.0) (keywords_that is_else schema) (keywords_that comes_after_else schema) d.0
      more k (all_pass (λ l. is_else l.0) (entries schema)) not_else s2 in
      let s3 : e.0 ++ k ∷ more ≡ keywords_that comes_after_else schema = append_cancel_left
      (keywords_that is_else schema) _ _ (sym (append_assoc (keywords_that is_else schema) e.0 (k ∷ more))
      ∙ (ap (λ l. l ++ k ∷ more) (sym e.1) ∙ s2)) in
      let a : Ascends (e.0 ++ k ∷ more) = subst Ascends (sym s3)
      (ascends_chosen (λ l. comes_after_else l.0) (entries schema) (ascends (entries schema) ascending)) in
      let pass = λ (x : Member) (h : u x ≡ false). let r : not (u x) ≡ true = ap not h in r in
      let whole : AllByRecursion (λ x. q x ≡ true) done = subst (AllByRecursion (λ x. q x ≡ true))
      (sym (d.1 ∙ ap (λ l. keywords_that comes_before_else schema ++ l) e.1))
      (all_both_ways (λ x. q x ≡ true) (keywords_that comes_before_else schema) (keywords_that is_else schema ++ e.0)
      (by_test (λ l. comes_before_else l.0) (λ x. q x ≡ true) (λ x h. pass x (first x h)) (entries schema))
      (all_both_ways (λ x. q x ≡ true) (keywords_that is_else schema) e.0
      (by_test (λ l. is_else l.0) (λ x. q x ≡ true) (λ x h. pass x (other x h)) (entries schema))
      (all_so (λ x. name_cmp x.0 k.0 ≡ Less) (λ x. q x ≡ true) (λ x h. pass x (less x h)) e.0
      (before_it e.0 more k a)))) in
      let none : flat_map f (filter q more) ≡ [] = nothing_behind f q more
      (all_so (λ x. name_cmp k.0 x.0 ≡ Less) (λ x. f x ≡ []) behind more (after_it e.0 more k a)) in
      let gone : filter q (k ∷ more) ≡ filter q more = let n : not (u k) ≡ false = ap not it in rw n refl in
      ap (λ l. flat_map f (filter q l)) (sym split)
      ∙ (ap (flat_map f) (filter-append q done (k ∷ more))
      ∙ (flat_map-append f (filter q done) (filter q (k ∷ more))
      ∙ (ap (λ l. flat_map f l ++ flat_map f (filter q (k ∷ more))) (filter_whole q done whole)
      ∙ (ap (λ l. flat_map f done ++ flat_map f l) gone
      ∙ (ap (λ l. flat_map f done ++ l) none ∙ append-nil (flat_map f done))))))

abbrev is_nowhere : Origin → Bool
is_nowhere Nowhere = true
is_nowhere _ = false

nowhere : (s : Origin) → is_nowhere s ≡ true → s ≡ Nowhere
nowhere Nowhere h = refl
nowhere _ h = cc

abbrev placed : (Keyword → Bool) → Text → Text → Keyword → Bool
placed is w n κ = not (is κ) || (not (comes_before_else n) && (not (is_else n) && bytes_eq n w))

abbrev silent_after : (Keyword → Origin) → Text → Text → Keyword → Bool
silent_after source w n κ = not (is_lt (name_cmp w n)) || is_nowhere (source κ)

implied : (a b : Bool) → (not a || b) ≡ true → a ≡ true → b ≡ true
implied true b h e = h
implied false b h e = cc

not_so : (a : Bool) → not a ≡ true → a ≡ false
not_so true h = cc
not_so false h = refl

excluded : (a b : Bool) → (a ≡ true → b ≡ false) → b ≡ true → a ≡ false
excluded true b f h = absurd (let e = f refl in let z : true ≡ false = sym h ∙ e in cc)
excluded false b f h = refl

module _ (is : Keyword → Bool) (w : Text) (source : Keyword → Origin)
    (where_it_is : (name : Text) → placed is w name (which_keyword name) ≡ true) (silent_behind : (name : Text)
    → silent_after source w name (which_keyword name) ≡ true) where
  place_of : (name : Text) → is (which_keyword name) ≡ true
      → (comes_before_else name ≡ false) × (is_else name ≡ false) × (name ≡ w)
  place_of name h =
      let a = implied (is (which_keyword name))
      (not (comes_before_else name) && (not (is_else name) && bytes_eq name w))
      (where_it_is name) h in
      let b = and_parts (not (comes_before_else name)) (not (is_else name) && bytes_eq name w) a in
      let c = and_parts (not (is_else name)) (bytes_eq name w) b.1 in
      (not_so (comes_before_else name) b.0, not_so (is_else name) c.0, (bytes_eq-Decides name w).0 c.1)

  below_not : (k x : Member) → is (which_keyword k.0) ≡ true → name_cmp x.0 k.0 ≡ Less → is (which_keyword x.0) ≡ false
  below_not k x h l = at (is (which_keyword x.0)) refl
    where
      at : (b : Bool) → is (which_keyword x.0) ≡ b → b ≡ false
      at true e = absurd (let p = place_of k.0 h in let q = place_of x.0 e in
          let z : Less ≡ Equal = sym l ∙ (ap (λ n. name_cmp n k.0) (q.2 ∙ sym p.2) ∙ itself k.0) in cc)
      at false e = refl

  behind_silent : (k x : Member) → is (which_keyword k.0) ≡ true → name_cmp k.0 x.0 ≡ Less
      → source (which_keyword x.0) ≡ Nowhere
  behind_silent k x h l =
      let p = place_of k.0 h in
      nowhere (source (which_keyword x.0)) (implied (is_lt (name_cmp w x.0)) (is_nowhere (source (which_keyword x.0)))
      (silent_behind x.0)
      (ap is_lt (ap (λ n. name_cmp n x.0) (sym p.2) ∙ l)))

  module _ (schema : Value) (ascending : IsAscending (entries schema)) (done more : List Member) (k : Member)
      (split : done ++ k ∷ more ≡ keywords schema) (h : is (which_keyword k.0) ≡ true)
      {A : Type 0} (f : Member → List A) (f_silent : (x : Member) → source (which_keyword x.0) ≡ Nowhere
      → f x ≡ []) where
    pub others_before : flat_map f (filter (λ x. not (is (which_keyword x.0))) (keywords schema)) ≡ flat_map f done
    others_before =
        let p = place_of k.0 h in
        all_before schema ascending done more k split (λ x. is (which_keyword x.0)) p.0 p.1
        (λ x c. excluded (is (which_keyword x.0)) (comes_before_else x.0) (λ e. (place_of x.0 e).0) c)
        (λ x c. excluded (is (which_keyword x.0)) (is_else x.0) (λ e. (place_of x.0 e).1) c)
        (λ x l. below_not k x h l) h f (λ x l. f_silent x (behind_silent k x h l))

names_placed : (name : Text) → placed is_unevaluated_properties (codes "unevaluatedProperties") name
    (which_keyword name) ≡ true
names_placed name = by_keyword (placed is_unevaluated_properties (codes "unevaluatedProperties"))
    (λ n a. refl) (λ n other. refl) refl name

or_true : (b : Bool) → (b || true) ≡ true
or_true true = refl
or_true false = refl

names_silent : (name : Text)
    → silent_after names_origin (codes "unevaluatedProperties") name (which_keyword name) ≡ true
names_silent name = by_keyword (silent_after names_origin (codes "unevaluatedProperties"))
    (λ n a. or_true _) (λ n other. or_true _) refl name

indexes_placed : (name : Text) → placed is_unevaluated_items (codes "unevaluatedItems") name (which_keyword name) ≡ true
indexes_placed name = by_keyword (placed is_unevaluated_items (codes "unevaluatedItems"))
    (λ n a. refl) (λ n other. refl) refl name

indexes_silent : (name : Text) → silent_after indexes_origin (codes "unevaluatedItems") name (which_keyword name) ≡ true
indexes_silent name = by_keyword (silent_after indexes_origin (codes "unevaluatedItems"))
    (λ n a. or_true _) (λ n other. or_true _) refl name

module _ {P : Type 0} (later : CountsLater) (S : SchemaSet P) (known : Known P) (above : List P) (place : P) (v : Value)
    (ascending : IsAscending (entries (S.schema place))) (done more : List Member) (k : Member)
    (split : done ++ k ∷ more ≡ keywords (S.schema place)) where
  names_before : is_unevaluated_properties (which_keyword k.0) ≡ true
      → names_in S known above place v done ≡ verdict.evaluated_names S known above place v
  names_before h =
      sym (others_before is_unevaluated_properties (codes "unevaluatedProperties") names_origin names_placed
      names_silent (S.schema place) ascending done more k split h
      (verdict.gives_names S known above place v) (no_names_given S known above place v))
      ∙ names_in_no_circle S known above place v

  indexes_before : is_unevaluated_items (which_keyword k.0) ≡ true
      → indexes_in S known above place v done ≡ verdict.evaluated_indexes S known above place v
  indexes_before h =
      sym (others_before is_unevaluated_items (codes "unevaluatedItems") indexes_origin indexes_placed indexes_silent
      (S.schema place) ascending done more k split h (verdict.gives_indexes S known above place v)
      (no_indexes_given S known above place v))
      ∙ indexes_in_no_circle S known above place v

  condition_before : comes_before_else k.0 ≡ false
      → condition_in S known above place v done ≡ verdict.condition S known above place v
  condition_before h = ap (option_map (λ _. verdict.application_holds S known above place v (application S place
      (codes "if") Alone Alone v))) (found_before (S.schema place) ascending done more k split (codes "if") refl h)

  matching_before : comes_before_else k.0 ≡ false
      → matching_in S known above place v done ≡ verdict.matching S known above place v
  matching_before h = ap (λ o. option_map_or (λ _. matches S known above place v) o 0)
      (found_before (S.schema place) ascending done more k split (codes "contains") refl h)

  -- what is known of the keywords before it serves a keyword as well as what there is to be known
  asks_before_at : (κ : Keyword) → which_keyword k.0 ≡ κ
      → asks_of S (above ++ place ∷ []) place (entries (S.schema place)) v (condition_in S known above place v done)
      (names_in S known above place v done) (indexes_in S known above place v done) k κ
      ≡ asks_of S (above ++ place ∷ []) place (entries (S.schema place)) v (verdict.condition S known above place v)
      (verdict.evaluated_names S known above place v) (verdict.evaluated_indexes S known above place v) k κ
  asks_before_at Then e = let c = condition_before (then_later k.0 (comes_before_else k.0) (ap is_branch e) refl) in cc
  asks_before_at Else e = let c = condition_before (then_later k.0 (comes_before_else k.0) (ap is_branch e) refl) in cc
  asks_before_at UnevaluatedItems e = let c = indexes_before (ap is_unevaluated_items e) in
      ap (λ is. asks_of S (above ++ place ∷ []) place (entries (S.schema place)) v None [] is k UnevaluatedItems) c
  asks_before_at UnevaluatedProperties e = let c = names_before (ap is_unevaluated_properties e) in
      ap (λ ns. asks_of S (above ++ place ∷ []) place (entries (S.schema place)) v None ns [] k UnevaluatedProperties) c
  asks_before_at _ e = refl

  pub asks_before : asks_of S (above ++ place ∷ []) place (entries (S.schema place)) v
      (condition_in S known above place v done) (names_in S known above place v done)
      (indexes_in S known above place v done) k (which_keyword k.0) ≡ verdict.asks S known above place v k
  asks_before = asks_before_at (which_keyword k.0) refl

  passes_before_at : (b : Bool) → comes_before_else k.0 ≡ b → (verdicts : List Bool)
      → passes_of (entries (S.schema place)) v (matching_in S known above place v done) k verdicts (which_keyword k.0)
      ≡ passes_of (entries (S.schema place)) v (verdict.matching S known above place v) k verdicts (which_keyword k.0)
  passes_before_at true e verdicts =
      passes_first later (entries (S.schema place)) v _ _ k e verdicts (which_keyword k.0)
  passes_before_at false e verdicts =
      ap (λ m. passes_of (entries (S.schema place)) v m k verdicts (which_keyword k.0)) (matching_before e)

  pub passes_before : (verdicts : List Bool)
      → passes_of (entries (S.schema place)) v (matching_in S known above place v done) k verdicts (which_keyword k.0)
      ≡ passes_of (entries (S.schema place)) v (verdict.matching S known above place v) k verdicts (which_keyword k.0)
  passes_before = passes_before_at (comes_before_else k.0) refl

  note_before_at : (b : Bool) → comes_before_else k.0 ≡ b → (apps holding : List (Application P)) (p : Bool)
      → keyword_note (entries (S.schema place)) v (matching_in S known above place v done) k apps holding p
      (which_keyword k.0)
      ≡ keyword_note (entries (S.schema place)) v (verdict.matching S known above place v) k apps holding p
      (which_keyword k.0)
  note_before_at true e apps holding p = note_first later (entries (S.schema place)) v _ _ k e apps holding p
      (which_keyword k.0)
  note_before_at false e apps holding p =
      ap (λ m. keyword_note (entries (S.schema place)) v m k apps holding p (which_keyword k.0)) (matching_before e)

  pub note_before : (apps holding : List (Application P)) (p : Bool)
      → keyword_note (entries (S.schema place)) v (matching_in S known above place v done) k apps holding p
      (which_keyword k.0)
      ≡ keyword_note (entries (S.schema place)) v (verdict.matching S known above place v) k apps holding p
      (which_keyword k.0)
  note_before = note_before_at (comes_before_else k.0) refl

abbrev unit_with : {P : Type 0} → SchemaSet P → List P → P → Location → Member → Bool → Note → OutputUnit
unit_with S above place at k b note = record {
  valid = b;
  keyword = pointer_text (at_keyword_named at k.0).keyword;
  absolute = S.absolute place (Some k.0);
  instance = pointer_text at.instance;
  note = note;
}

-- what the walk knows of the keywords before one serves
pub is_as_before : {P : Type 0} → CountsLater → (S : SchemaSet P) (m : ℕ) (above : List P) (place : P) (v : Value)
    → IsAscending (entries (S.schema place)) → (done more : List Member) (k : Member)
    → done ++ k ∷ more ≡ keywords (S.schema place) → IsAsBefore S m above place v done k
unfolding asked_by passes_by unit_by passes_at
is_as_before later S m above place v a done more k split =
    record {
      same_asks = asks_before later S (within S m) above place v a done more k split;
      same_unit = λ at.
          let p = passes_before later S (within S m) above place v a done more k split (map
          (λ x. (within S m).holds (above ++ place ∷ []) x.place x.value) (asks S (within S m) above place v k)) in
          let n = note_before later S (within S m) above place v a done more k split (asks S (within S m) above place v
          k) (filter (λ x. (within S m).holds (above ++ place ∷ []) x.place x.value)
          (asks S (within S m) above place v k)) (passes S (within S m) above place v k) in
          ap (λ b. unit_with S above place at k b (keyword_note (entries (S.schema place)) v (matching_in S
          (within S m) above place v done) k (asks S (within S m) above place v k) (filter (λ x. (within S m).holds
          (above ++ place ∷ []) x.place x.value) (asks S (within S m) above place v k)) b (which_keyword k.0))) p
          ∙ ap (unit_with S above place at k (passes S (within S m) above place v k)) n;
    }

-- the keywords of a schema stand in it
behind_them : {X : Type 0} (P : X → Type 0) (xs ys : List X) (y : X) → AllByRecursion P (xs ++ y ∷ ys) → P y
behind_them P [] ys y h = h.0
behind_them P (x ∷ xs) ys y h = behind_them P xs ys y h.1

pub is_keyword_at : {P : Type 0} (S : SchemaSet P) (place : P) → IsAscending (entries (S.schema place))
    → (done more : List Member) (k : Member) → done ++ k ∷ more ≡ keywords (S.schema place) → IsKeywordAt S place k
unfolding IsKeywordAt
is_keyword_at S place a done more k split =
    behind_them (IsAmong (entries (S.schema place))) done more k
    (subst (AreAmong (entries (S.schema place))) (sym split) (keywords_among (S.schema place) a))
