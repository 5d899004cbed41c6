-- What is known from the keywords before one is what it looks at: `if` stands before `then` and `else`, `contains`
-- before the two that count what it matches, and what gives names or indexes before the two unevaluated keywords.
use Rattle.std.specs.Prelude.{◌≡◌, ℕ, ◌==◌, Bool, true, false, not, ◌||◌, cond, List, [], ◌∷◌, ◌++◌, Option}
use Rattle.std.specs.Prelude.{Some, None, option_map, filter, length, codes, refl}
use Rattle.std.specs.List.{list_all, flat_map}
use Rattle.std.specs.Option.{option_map_or}
use Rattle.std.specs.Ordering.{match_ordering, is_eq}
use Rattle.std.specs.Str.{bytes_eq}
use Rattle.std.specs.declared.cmp.Ordering.{Ordering}
use Rattle.std.specs.declared.cmp.Ordering.TheVariants.{Less, Equal, Greater}
use Rattle.std.proofs.Common.{sym, ◌∙◌, ap, subst}
use Rattle.std.proofs.lemmas.Bool.{and_parts}
use Rattle.std.proofs.lemmas.Map.Text.{is_eq-slice_cmp}
use Rattle.std.proofs.lemmas.Slice.Eq.{bytes_eq-Decides}
use Rattle.js_doc.specs.Value.{Value, Named}
use Rattle.js_doc.specs.Members.{get, name_cmp, IsAscending}
use Rattle.js_assert.specs.Argument.{entries}
use Rattle.js_keyword.proofs.KeywordNames.{known_by_name}
use Rattle.js_eval.specs.Applications.{Application, application, asks_of}
use Rattle.js_eval.specs.Keywords.{Member, keywords, keywords_that, comes_before_else, comes_after_else, is_else}
use Rattle.js_keyword.specs.Keyword.{which_keyword}
use Rattle.js_eval.specs.SchemaSet.{Text, SchemaSet, Alone}
use Rattle.js_eval.specs.Verdict as verdict
use Rattle.js_eval.specs.Verdict.{Known}
use Rattle.js_keyword.specs.declared.keyword.Keyword.{Keyword}
use Rattle.js_keyword.specs.declared.keyword.Keyword.TheVariants.{If, Then, Else, Contains}
use Rattle.js_eval.proofs.Standard.{by_keyword}
use Rattle.js_eval.proofs.FoundByName.{IsAmong, AreAmong, keywords_among}
use Rattle.js_eval.specs.Walk.Keeping.{condition_step, matching_step}

-- ---- names that are compared

pub equal_names : (x y : Text) → name_cmp x y ≡ Equal → x ≡ y
equal_names x y e = (bytes_eq-Decides x y).0 (sym (is_eq-slice_cmp x y) ∙ ap is_eq e)

pub itself : (x : Text) → name_cmp x x ≡ Equal
itself x = is_equal (name_cmp x x) (is_eq-slice_cmp x x ∙ (bytes_eq-Decides x x).1 refl)
  where
    is_equal : (o : Ordering) → is_eq o ≡ true → o ≡ Equal
    is_equal Less e = cc
    is_equal Equal e = refl
    is_equal Greater e = cc

-- ---- members that are found

found_first_at : (o : Ordering) (x : Text) (m : Member) (f d : Named) (y : Value)
    → match_ordering o (get x f) (Some m.1) (get x f) ≡ Some y → (get x f ≡ Some y → get x (f ++ d) ≡ Some y)
    → match_ordering o (get x (f ++ d)) (Some m.1) (get x (f ++ d)) ≡ Some y
found_first_at Less x m f d y e r = r e
found_first_at Equal x m f d y e r = e
found_first_at Greater x m f d y e r = r e

found_first : (x : Text) (f d : Named) (y : Value) → get x f ≡ Some y → get x (f ++ d) ≡ Some y
found_first x [] d y e = cc
found_first x (m ∷ f) d y e = found_first_at (name_cmp x m.0) x m f d y e (found_first x f d y)

found_among_at : (siblings : Named) (o : Ordering) (x : Text) (m : Member) (ks : Named) (z : Value)
    → name_cmp x m.0 ≡ o → IsAmong siblings m → match_ordering o (get x ks) (Some m.1) (get x ks) ≡ Some z
    → (get x ks ≡ Some z → get x siblings ≡ Some z) → get x siblings ≡ Some z
found_among_at siblings Less x m ks z q a e r = r e
found_among_at siblings Equal x m ks z q a e r = ap (λ n. get n siblings) (equal_names x m.0 q) ∙ (a ∙ e)
found_among_at siblings Greater x m ks z q a e r = r e

-- what is found among some of the members is found among all
found_among : (siblings : Named) (x : Text) (ks : Named) (z : Value) → AreAmong siblings ks → get x ks ≡ Some z
    → get x siblings ≡ Some z
found_among siblings x [] z a e = cc
found_among siblings x (m ∷ ks) z a e =
    found_among_at siblings (name_cmp x m.0) x m ks z refl a.0 e (found_among siblings x ks z a.1)

found_chosen_at : (t : Text → Bool) (o : Ordering) (b : Bool) (x : Text) (m : Member) (ms : Named) (y : Value)
    → name_cmp x m.0 ≡ o → t m.0 ≡ b → t x ≡ true → match_ordering o (get x ms) (Some m.1) (get x ms) ≡ Some y
    → (get x ms ≡ Some y → get x (filter (λ k. t k.0) ms) ≡ Some y)
    → get x (cond b (m ∷ filter (λ k. t k.0) ms) (filter (λ k. t k.0) ms)) ≡ Some y
found_chosen_at t Less true x m ms y q p h e r = rw q (r e)
found_chosen_at t Less false x m ms y q p h e r = r e
found_chosen_at t Greater true x m ms y q p h e r = rw q (r e)
found_chosen_at t Greater false x m ms y q p h e r = r e
found_chosen_at t Equal true x m ms y q p h e r = rw q e
found_chosen_at t Equal false x m ms y q p h e r = let s = equal_names x m.0 q in
    absurd (let z : true ≡ false = sym h ∙ (ap t s ∙ p) in cc)

found_chosen : (t : Text → Bool) (x : Text) (ms : Named) (y : Value) → t x ≡ true → get x ms ≡ Some y
    → get x (filter (λ k. t k.0) ms) ≡ Some y
found_chosen t x [] y h e = cc
found_chosen t x (m ∷ ms) y h e =
    found_chosen_at t (name_cmp x m.0) (t m.0) x m ms y refl refl h e (found_chosen t x ms y h)

-- ---- what stands before a keyword

-- a keyword that isn't of the first stands after them
pub behind_first : (p : Member → Bool) (f g done more : List Member) (k : Member) → list_all p f ≡ true → p k ≡ false
    → done ++ k ∷ more ≡ f ++ g → (d : List Member) × (done ≡ f ++ d)
behind_first p [] g done more k h q e = (done, refl)
behind_first p (x ∷ f) g [] more k h q e = absurd (let s : k ≡ x = cc in let u = and_parts (p x) (list_all p f) h in
    let z : true ≡ false = sym u.0 ∙ (ap p (sym s) ∙ q) in cc)
behind_first p (x ∷ f) g (y ∷ done) more k h q e =
    let s : y ≡ x = cc in
    let r : done ++ k ∷ more ≡ f ++ g = cc in
    let d = behind_first p f g done more k ((and_parts (p x) (list_all p f) h).1) q r in
    (d.0, let i = d.1 in cc)

all_pass_at : (p : Member → Bool) (b : Bool) (m : Member) (ms : Named) → p m ≡ b → list_all p (filter p ms) ≡ true
    → list_all p (cond b (m ∷ filter p ms) (filter p ms)) ≡ true
all_pass_at p true m ms e h = rw e h
all_pass_at p false m ms e h = h

pub all_pass : (p : Member → Bool) (ms : Named) → list_all p (filter p ms) ≡ true
all_pass p [] = refl
all_pass p (m ∷ ms) = all_pass_at p (p m) m ms refl (all_pass p ms)

pub among_first : (siblings : Named) (xs ys : List Member) → AreAmong siblings (xs ++ ys) → AreAmong siblings xs
among_first siblings [] ys h = tt
among_first siblings (x ∷ xs) ys h = (h.0, among_first siblings xs ys h.1)

found_before_at : (schema : Value) (x : Text) (o p : Option Value) (done : List Member) → get x (entries schema) ≡ o
    → get x done ≡ p → ((y : Value) → o ≡ Some y → p ≡ Some y) → ((z : Value) → p ≡ Some z → o ≡ Some z) → p ≡ o
found_before_at schema x None None done e f i j = refl
found_before_at schema x None (Some z) done e f i j = absurd (let q = j z refl in cc)
found_before_at schema x (Some y) p done e f i j = i y refl

-- one that comes first is found among all keywords, if there is one
pub found_in_all : (schema : Value) → IsAscending (entries schema) → (x : Text) → comes_before_else x ≡ true
    → get x (keywords schema) ≡ get x (entries schema)
found_in_all schema ascending x h =
    found_before_at schema x (get x (entries schema)) (get x (keywords schema)) (keywords schema) refl refl
    (λ y e. found_first x (keywords_that comes_before_else schema) (keywords_that is_else schema
    ++ keywords_that comes_after_else schema) y (found_chosen comes_before_else x (entries schema) y h e))
    (λ z e. found_among (entries schema) x (keywords schema) z (keywords_among schema ascending) e)

module _ (schema : Value) (ascending : IsAscending (entries schema)) (done more : List Member) (k : Member)
    (split : done ++ k ∷ more ≡ keywords schema) where
  are_among : AreAmong (entries schema) done
  are_among = among_first (entries schema) done (k ∷ more)
      (subst (AreAmong (entries schema)) (sym split) (keywords_among schema ascending))

  -- a keyword that comes first is found before one that doesn't, if there is one
  pub found_before : (x : Text) → comes_before_else x ≡ true → comes_before_else k.0 ≡ false
      → get x done ≡ get x (entries schema)
  found_before x h q =
      let d = behind_first (λ l. comes_before_else l.0) (keywords_that comes_before_else schema)
      (keywords_that is_else schema ++ keywords_that comes_after_else schema) done more k
      (all_pass (λ l. comes_before_else l.0) (entries schema)) q split in
      found_before_at schema x (get x (entries schema)) (get x done) done refl refl
      (λ y e. ap (get x) d.1 ∙ found_first x (keywords_that comes_before_else schema) d.0 y
      (found_chosen comes_before_else x (entries schema) y h e))
      (λ z e. found_among (entries schema) x done z are_among e)

-- ---- by the keyword that a name is

abbrev pub is_branch : Keyword → Bool
is_branch Then = true
is_branch Else = true
is_branch _ = false

either : (b : Bool) → (not b || true) ≡ true
either true = refl
either false = refl

branch_later : (name : Text) → (not (is_branch (which_keyword name)) || not (comes_before_else name)) ≡ true
branch_later name = by_keyword (λ n κ. not (is_branch κ) || not (comes_before_else n))
    (λ n a. refl) (λ n other. refl) refl name

pub then_later : (name : Text) (b : Bool) → is_branch (which_keyword name) ≡ true → comes_before_else name ≡ b
    → b ≡ false
then_later name true h e = absurd (let q = branch_later name in cc)
then_later name false h e = refl

-- ---- the facts, from some of the keywords

module _ {P : Type 0} (S : SchemaSet P) (known : Known P) (above : List P) (place : P) (v : Value) where
  abbrev siblings : Named
  siblings = entries (S.schema place)

  -- the verdict of `if`, if it is among them
  abbrev pub condition_in : List Member → Option Bool
  condition_in ks = option_map (λ _. verdict.application_holds S known above place v
      (application S place (codes "if") Alone Alone v)) (get (codes "if") ks)

  abbrev pub matches : ℕ
  matches = length (filter (verdict.application_holds S known above place v)
      (asks_of S (above ++ place ∷ []) place siblings v None [] [] (codes "contains", v) Contains))

  -- how many items match `contains`, if it is among them
  abbrev pub matching_in : List Member → ℕ
  matching_in ks = option_map_or (λ _. matches) (get (codes "contains") ks) 0

  abbrev pub names_in : List Member → List Text
  names_in ks = flat_map (verdict.gives_names S known above place v) ks

  abbrev pub indexes_in : List Member → List ℕ
  indexes_in ks = flat_map (verdict.gives_indexes S known above place v) ks

  -- ---- one keyword more

  more_at : {A : Type 0} (o : Ordering) (a : A) → (o ≡ Equal → ⊥) → match_ordering o None (Some a) None ≡ None
  more_at Less a h = refl
  more_at Equal a h = absurd (h refl)
  more_at Greater a h = refl

  another_at : (x : Text) (o : Ordering) (m : Member) (ks : Named) (k : Member) → get x (ks ++ k ∷ []) ≡ get x ks
      → match_ordering o (get x (ks ++ k ∷ [])) (Some m.1) (get x (ks ++ k ∷ []))
      ≡ match_ordering o (get x ks) (Some m.1) (get x ks)
  another_at x Less m ks k e = e
  another_at x Equal m ks k e = refl
  another_at x Greater m ks k e = e

  -- a keyword of another name changes nothing
  another : (x : Text) (ks : Named) (k : Member) → (name_cmp x k.0 ≡ Equal → ⊥) → get x (ks ++ k ∷ []) ≡ get x ks
  another x [] k h = more_at (name_cmp x k.0) k.1 h
  another x (m ∷ ks) k h = another_at x (name_cmp x m.0) m ks k (another x ks k h)

  it_at : {A : Type 0} (c : A) (d : A) (o : Ordering) (p q : Option Value) (w : Value) → option_map_or (λ _. c) p d ≡ c
      → option_map_or (λ _. c) (match_ordering o p (Some w) p) d ≡ c
  it_at c d Less p q w e = e
  it_at c d Equal p q w e = refl
  it_at c d Greater p q w e = e

  -- a keyword of this name is found afterwards
  it_is : {A : Type 0} (c d : A) (x : Text) (ks : Named) (k : Member) → k.0 ≡ x
      → option_map_or (λ _. c) (get x (ks ++ k ∷ [])) d ≡ c
  it_is c d x [] k e = let h : name_cmp x k.0
      ≡ Equal = subst (λ n. name_cmp x n ≡ Equal) (sym e) (itself x) in rw h refl
  it_is c d x (m ∷ ks) k e = it_at c d (name_cmp x m.0) (get x (ks ++ k ∷ [])) (get x ks) m.1 (it_is c d x ks k e)

  some_or : (o : Option Value) (h : Bool) → option_map (λ _. h) o ≡ option_map_or (λ _. Some h) o None
  some_or None h = refl
  some_or (Some w) h = refl

  -- `if` and `contains` have one name each
  named_if : (name : Text) → which_keyword name ≡ If → name ≡ codes "if"
  named_if name e = known_by_name name If e refl

  named_contains : (name : Text) → which_keyword name ≡ Contains → name ≡ codes "contains"
  named_contains name e = known_by_name name Contains e refl

  if_is_if : which_keyword (codes "if") ≡ If
  unfolding which_keyword
  if_is_if = refl

  contains_is : which_keyword (codes "contains") ≡ Contains
  unfolding which_keyword
  contains_is = refl

  one_if : (b : Bool) (a : Application P) → Some b ≡ Some (length (cond b (a ∷ []) []) == 1)
  one_if true a = refl
  one_if false a = refl

  condition_more_at : (κ : Keyword) (ks : List Member) (k : Member) (succeeded : ℕ) → which_keyword k.0 ≡ κ
      → succeeded ≡ length (filter (verdict.application_holds S known above place v)
      (verdict.asks S known above place v k))
      → condition_in (ks ++ k ∷ []) ≡ condition_step κ succeeded (condition_in ks)
  condition_more_at If ks k succeeded e h =
      let n = named_if k.0 e in
      let b = verdict.application_holds S known above place v (application S place (codes "if") Alone Alone v) in
      some_or (get (codes "if") (ks ++ k ∷ [])) b ∙ (it_is (Some b) None (codes "if") ks k n
      ∙ (one_if b (application S place (codes "if") Alone Alone v)
      ∙ ap (λ m. Some (m == 1))
      (sym (h ∙ (let i : verdict.asks S known above place v k ≡ application S place (codes "if") Alone Alone v
      ∷ [] = rw (e, n) refl in ap (λ l. length (filter (verdict.application_holds S known above place v) l)) i)))))
  condition_more_at _ ks k succeeded e h = ap (option_map
      (λ _. verdict.application_holds S known above place v (application S place (codes "if") Alone Alone v))) (another
      (codes "if") ks k (λ q. let n = equal_names (codes "if") k.0 q in let i = ap which_keyword n in
      let j = if_is_if in cc))

  pub condition_more : (ks : List Member) (k : Member) (succeeded : ℕ)
      → succeeded ≡ length (filter (verdict.application_holds S known above place v)
      (verdict.asks S known above place v k))
      → condition_in (ks ++ k ∷ []) ≡ condition_step (which_keyword k.0) succeeded (condition_in ks)
  condition_more ks k succeeded h = condition_more_at (which_keyword k.0) ks k succeeded refl h

  matching_more_at : (κ : Keyword) (ks : List Member) (k : Member) (succeeded : ℕ) → which_keyword k.0 ≡ κ
      → succeeded ≡ length (filter (verdict.application_holds S known above place v)
      (verdict.asks S known above place v k))
      → matching_in (ks ++ k ∷ []) ≡ matching_step κ succeeded (matching_in ks)
  matching_more_at Contains ks k succeeded e h =
      let n = named_contains k.0 e in
      it_is matches 0 (codes "contains") ks k n
      ∙ sym (h ∙ (let i : verdict.asks S known above place v k ≡ asks_of S (above ++ place ∷ []) place siblings v None
      [] [] (codes "contains", v) Contains = rw (e, n) refl in
      ap (λ l. length (filter (verdict.application_holds S known above place v) l)) i))
  matching_more_at _ ks k succeeded e h = ap (λ o. option_map_or (λ _. matches) o 0) (another (codes "contains") ks k
      (λ q. let n = equal_names (codes "contains") k.0 q in let i = ap which_keyword n in let j = contains_is in cc))

  pub matching_more : (ks : List Member) (k : Member) (succeeded : ℕ)
      → succeeded ≡ length (filter (verdict.application_holds S known above place v)
      (verdict.asks S known above place v k))
      → matching_in (ks ++ k ∷ []) ≡ matching_step (which_keyword k.0) succeeded (matching_in ks)
  matching_more ks k succeeded h = matching_more_at (which_keyword k.0) ks k succeeded refl h
