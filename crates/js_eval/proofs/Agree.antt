-- What is known within n is known alike within n + 1.
use Rattle.std.specs.Prelude.{◌≡◌, ℕ, zero, suc, Bool, true, false, not, ◌&&◌, List, [], ◌∷◌, ◌++◌, ◌+◌, ◌-◌, ◌≤◌}
use Rattle.std.specs.Prelude.{Option, Some, None, option_map, map, filter, length, codes, refl}
use Rattle.std.specs.List.{list_all, flat_map}
use Rattle.std.specs.Option.{option_map_or}
use Rattle.std.proofs.Common.{sym, ◌∙◌, ap, subst, arith}
use Rattle.std.proofs.lemmas.Bool.{and_parts}
use Rattle.std.proofs.lemmas.List.Folds.{list_all-append}
use Rattle.js_doc.specs.Value.{Value, Named}
use Rattle.js_doc.specs.Members.{get}
use Rattle.js_assert.specs.Argument.{entries}
use Rattle.js_eval.specs.Applications.{Application, application, asks_of}
use Rattle.js_eval.specs.Keywords.{Member, keywords, keywords_that, comes_before_else, comes_after_else, is_else}
use Rattle.js_keyword.specs.Keyword.{which_keyword}
use Rattle.js_eval.specs.Unevaluated.{is_unevaluated}
use Rattle.js_eval.specs.SchemaSet.{Text, SchemaSet, Alone}
use Rattle.js_eval.specs.Verdict as verdict
use Rattle.js_eval.specs.Verdict.{Known, with_one_more, nothing, within}
use Rattle.js_keyword.specs.declared.keyword.Keyword.{Keyword}
use Rattle.js_keyword.specs.declared.keyword.Keyword.TheVariants.{UnevaluatedItems}
use Rattle.js_keyword.specs.declared.keyword.Keyword.TheVariants.{UnevaluatedProperties, Contains}
use Rattle.js_eval.proofs.Lists.{and_same, all_more, all_same, map_same, filter_same}
use Rattle.js_eval.proofs.Lists.{flat_map_same, all_filtered, found}

-- what the first has settled, the second knows alike
pub record Agrees {Place : Type 0} (w x : Known Place) : Type 0 where
  pub settled : (above : List Place) (place : Place) (v : Value) → w.settled above place v ≡ true
      → x.settled above place v ≡ true
  pub holds : (above : List Place) (place : Place) (v : Value) → w.settled above place v ≡ true
      → w.holds above place v ≡ x.holds above place v
  pub names : (above : List Place) (place : Place) (v : Value) → w.settled above place v ≡ true
      → w.names above place v ≡ x.names above place v
  pub indexes : (above : List Place) (place : Place) (v : Value) → w.settled above place v ≡ true
      → w.indexes above place v ≡ x.indexes above place v

-- a keyword that is found is among those that have a node
pub found_keyword : (f : Member → Bool) (schema : Value) (name : Text) (y : Value) → get name (entries schema) ≡ Some y
    → comes_before_else name ≡ true → list_all f (keywords schema) ≡ true → f (name, y) ≡ true
found_keyword f schema name y e t h =
    let p = and_parts _ _ (sym (list_all-append f (keywords_that comes_before_else schema)
    (keywords_that is_else schema ++ keywords_that comes_after_else schema)) ∙ h) in
    found f (λ k. comes_before_else k.0) name (entries schema) y e p.0 t

-- what another keyword asks for doesn't look at what is evaluated
pub plain : {Place : Type 0} (S : SchemaSet Place) (path : List Place) (place : Place) (siblings : Named) (v : Value)
    (c : Option Bool) (ns : List Text) (is : List ℕ) (k : Member) (κ : Keyword) → is_unevaluated κ ≡ false
    → asks_of S path place siblings v c ns is k κ ≡ asks_of S path place siblings v c [] [] k κ
plain S path place siblings v c ns is k UnevaluatedItems h = cc
plain S path place siblings v c ns is k UnevaluatedProperties h = cc
plain S path place siblings v c ns is k _ h = refl

not_true : (b : Bool) → not b ≡ true → b ≡ false
not_true true h = cc
not_true false h = refl

module _ {Place : Type 0} (S : SchemaSet Place) (w x : Known Place) (agree : Agrees w x) (above : List Place)
    (place : Place) (v : Value) where
  abbrev path : List Place
  path = above ++ place ∷ []

  abbrev done : Application Place → Bool
  done a = w.settled path a.place a.value

  -- ---- applications that are settled

  apps_holds : (apps : List (Application Place)) → list_all done apps ≡ true
      → map (verdict.application_holds S w above place v) apps ≡ map (verdict.application_holds S x above place v) apps
  apps_holds apps h = map_same done (verdict.application_holds S w above place v)
      (verdict.application_holds S x above place v) (λ a s. agree.holds path a.place a.value s) apps h

  pub holding_same : (apps : List (Application Place)) → list_all done apps ≡ true → filter
      (verdict.application_holds S w above place v) apps ≡ filter (verdict.application_holds S x above place v) apps
  holding_same apps h = filter_same done (verdict.application_holds S w above place v)
      (verdict.application_holds S x above place v) (λ a s. agree.holds path a.place a.value s) apps h

  abbrev Below : {A : Type 0} → Known Place → (Known Place → List Place → Place → Value → List A)
      → List (Application Place) → List A
  Below y g apps = flat_map (λ a. g y path a.place a.value) (filter (verdict.application_holds S y above place v) apps)

  below_same : {A : Type 0} (f g : Application Place → List A) → ((a : Application Place) → done a ≡ true → f a ≡ g a)
      → (apps : List (Application Place)) → list_all done apps ≡ true
      → flat_map f (filter (verdict.application_holds S w above place v) apps)
      ≡ flat_map g (filter (verdict.application_holds S x above place v) apps)
  below_same f g same apps h =
      flat_map_same (λ a. done a && verdict.application_holds S w above place v a) f g
      (λ a s. same a ((and_parts _ _ s).0)) (filter (verdict.application_holds S w above place v) apps)
      (all_filtered done (verdict.application_holds S w above place v) apps h)
      ∙ ap (flat_map g) (holding_same apps h)

  names_below : (apps : List (Application Place)) → list_all done apps ≡ true
      → Below w (λ y. y.names) apps ≡ Below x (λ y. y.names) apps
  names_below = below_same (λ a. w.names path a.place a.value) (λ a. x.names path a.place a.value)
      (λ a s. agree.names path a.place a.value s)

  indexes_below : (apps : List (Application Place)) → list_all done apps ≡ true
      → Below w (λ y. y.indexes) apps ≡ Below x (λ y. y.indexes) apps
  indexes_below = below_same (λ a. w.indexes path a.place a.value) (λ a. x.indexes path a.place a.value)
      (λ a s. agree.indexes path a.place a.value s)

  -- ---- a keyword, of what it asks for

  passes_alike : (m n : ℕ) (k : Member) (apps apps' : List (Application Place)) → m ≡ n → apps ≡ apps' → list_all done
      apps ≡ true → verdict.passes_by S w above place v m k apps ≡ verdict.passes_by S x above place v n k apps'
  passes_alike m n k apps apps' e f h =
      let g = apps_holds apps h in cc

  names_alike : (m n : ℕ) (k : Member) (apps apps' : List (Application Place)) → m ≡ n → apps ≡ apps' → list_all done
      apps ≡ true → verdict.names_by S w above place v m k apps ≡ verdict.names_by S x above place v n k apps'
  names_alike m n k apps apps' e f h =
      let p = passes_alike m n k apps apps' e f h in let q = holding_same apps h in let r = names_below apps h in cc

  indexes_alike : (m n : ℕ) (k : Member) (apps apps' : List (Application Place)) → m ≡ n → apps ≡ apps' → list_all done
      apps ≡ true → verdict.indexes_by S w above place v m k apps ≡ verdict.indexes_by S x above place v n k apps'
  indexes_alike m n k apps apps' e f h =
      let p = passes_alike m n k apps apps' e f h in let q = holding_same apps h in let r = indexes_below apps h in cc

  -- ---- the facts about the other keywords

  abbrev KeywordsSettled : Type 0
  KeywordsSettled = list_all (verdict.keyword_settled S w above place v) (keywords (S.schema place)) ≡ true

  abbrev condition_by : Known Place → Option Value → Option Bool
  condition_by y o = option_map
      (λ _. verdict.application_holds S y above place v (application S place (codes "if") Alone Alone v)) o

  condition_at : (o : Option Value) → get (codes "if") (entries (S.schema place)) ≡ o → KeywordsSettled
      → condition_by w o ≡ condition_by x o
  unfolding which_keyword
  condition_at None e h = refl
  condition_at (Some y) e h =
      let s = and_parts _ _ (found_keyword (verdict.keyword_settled S w above place v) (S.schema place)
      (codes "if") y e refl h) in
      ap Some (agree.holds path (S.below place (codes "if") Alone) v s.0)

  -- the verdict of the adjacent `if` is the same
  condition_same : KeywordsSettled → verdict.condition S w above place v ≡ verdict.condition S x above place v
  condition_same h = condition_at (get (codes "if") (entries (S.schema place))) refl h

  abbrev under_contains : Known Place → Value → List (Application Place)
  under_contains y argument = asks_of S path place (entries (S.schema place)) v (verdict.condition S y above place v) []
      [] (codes "contains", argument) Contains

  abbrev matching_by : Known Place → Option Value → ℕ
  matching_by y o = option_map_or
      (λ argument. length (filter (verdict.application_holds S y above place v) (under_contains y argument))) o 0

  matching_at : (o : Option Value) → get (codes "contains") (entries (S.schema place)) ≡ o → KeywordsSettled
      → matching_by w o ≡ matching_by x o
  unfolding which_keyword
  matching_at None e h = refl
  matching_at (Some y) e h =
      ap length (holding_same (under_contains w y)
      (found_keyword (verdict.keyword_settled S w above place v) (S.schema place) (codes "contains") y e refl h))

  -- as many items match the adjacent `contains`
  pub matching_same : KeywordsSettled → verdict.matching S w above place v ≡ verdict.matching S x above place v
  matching_same h = matching_at (get (codes "contains") (entries (S.schema place))) refl h

  -- what another keyword asks for is settled
  other_settled : (k : Member) → verdict.keyword_settled S w above place v k ≡ true
      → is_unevaluated (which_keyword k.0) ≡ false
      → list_all done (verdict.others_ask S w above place v k) ≡ true
  other_settled k h e =
      ap (list_all done) (sym (plain S path place (entries (S.schema place)) v (verdict.condition S w above place v)
      (verdict.evaluated_names S w above place v) (verdict.evaluated_indexes S w above place v) k (which_keyword k.0)
      e)) ∙ h

  others_ask_same : KeywordsSettled → (k : Member)
      → verdict.others_ask S w above place v k ≡ verdict.others_ask S x above place v k
  others_ask_same h k = ap
      (λ c. asks_of S path place (entries (S.schema place)) v c [] [] k (which_keyword k.0)) (condition_same h)

  abbrev is_other : Member → Bool
  is_other k = not (is_unevaluated (which_keyword k.0))

  others_settled : KeywordsSettled → list_all (λ k. verdict.keyword_settled S w above place v k && is_other k)
      (verdict.other_keywords S w above place v) ≡ true
  others_settled h = all_filtered (verdict.keyword_settled S w above place v) is_other (keywords (S.schema place)) h

  -- what they have evaluated, if each of them has evaluated alike
  evaluated_same : {A : Type 0} (f g : ℕ → Member → List (Application Place) → List A)
      → ((m n : ℕ) (k : Member) (apps apps' : List (Application Place)) → m ≡ n → apps ≡ apps'
      → list_all done apps ≡ true → f m k apps ≡ g n k apps') → KeywordsSettled
      → flat_map (λ k. f (verdict.matching S w above place v) k (verdict.others_ask S w above place v k))
      (verdict.other_keywords S w above place v)
      ≡ flat_map (λ k. g (verdict.matching S x above place v) k (verdict.others_ask S x above place v k))
      (verdict.other_keywords S x above place v)
  evaluated_same f g alike h =
      flat_map_same (λ k. verdict.keyword_settled S w above place v k && is_other k)
      (λ k. f (verdict.matching S w above place v) k (verdict.others_ask S w above place v k))
      (λ k. g (verdict.matching S x above place v) k (verdict.others_ask S x above place v k))
      (λ k s. let p = and_parts _ _ s in
      alike (verdict.matching S w above place v) (verdict.matching S x above place v) k
      (verdict.others_ask S w above place v k) (verdict.others_ask S x above place v k)
      (matching_same h) (others_ask_same h k) (other_settled k p.0 (not_true (is_unevaluated (which_keyword k.0)) p.1)))
      (verdict.other_keywords S w above place v) (others_settled h)

  evaluated_names_same : KeywordsSettled
      → verdict.evaluated_names S w above place v ≡ verdict.evaluated_names S x above place v
  evaluated_names_same h =
      evaluated_same (verdict.names_by S w above place v) (verdict.names_by S x above place v) names_alike h

  evaluated_indexes_same : KeywordsSettled
      → verdict.evaluated_indexes S w above place v ≡ verdict.evaluated_indexes S x above place v
  evaluated_indexes_same h =
      evaluated_same (verdict.indexes_by S w above place v) (verdict.indexes_by S x above place v) indexes_alike h

  -- ---- every keyword

  -- the keywords of a settled schema ask for the same
  pub asks_same : KeywordsSettled → (k : Member) → verdict.asks S w above place v k ≡ verdict.asks S x above place v k
  asks_same h k =
      let c = condition_same h in
      let e = evaluated_names_same h in
      let f = evaluated_indexes_same h in
      cc

  pub passes_same : KeywordsSettled → (k : Member) → verdict.keyword_settled S w above place v k ≡ true
      → verdict.passes S w above place v k ≡ verdict.passes S x above place v k
  passes_same h k s =
      passes_alike (verdict.matching S w above place v) (verdict.matching S x above place v) k
      (verdict.asks S w above place v k) (verdict.asks S x above place v k) (matching_same h) (asks_same h k) s

  gives_names_same : KeywordsSettled → (k : Member) → verdict.keyword_settled S w above place v k ≡ true
      → verdict.gives_names S w above place v k ≡ verdict.gives_names S x above place v k
  gives_names_same h k s =
      names_alike (verdict.matching S w above place v) (verdict.matching S x above place v) k
      (verdict.asks S w above place v k) (verdict.asks S x above place v k) (matching_same h) (asks_same h k) s

  gives_indexes_same : KeywordsSettled → (k : Member) → verdict.keyword_settled S w above place v k ≡ true
      → verdict.gives_indexes S w above place v k ≡ verdict.gives_indexes S x above place v k
  gives_indexes_same h k s =
      indexes_alike (verdict.matching S w above place v) (verdict.matching S x above place v) k
      (verdict.asks S w above place v k) (verdict.asks S x above place v k) (matching_same h) (asks_same h k) s

  -- what a keyword asks for is settled in the other as well
  pub settled_same : KeywordsSettled → (k : Member) → verdict.keyword_settled S w above place v k ≡ true
      → verdict.keyword_settled S x above place v k ≡ true
  settled_same h k s =
      ap (list_all (verdict.application_settled S x above place v)) (sym (asks_same h k))
      ∙ all_more done (verdict.application_settled S x above place v) (λ a t. agree.settled path a.place a.value t)
      (verdict.asks S w above place v k) s

  -- ---- the schema

  pub schema_settled_same : KeywordsSettled → verdict.schema_settled S x above place v ≡ true
  schema_settled_same h = all_more (verdict.keyword_settled S w above place v)
      (verdict.keyword_settled S x above place v) (settled_same h) (keywords (S.schema place)) h

  schema_passes_same : KeywordsSettled
      → verdict.schema_passes S w above place v ≡ verdict.schema_passes S x above place v
  schema_passes_same h =
      and_same refl (all_same (verdict.keyword_settled S w above place v) (verdict.passes S w above place v)
      (verdict.passes S x above place v) (passes_same h) (keywords (S.schema place)) h)

  all_names_same : KeywordsSettled → flat_map (verdict.gives_names S w above place v) (keywords (S.schema place))
      ≡ flat_map (verdict.gives_names S x above place v) (keywords (S.schema place))
  all_names_same h = flat_map_same (verdict.keyword_settled S w above place v) (verdict.gives_names S w above place v)
      (verdict.gives_names S x above place v) (gives_names_same h) (keywords (S.schema place)) h

  all_indexes_same : KeywordsSettled → flat_map (verdict.gives_indexes S w above place v) (keywords (S.schema place))
      ≡ flat_map (verdict.gives_indexes S x above place v) (keywords (S.schema place))
  all_indexes_same h = flat_map_same (verdict.keyword_settled S w above place v) (verdict.gives_indexes S w above place
      v) (verdict.gives_indexes S x above place v) (gives_indexes_same h) (keywords (S.schema place)) h

  pub holds_next : KeywordsSettled → (with_one_more S w).holds above place v ≡ (with_one_more S x).holds above place v
  holds_next h = and_same (h ∙ sym (schema_settled_same h)) (schema_passes_same h)

  pub names_next : KeywordsSettled → (with_one_more S w).names above place v ≡ (with_one_more S x).names above place v
  names_next h = let e = schema_passes_same h in let f = all_names_same h in cc

  pub indexes_next : KeywordsSettled
      → (with_one_more S w).indexes above place v ≡ (with_one_more S x).indexes above place v
  indexes_next h = let e = schema_passes_same h in let f = all_indexes_same h in cc

next_agrees : {Place : Type 0} (S : SchemaSet Place) (w x : Known Place) → Agrees w x
    → Agrees (with_one_more S w) (with_one_more S x)
next_agrees S w x agree = record {
  settled = λ above place v h. schema_settled_same S w x agree above place v h;
  holds = λ above place v h. holds_next S w x agree above place v h;
  names = λ above place v h. names_next S w x agree above place v h;
  indexes = λ above place v h. indexes_next S w x agree above place v h;
}

-- what is settled within n is settled alike within n + 1
pub within_agrees : {Place : Type 0} (S : SchemaSet Place) (n : ℕ) → Agrees (within S n) (within S (suc n))
unfolding within
within_agrees S zero = record
    { settled = λ _ _ _ h. cc; holds = λ _ _ _ h. cc; names = λ _ _ _ h. cc; indexes = λ _ _ _ h. cc }
within_agrees S (suc n) = next_agrees S (within S n) (within S (suc n)) (within_agrees S n)

-- ---- two bounds

abbrev plus : ℕ → ℕ → ℕ
plus zero n = n
plus (suc k) n = suc (plus k n)

plus_is : (k n : ℕ) → plus k n ≡ k + n
plus_is zero n = omega arith
plus_is (suc k) n = omega (arith, plus_is k n)

more : {Place : Type 0} (S : SchemaSet Place) (k n : ℕ) → Agrees (within S n) (within S (plus k n))
more S zero n =
    record { settled = λ _ _ _ h. h; holds = λ _ _ _ h. refl; names = λ _ _ _ h. refl; indexes = λ _ _ _ h. refl }
more S (suc k) n =
    let f = more S k n in
    let g = within_agrees S (plus k n) in
    record {
      settled = λ a p v h. g.settled a p v (f.settled a p v h);
      holds = λ a p v h. f.holds a p v h ∙ g.holds a p v (f.settled a p v h);
      names = λ a p v h. f.names a p v h ∙ g.names a p v (f.settled a p v h);
      indexes = λ a p v h. f.indexes a p v h ∙ g.indexes a p v (f.settled a p v h);
    }

-- what is settled within n is settled alike within each greater number
pub up_to : {Place : Type 0} (S : SchemaSet Place) (n m : ℕ) → n ≤ m → Agrees (within S n) (within S m)
up_to S n m le =
    let e : plus (m - n) n ≡ m = omega (arith, plus_is (m - n) n) in
    subst (λ i. Agrees (within S n) (within S i)) e (more S (m - n) n)
