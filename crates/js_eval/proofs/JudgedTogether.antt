-- The keywords of a schema that apply no schemas, judged by the assertions of its place and counted by its names.
use Rattle.std.specs.Prelude.{◌≡◌, ℕ, ◌+◌, Bool, true, false, not, ◌&&◌}
use Rattle.std.specs.Prelude.{cond, if◌then◌else◌, List, [], ◌∷◌, ◌++◌, Option, Some}
use Rattle.std.specs.Prelude.{None, is_some, option_map, option_to_list, filter, length, refl}
use Rattle.std.specs.List.{list_all, flat_map}
use Rattle.std.specs.Option.{option_map_or}
use Rattle.std.proofs.Common.{sym, ◌∙◌, ap, ap₂, arith, length-append}
use Rattle.std.proofs.lemmas.List.Elements.{filter-append}
use Rattle.std.proofs.lemmas.List.Folds.{list_all-append}
use Rattle.js_doc.specs.Value.{Value, Named}
use Rattle.js_assert.specs.Argument.{entries}
use Rattle.js_assert.specs.Assertion.{Asserted, asserted, says}
use Rattle.js_keyword.proofs.KeywordNames.{assertion_which, which_assertion}
use Rattle.js_keyword.specs.AssertionKeyword.{keyword_named}
use Rattle.js_keyword.specs.declared.assertion_keyword.AssertionKeyword.{AssertionKeyword}
use Rattle.js_bundle.specs.AssertionsAndPatterns.{assertion_at, assertions_at}
use Rattle.js_bundle.specs.Document.{Documents}
use Rattle.js_keyword.specs.Keyword.{which_keyword}
use Rattle.js_bundle.specs.Resource.{Site}
use Rattle.js_bundle.specs.Schemas.{is_place, place_at}
use Rattle.js_eval.specs.Bundle.{schemas_of}
use Rattle.js_eval.specs.Keywords.{Member, has_node, is_else, is_after_if, comes_before_else, comes_after_else}
use Rattle.js_eval.specs.Passes.{passes_of}
use Rattle.js_eval.specs.Sited.{numbered_site}
use Rattle.js_eval.specs.Walk.Progress.{keywords_at, passes_at}
use Rattle.js_eval.specs.Walk.Visited.{AreJudged, is_visited, may_apply}
use Rattle.js_eval.specs.code.Leaves.{has_leaf, is_assertion}
use Rattle.js_eval.specs.code.Standard.{turn_by_keyword, keyword_names_of}
use Rattle.js_eval.specs.code.Turns.{turn_by, turn_of, is_ever, in_order}
use Rattle.js_keyword.specs.declared.keyword.Keyword.{Keyword}
use Rattle.js_keyword.specs.declared.keyword.Keyword.TheVariants.{Assertion, Other}
use Rattle.js_keyword.specs.declared.other_keyword.OtherKeyword.TheVariants.{Unknown}
use Rattle.js_eval.specs.declared.order.turn.Turn.TheVariants.{First, Last}
use Rattle.js_eval.proofs.AssertionThere.{place_is, same_members}
use Rattle.js_eval.proofs.Standard.{turn_is}
use Rattle.js_eval.proofs.Turns.{else_has_node, else_before}

-- ---- a keyword makes an assertion if it is of that kind

none_there : (name : List ℕ) (κ : Keyword) → which_keyword name ≡ κ → keyword_named name ≡ None
    → false ≡ is_assertion κ
none_there name (Assertion a) is e = absurd (let z : Some a ≡ None = sym (which_assertion name a is) ∙ e in cc)
none_there name _ is e = refl

asserts : (name : List ℕ) → is_some (keyword_named name) ≡ is_assertion (which_keyword name)
asserts name = at (keyword_named name) refl
  where
    at : (o : Option AssertionKeyword) → keyword_named name ≡ o → is_some o ≡ is_assertion (which_keyword name)
    at (Some a) e = sym (ap is_assertion (assertion_which name a e))
    at None e = none_there name (which_keyword name) refl e

some_mapped : {A B : Type 0} (f : A → B) (o : Option A) → is_some (option_map f o) ≡ is_some o
some_mapped f None = refl
some_mapped f (Some x) = refl

-- ---- an assertion has a node

side_is_ever : (b : Bool) → is_ever (if b then Last else First) ≡ true
side_is_ever true = refl
side_is_ever false = refl

node_by : (which : Keyword) (name : List ℕ) → is_assertion which ≡ true
    → is_ever (turn_by_keyword which name) ≡ true
node_by (Assertion _) name e = side_is_ever (is_after_if name)
node_by _ name e = cc

node_of : (name : List ℕ) → is_assertion (which_keyword name) ≡ true → is_ever (turn_of name) ≡ true
node_of name e = ap is_ever (turn_is name) ∙ node_by (which_keyword name) name e

leaf_by : (which : Keyword) (name : List ℕ)
    → has_leaf which ≡ (is_ever (turn_by_keyword which name) && not (may_apply which))
leaf_by (Assertion _) name = ap (λ b. b && true) (sym (side_is_ever (is_after_if name)))
leaf_by (Other Unknown) name = ap (λ b. b && true) (sym (side_is_ever (is_after_if name)))
leaf_by _ name = refl

leaf_of : (name : List ℕ)
    → has_leaf (which_keyword name) ≡ (is_ever (turn_of name) && not (may_apply (which_keyword name)))
leaf_of name = leaf_by (which_keyword name) name
    ∙ ap (λ t. is_ever t && not (may_apply (which_keyword name))) (sym (turn_is name))

-- ---- counting in the order of nodes, and over all members

module _ (test : Member → Bool) where
  one_counted : (b t : Bool) (m : Member) (ks : List Member) → test m ≡ t
      → length (filter test (cond b (m ∷ ks) ks)) ≡ cond (b && t) 1 0 + length (filter test ks)
  one_counted false t m ks e = omega arith
  one_counted true true m ks e = ap (λ b. length (cond b (m ∷ filter test ks) (filter test ks))) e ∙ omega arith
  one_counted true false m ks e = ap (λ b. length (cond b (m ∷ filter test ks) (filter test ks))) e ∙ omega arith

-- a keyword has one turn at most: by whether it has a node, comes after `if`, is `else`, and passes the test
one_turn : (n a e t : Bool) (x y z : ℕ) → (e ≡ true → n ≡ true) → (e ≡ true → a ≡ false)
    → (cond ((n && (not e && not a)) && t) 1 0 + x) + ((cond (e && t) 1 0 + y) + (cond ((n && a) && t) 1 0 + z))
    ≡ cond (is_ever (turn_by n a e) && t) 1 0 + (x + (y + z))
one_turn false a true t x y z node before = absurd (let i : false ≡ true = node refl in cc)
one_turn true true true t x y z node before = absurd (let i : true ≡ false = before refl in cc)
one_turn false a false t x y z node before = omega arith
one_turn true false true t x y z node before = omega arith
one_turn true true false t x y z node before = omega arith
one_turn true false false t x y z node before = omega arith

module _ (test : Member → Bool) where
  abbrev passing : (Member → Bool) → Named → List Member
  passing turn ms = filter test (filter turn ms)

  abbrev firsts : Named → List Member
  firsts ms = passing (λ k. comes_before_else k.0) ms

  abbrev seconds : Named → List Member
  seconds ms = passing (λ k. is_else k.0) ms

  abbrev lasts : Named → List Member
  lasts ms = passing (λ k. comes_after_else k.0) ms

  abbrev with_turn : Member → Bool
  with_turn m = is_ever (turn_of m.0) && test m

  in_three : (ms : Named) → filter test (in_order ms) ≡ firsts ms ++ (seconds ms ++ lasts ms)
  in_three ms =
      let first = filter (λ k. comes_before_else k.0) ms in
      let second = filter (λ k. is_else k.0) ms in
      let last = filter (λ k. comes_after_else k.0) ms in
      filter-append test first (second ++ last) ∙ ap (λ ks. filter test first ++ ks) (filter-append test second last)

  three_counted : (ms : Named)
      → length (firsts ms) + (length (seconds ms) + length (lasts ms)) ≡ length (filter with_turn ms)
  unfolding turn_of
  three_counted [] = refl
  three_counted (m ∷ ms) =
      ap₂ (λ x y. x + y) (one_counted test (comes_before_else m.0) (test m) m
      (filter (λ k. comes_before_else k.0) ms) refl)
      (ap₂ (λ x y. x + y) (one_counted test (is_else m.0) (test m) m (filter (λ k. is_else k.0) ms) refl)
      (one_counted test (comes_after_else m.0) (test m) m (filter (λ k. comes_after_else k.0) ms) refl))
      ∙ (one_turn (has_node m.0) (is_after_if m.0) (is_else m.0) (test m) (length (firsts ms)) (length (seconds ms))
      (length (lasts ms)) (else_has_node m.0) (else_before m.0)
      ∙ (ap (λ n. cond (with_turn m) 1 0 + n) (three_counted ms)
      ∙ more (with_turn m) m (filter with_turn ms)))
    where
      more : (b : Bool) (m : Member) (ks : List Member) → cond b 1 0 + length ks ≡ length (cond b (m ∷ ks) ks)
      more true m ks = omega arith
      more false m ks = omega arith

  all_counted : (ms : Named) → length (filter test (in_order ms)) ≡ length (filter with_turn ms)
  all_counted ms =
      ap length (in_three ms) ∙ (length-append (firsts ms) (seconds ms ++ lasts ms)
      ∙ (ap (λ n. length (firsts ms) + n) (length-append (seconds ms) (lasts ms)) ∙ three_counted ms))

-- ---- judging in the order of nodes, and over all members

one_holds : (says : Member → Bool) (test : Member → Bool) (b t : Bool) (m : Member) (ks : List Member) → test m ≡ t
    → list_all says (filter test (cond b (m ∷ ks) ks)) ≡ (cond (b && t) (says m) true && list_all says (filter test ks))
one_holds says test false t m ks e = refl
one_holds says test true true m ks e = ap (λ b. list_all says (cond b (m ∷ filter test ks) (filter test ks))) e
one_holds says test true false m ks e = ap (λ b. list_all says (cond b (m ∷ filter test ks) (filter test ks))) e

second_up : (b x y z : Bool) → (x && ((b && y) && z)) ≡ (b && (x && (y && z)))
second_up true x y z = refl
second_up false true y z = refl
second_up false false y z = refl

last_up : (b x y z : Bool) → (x && (y && (b && z))) ≡ (b && (x && (y && z)))
last_up true x y z = refl
last_up false true true z = refl
last_up false true false z = refl
last_up false false y z = refl

first_up : (b x y z : Bool) → ((b && x) && (y && z)) ≡ (b && (x && (y && z)))
first_up true x y z = refl
first_up false x y z = refl

one_turn_holds : (n a e t b x y z : Bool) → (e ≡ true → n ≡ true) → (e ≡ true → a ≡ false)
    → ((cond ((n && (not e && not a)) && t) b true && x) && ((cond (e && t) b true && y)
    && (cond ((n && a) && t) b true && z))) ≡ (cond (is_ever (turn_by n a e) && t) b true && (x && (y && z)))
one_turn_holds false a true t b x y z node before = absurd (let i : false ≡ true = node refl in cc)
one_turn_holds true true true t b x y z node before = absurd (let i : true ≡ false = before refl in cc)
one_turn_holds false a false t b x y z node before = refl
one_turn_holds true false true t b x y z node before = second_up (cond t b true) x y z
one_turn_holds true true false t b x y z node before = last_up (cond t b true) x y z
one_turn_holds true false false t b x y z node before = first_up (cond t b true) x y z

module _ (says : Member → Bool) (test : Member → Bool) where
  three_hold : (ms : Named) → (list_all says (firsts test ms) && (list_all says (seconds test ms)
      && list_all says (lasts test ms))) ≡ list_all (λ m. cond (with_turn test m) (says m) true) ms
  unfolding turn_of
  three_hold [] = refl
  three_hold (m ∷ ms) =
      ap₂ (λ x y. x && y) (one_holds says test (comes_before_else m.0) (test m) m
      (filter (λ k. comes_before_else k.0) ms) refl)
      (ap₂ (λ x y. x && y) (one_holds says test (is_else m.0) (test m) m (filter (λ k. is_else k.0) ms) refl)
      (one_holds says test (comes_after_else m.0) (test m) m (filter (λ k. comes_after_else k.0) ms) refl))
      ∙ (one_turn_holds (has_node m.0) (is_after_if m.0) (is_else m.0) (test m) (says m) (list_all says (firsts test
      ms)) (list_all says (seconds test ms)) (list_all says (lasts test ms)) (else_has_node m.0) (else_before m.0)
      ∙ ap (λ b. cond (with_turn test m) (says m) true && b) (three_hold ms))

  all_hold : (ms : Named) → list_all says (filter test (in_order ms))
      ≡ list_all (λ m. cond (with_turn test m) (says m) true) ms
  all_hold ms =
      ap (list_all says) (in_three test ms)
      ∙ (list_all-append says (firsts test ms) (seconds test ms ++ lasts test ms) ∙ (ap (λ b. list_all says
      (firsts test ms) && b) (list_all-append says (seconds test ms) (lasts test ms)) ∙ three_hold ms))

-- ---- by their names

alike : {A B : Type 0} (b c : Bool) (x : A) (y : B) (xs : List A) (ys : List B) → b ≡ c → length xs ≡ length ys
    → length (cond b (x ∷ xs) xs) ≡ length (cond c (y ∷ ys) ys)
alike true true x y xs ys e r = omega (arith, r)
alike false false x y xs ys e r = r
alike true false x y xs ys e r = cc
alike false true x y xs ys e r = cc

abbrev unvisited : Member → Bool
unvisited k = not (is_visited true k)

leaves_counted : (ms : Named)
    → length (filter has_leaf (keyword_names_of ms)) ≡ length (filter (with_turn unvisited) ms)
unfolding is_visited
leaves_counted [] = refl
leaves_counted (m ∷ ms) = alike (has_leaf (which_keyword m.0)) (with_turn unvisited m) (which_keyword m.0) m
    (filter has_leaf (keyword_names_of ms)) (filter (with_turn unvisited) ms) (leaf_of m.0) (leaves_counted ms)

-- ---- by their assertions

module _ (siblings : Named) (v : Value) (matching : ℕ) where
  abbrev asserted_says : Option Asserted → Bool
  asserted_says o = option_map_or (λ a. says a v matching) o true

  by_kind : (k : Member) (κ : Keyword) (ever : Bool) (o : Option Asserted) → asserted k.0 k.1 siblings ≡ o
      → is_some o ≡ is_assertion κ → (is_assertion κ ≡ true → ever ≡ true)
      → cond (ever && not (may_apply κ)) (passes_of siblings v matching k [] κ) true ≡ asserted_says o
  by_kind k (Assertion _) true o e some node = ap asserted_says e
  by_kind k (Assertion _) false o e some node = absurd (let i : false ≡ true = node refl in cc)
  by_kind k (Other _) true None e some node = refl
  by_kind k (Other _) false None e some node = refl
  by_kind k _ true None e some node = refl
  by_kind k _ false None e some node = refl
  by_kind k _ ever (Some a) e some node = cc

  by_member : (m : Member) → cond (is_ever (turn_of m.0) && not (may_apply (which_keyword m.0)))
      (passes_of siblings v matching m [] (which_keyword m.0)) true ≡ asserted_says (asserted m.0 m.1 siblings)
  by_member m =
      by_kind m (which_keyword m.0) (is_ever (turn_of m.0)) (asserted m.0 m.1 siblings) refl
      (some_mapped _ (keyword_named m.0) ∙ asserts m.0) (node_of m.0)

  said : (o : Option Asserted) → list_all (λ a. says a v matching) (option_to_list o) ≡ asserted_says o
  said None = refl
  said (Some a) = alone (says a v matching)
    where
      alone : (b : Bool) → (b && true) ≡ b
      alone true = refl
      alone false = refl

  each_said : (ms : Named) → list_all (λ a. says a v matching) (flat_map (assertion_at siblings) ms)
      ≡ list_all (λ m. cond (is_ever (turn_of m.0) && not (may_apply (which_keyword m.0)))
      (passes_of siblings v matching m [] (which_keyword m.0)) true) ms
  each_said [] = refl
  each_said (m ∷ ms) =
      list_all-append (λ a. says a v matching) (assertion_at siblings m) (flat_map (assertion_at siblings) ms)
      ∙ ap₂ (λ x y. x && y) (said (asserted m.0 m.1 siblings) ∙ sym (by_member m)) (each_said ms)

-- ---- at a place

assertions_are : (s : Site) → assertions_at s ≡ flat_map (assertion_at (entries s.schema)) (entries s.schema)
assertions_are s = ap (λ ms. flat_map (assertion_at ms) ms) (same_members s.schema)

pub judged_together : (documents : Documents) (n : ℕ) (v : Value) (matching : ℕ) (assertions : List Asserted)
    (names : List Keyword) (pass : Bool) (count : ℕ) → is_place documents n ≡ true
    → option_map assertions_at (place_at documents n) ≡ Some assertions
    → names ≡ keyword_names_of (entries (numbered_site documents n).schema)
    → pass ≡ list_all (λ a. says a v matching) assertions → count ≡ length (filter has_leaf names)
    → AreJudged (schemas_of documents) (numbered_site documents n) v matching pass count
unfolding keywords_at passes_at is_visited
judged_together documents n v matching assertions names pass count there built named passes counted =
    let s = numbered_site documents n in
    let ms = entries s.schema in
    let found : Some assertions ≡ Some (assertions_at s) = sym built
    ∙ ap (option_map assertions_at) (place_is documents n there) in
    let same : assertions ≡ assertions_at s = cc in
    record {
      verdict =
          passes ∙ (ap (list_all (λ a. says a v matching)) (same ∙ assertions_are s)
          ∙ (each_said ms v matching ms ∙ sym (all_hold (λ k. passes_of ms v matching k [] (which_keyword k.0))
          unvisited ms)));
      many = counted ∙ (ap (λ l. length (filter has_leaf l)) named
          ∙ (leaves_counted ms ∙ sym (all_counted unvisited ms)));
    }
