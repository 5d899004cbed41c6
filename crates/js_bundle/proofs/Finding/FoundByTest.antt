-- What was built of a place, by its name.
use Rattle.std.proofs.Common.{◌≡◌, List, [], ◌∷◌, ◌++◌, Bool, true, false, cond, if◌then◌else◌, map, inl}
use Rattle.std.proofs.Common.{inr, codes, option_to_list, Option, Some, None, option_map}
use Rattle.std.proofs.Common.{option_and_then, find, flat_map, refl, sym, ap, ◌∙◌}
use Rattle.std.specs.Option.{option_or}
use Rattle.std.specs.Str.{bytes_eq}
use Rattle.std.proofs.lemmas.List.{append-nil}
use Rattle.std.proofs.lemmas.List.Folds.{find-append}
use Rattle.js_doc.specs.Members.{get, NamesAscend, NamesAscendInMembers}
use Rattle.js_doc.specs.Value.{Value, object, Members, no_members, member, Named}
use Rattle.js_doc.specs.Parts.{member_list, members_of}
use Rattle.js_doc.proofs.TokenLookup.{is_text-refl, is_text-sound}
use Rattle.js_assert.specs.Argument.{has}
use Rattle.js_assert.specs.Assertion.{Asserted}
use Rattle.js_keyword.specs.AssertionKeyword.{keyword_named, name_of}
use Rattle.js_keyword.proofs.KeywordNames.{named-name_of}
use Rattle.js_bundle.specs.declared.check.assertions_and_patterns.BuiltPattern.{BuiltPattern}
use Rattle.js_bundle.specs.AssertionsAndPatterns.{assertions_at, pattern_at, patterns_of, patterns_at}
use Rattle.js_bundle.specs.Keyword.{Text, argument}
use Rattle.js_bundle.specs.Resource.{Site}
use Rattle.js_bundle.specs.Schemas.{assertion, pattern}
use Rattle.js_bundle.proofs.Indexing.FirstFound.{get_first}
use Rattle.js_bundle.proofs.Listing.LeastSetListed.{Among}
use Rattle.js_bundle.proofs.Listing.PlacesApart.{below_all, less_apart}

-- ---- what was built of a place

left_none : {A : Type 0} (a b : Option A) → a ≡ None → option_or a b ≡ b
left_none a b e = ap (λ x. option_or x b) e

unlike_by : (k l : Text) (b : Bool) → bytes_eq k l ≡ b → ¬ (k ≡ l) → bytes_eq k l ≡ false
unlike_by k l true e n = absurd (n (is_text-sound k l e))
unlike_by k l false e n = e

unlike : (k l : Text) → ¬ (k ≡ l) → bytes_eq k l ≡ false
unlike k l n = unlike_by k l (bytes_eq k l) refl n

-- ---- assertions

-- `named` says which names make an assertion, `make` what it is, and `name` what made it: no name of the type between
-- is known here
module _ {K : Type 0} (named : Text → Option K) (make : Value → K → Asserted) (name : Asserted
    → Text) (recorded : (l : Text) (v : Value) (n : K) → named l ≡ Some n → l ≡ name (make v n)) where
  abbrev one_built : Text × Value → List Asserted
  one_built m = option_to_list (option_map (make m.1) (named m.0))

  module _ (k : Text) where
    abbrev under : Asserted → Bool
    under a = bytes_eq k (name a)

    abbrev asserts : Value → Option Asserted
    asserts v = option_map (make v) (named k)

    other_passed : (l : Text) (v : Value) (o : Option K) → named l ≡ o → bytes_eq k l ≡ false
        → find under (option_to_list (option_map (make v) o)) ≡ None
    other_passed l v None is e = refl
    other_passed l v (Some n) is e =
        let other : bytes_eq k (name (make v n)) ≡ false = ap (bytes_eq k) (sym (recorded l v n is)) ∙ e in
        ap (λ b. cond b (Some (make v n)) None) other

    -- a name that makes no assertion makes none with any argument
    gone : (l : Text) (v : Value) (b : Bool) → bytes_eq k l ≡ b → named k ≡ None → find under (one_built (l, v)) ≡ None
    gone l v true e none =
        let same : k ≡ l = is_text-sound k l e in
        ap (λ o. find under (option_to_list (option_map (make v) o))) (ap named (sym same) ∙ none)
    gone l v false e none = ap (λ o. find under (option_to_list (option_map (make v) o))) refl
        ∙ other_passed l v (named l) refl e

    no_more : named k ≡ None → (ms : Named) → find under (flat_map one_built ms) ≡ None
    no_more none [] = refl
    no_more none (m ∷ ms) =
        find-append under (one_built m) (flat_map one_built ms) ∙ left_none (find under (one_built m))
        (find under (flat_map one_built ms)) (gone m.0 m.1 (bytes_eq k m.0) refl none) ∙ no_more none ms

    none_asserted : named k ≡ None → (o : Option Value) → option_and_then asserts o ≡ None
    none_asserted none None = refl
    none_asserted none (Some v) = ap (option_map (make v)) none

    first_built : (n : K) → named k ≡ Some n → (l : Text) (v : Value) (ms : Named) (b : Bool) → bytes_eq k l ≡ b
        → find under (flat_map one_built ms) ≡ option_and_then asserts (get k ms)
        → find under (flat_map one_built ((l, v) ∷ ms)) ≡ option_and_then asserts (if b then Some v else get k ms)
    first_built n is l v ms true e more =
        let same : k ≡ l = is_text-sound k l e in
        let here : option_map (make v) (named l)
        ≡ Some (make v n) = ap (option_map (make v)) (ap named (sym same) ∙ is) in
        let under_it : bytes_eq k (name (make v n)) ≡ true = ap (bytes_eq k) (sym (recorded k v n is) ∙ same) ∙ e in
        ap (λ o. find under (option_to_list o ++ flat_map one_built ms)) here
        ∙ ap (λ b. cond b (Some (make v n)) (find under (flat_map one_built ms))) under_it
        ∙ sym (ap (option_map (make v)) is)
    first_built n is l v ms false e more =
        find-append under (one_built (l, v)) (flat_map one_built ms) ∙ left_none (find under (one_built (l, v)))
        (find under (flat_map one_built ms)) (other_passed l v (named l) refl e)
        ∙ more

    some_built : (n : K) → named k ≡ Some n → (ms : Named)
        → find under (flat_map one_built ms) ≡ option_and_then asserts (get k ms)
    some_built n is [] = refl
    some_built n is (m ∷ ms) = first_built n is m.0 m.1 ms (bytes_eq k m.0) refl (some_built n is ms)
        ∙ ap (option_and_then asserts) (sym (get_first k m.0 m.1 ms))

    built_by : (o : Option K) → named k ≡ o → (ms : Named)
        → find under (flat_map one_built ms) ≡ option_and_then asserts (get k ms)
    built_by None is ms = no_more is ms ∙ sym (none_asserted is (get k ms))
    built_by (Some n) is ms = some_built n is ms

-- the assertion of a place's keyword is what is found under that name
pub assertion_found : (k : Text) (s : Site)
    → find (λ a. bytes_eq k (name_of a.keyword)) (assertions_at s) ≡ assertion k s
assertion_found k s = built_by keyword_named
    (λ v n. record { keyword = n; argument = v; beside_contains = has (codes "contains") (members_of s.schema) })
    (λ a. name_of a.keyword) (λ l v n is. named-name_of l n is) k (keyword_named k) refl (members_of s.schema)

-- ---- patterns

abbrev pub the_patterns : Text
the_patterns = codes "patternProperties"

pub no_patterns : (ms : Members) → ((l : Text) (w : Value) → Among (l, w) (member_list ms) → ¬ (the_patterns ≡ l))
    → flat_map patterns_of (member_list ms) ≡ []
no_patterns no_members h = refl
no_patterns (member l v ms) h =
    let other : bytes_eq l the_patterns ≡ false = unlike l the_patterns (λ e. h l v (inl refl) (sym e)) in
    ap (λ b. (if b then map pattern_at (members_of v) else []) ++ flat_map patterns_of (member_list ms)) other
    ∙ no_patterns ms (λ k w a. h k w (inr a))

module _ (name : Text) where
  abbrev so_named : BuiltPattern → Bool
  so_named b = bytes_eq name b.name

  one_pattern : (l : Text) (v : Value) (ms : Named) (b : Bool) → bytes_eq name l ≡ b
      → option_map (λ b. b.pattern) (find so_named (map pattern_at ms)) ≡ option_map (λ u. name) (get name ms)
      → option_map (λ b. b.pattern) (find so_named (map pattern_at ((l, v) ∷ ms)))
      ≡ option_map (λ u. name) (if b then Some v else get name ms)
  one_pattern l v ms true e more =
      let same : name ≡ l = is_text-sound name l e in
      ap (λ b. option_map (λ b. b.pattern)
      (cond b (Some (pattern_at (l, v))) (find so_named (map pattern_at ms)))) e ∙ ap Some (sym same)
  one_pattern l v ms false e more = ap (λ b.
      option_map (λ b. b.pattern) (cond b (Some (pattern_at (l, v))) (find so_named (map pattern_at ms)))) e ∙ more

  patterns_found : (ms : Named)
      → option_map (λ b. b.pattern) (find so_named (map pattern_at ms)) ≡ option_map (λ u. name) (get name ms)
  patterns_found [] = refl
  patterns_found (m ∷ ms) = one_pattern m.0 m.1 ms (bytes_eq name m.0) refl (patterns_found ms)
      ∙ ap (option_map (λ u. name)) (sym (get_first name m.0 m.1 ms))

  abbrev of_argument : Value → Option Text
  of_argument v = option_map (λ u. name) (argument name v)

  by_keyword : (l : Text) (v : Value) (ms : Members) (b : Bool) → bytes_eq l the_patterns ≡ b
      → (l ≡ the_patterns → flat_map patterns_of (member_list ms) ≡ [])
      → option_map (λ b. b.pattern) (find so_named (flat_map patterns_of (member_list ms)))
      ≡ option_and_then of_argument (get the_patterns (member_list ms))
      → option_map (λ b. b.pattern) (find so_named ((if b then map pattern_at (members_of v) else []) ++ flat_map
      patterns_of (member_list ms))) ≡ option_and_then of_argument (get the_patterns ((l, v) ∷ member_list ms))
  by_keyword l v ms true e none more =
      let same : l ≡ the_patterns = is_text-sound l the_patterns e in
      let here : bytes_eq the_patterns l ≡ true = ap (bytes_eq the_patterns) same ∙ is_text-refl the_patterns in
      ap (λ r. option_map (λ b. b.pattern) (find so_named (map pattern_at (members_of v) ++ r))) (none same)
      ∙ ap (λ r. option_map (λ b. b.pattern) (find so_named r)) (append-nil (map pattern_at (members_of v)))
      ∙ patterns_found (members_of v)
      ∙ ap (option_and_then of_argument) (sym (get_first the_patterns l v (member_list ms)
      ∙ ap (λ b. if b then Some v else get the_patterns (member_list ms)) here))
  by_keyword l v ms false e none more =
      let other : bytes_eq the_patterns l ≡ false = unlike the_patterns l (λ same. absurd (let yes : bytes_eq l
      the_patterns ≡ true = ap (λ x. bytes_eq x the_patterns) (sym same) ∙ is_text-refl the_patterns in cc)) in
      more ∙ ap (option_and_then of_argument) (sym (get_first the_patterns l v (member_list ms)
      ∙ ap (λ b. if b then Some v else get the_patterns (member_list ms)) other))

  pattern_in : (ms : Members) → NamesAscendInMembers ms → option_map (λ b. b.pattern) (find so_named
      (flat_map patterns_of (member_list ms))) ≡ option_and_then of_argument (get the_patterns (member_list ms))
  pattern_in no_members a = refl
  pattern_in (member l v ms) a =
      by_keyword l v ms (bytes_eq l the_patterns) refl
      (λ same. no_patterns ms (λ k w h e. less_apart l k (below_all l ms a.0 a.2 k w h) (same ∙ e)))
      (pattern_in ms a.2)

  pattern_of : (v : Value) → NamesAscend v → option_map (λ b. b.pattern)
      (find so_named (flat_map patterns_of (members_of v))) ≡ option_and_then of_argument (argument the_patterns v)
  pattern_of (object ms) a = pattern_in ms a
  pattern_of _ a = refl

-- the pattern of a name among a place's `patternProperties` is what is found under that name
pub pattern_found : (name : Text) (s : Site) → NamesAscend s.schema
    → option_map (λ b. b.pattern) (find (λ b. bytes_eq name b.name) (patterns_at s)) ≡ pattern name s
pattern_found name s a = pattern_of name s.schema a
