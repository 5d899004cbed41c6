-- Which keyword of the standard a name is determines when it has its turn.
use Rattle.std.specs.Prelude.{◌≡◌, ℕ, Bool, true, false, not, ◌||◌, cond, if◌then◌else◌, List, [], ◌∷◌}
use Rattle.std.specs.Prelude.{Option, Some, None, option_map, unwrap_or, codes, refl}
use Rattle.std.specs.List.{AllByRecursion, list_any, list_all}
use Rattle.std.specs.Str.{bytes_eq}
use Rattle.std.proofs.Common.{sym, ◌∙◌, ap, subst}
use Rattle.std.proofs.lemmas.Bool.{and_parts}
use Rattle.std.proofs.lemmas.Slice.Eq.{bytes_eq-Decides}
use Rattle.js_keyword.proofs.KeywordNames as names
use Rattle.js_keyword.proofs.KeywordNames.{is_known, is_listed, assertion_which, known_by_name, which_by_name}
use Rattle.js_keyword.specs.AssertionKeyword.{name_of, keyword_named}
use Rattle.js_keyword.specs.declared.assertion_keyword.AssertionKeyword.{AssertionKeyword}
use Rattle.js_keyword.specs.declared.assertion_keyword.AssertionKeyword.TheVariants.{AnyType, Number, String, Array}
use Rattle.js_keyword.specs.declared.assertion_keyword.AssertionKeyword.TheVariants.{Object}
use Rattle.js_keyword.specs.declared.assertion_keyword.AnyTypeKeyword.TheVariants.{«Type»}
use Rattle.js_keyword.specs.declared.assertion_keyword.NumberKeyword.TheVariants.{MultipleOf}
use Rattle.js_keyword.specs.declared.assertion_keyword.StringKeyword.TheVariants.{MaxLength}
use Rattle.js_keyword.specs.declared.assertion_keyword.ArrayKeyword.TheVariants.{MaxItems}
use Rattle.js_keyword.specs.declared.assertion_keyword.ObjectKeyword.TheVariants.{MaxProperties}
use Rattle.js_assert.specs.Argument.{entries}
use Rattle.js_bundle.specs.Document.{Documents}
use Rattle.js_keyword.specs.Keyword.{row_of, applicators, others, among, which_keyword}
use Rattle.js_bundle.specs.MemberKeywords.{member_keywords}
use Rattle.js_bundle.specs.Schemas.{is_place, place_at}
use Rattle.js_eval.specs.Sited.{numbered_site}
use Rattle.js_eval.proofs.AssertionThere.{place_is, same_members}
use Rattle.js_keyword.specs.declared.keyword.Keyword.{Keyword}
use Rattle.js_keyword.specs.declared.keyword.Keyword.TheVariants.{Else, Assertion, Other}
use Rattle.js_keyword.specs.declared.other_keyword.OtherKeyword.{OtherKeyword}
use Rattle.js_keyword.specs.declared.other_keyword.OtherKeyword.TheVariants.{Unknown}
use Rattle.js_eval.specs.Keywords.{has_node, is_else, is_after_if, without_node}
use Rattle.js_eval.specs.code.Standard.{turn_by_keyword, turn_by_side, keyword_names_of}
use Rattle.js_eval.specs.code.Turns.{turn_by, turn_of}
use Rattle.js_eval.specs.declared.order.turn.Turn.{Turn}
use Rattle.js_eval.specs.declared.order.turn.Turn.TheVariants.{Never, First, Last}

-- ---- what holds of each applicator by its name, and of all others by any, holds of each name

among_has : (t : List ℕ → Keyword → Bool) (ks : List Keyword) (name : List ℕ) (k : Keyword)
    → list_all (λ l. t (row_of l).name l) ks ≡ true → among ks name ≡ Some k → t name k ≡ true
among_has t [] name k h e = absurd cc
among_has t (l ∷ ls) name k h e =
    let p = and_parts (t (row_of l).name l) (list_all (λ m. t (row_of m).name m) ls) h in
    at (bytes_eq name (row_of l).name) refl e p.0 (among_has t ls name k p.1)
  where
    at : (b : Bool) → bytes_eq name (row_of l).name ≡ b → cond b (Some l) (among ls name) ≡ Some k
        → t (row_of l).name l ≡ true → (among ls name ≡ Some k → t name k ≡ true) → t name k ≡ true
    at true is e here more =
        let same : l ≡ k = cc in
        subst (λ m. t name m ≡ true) same (ap (λ n. t n l) ((bytes_eq-Decides name (row_of l).name).0 is) ∙ here)
    at false is e here more = more e

abbrev is_other : Keyword → Bool
is_other (Other _) = true
is_other _ = false

module _ (q : List ℕ → Keyword → Bool) (name : List ℕ) where
  by_other : ((other : OtherKeyword) → q name (Other other) ≡ true) → (k : Keyword) → is_other k ≡ true
      → q name k ≡ true
  by_other h (Other other) e = h other
  by_other h _ e = cc

  by_others : ((other : OtherKeyword) → q name (Other other) ≡ true) → (o : Option Keyword) → among others name ≡ o
      → q name (unwrap_or o (Other Unknown)) ≡ true
  by_others h None e = h Unknown
  by_others h (Some k) e = by_other h k (among_has (λ n l. is_other l) others name k refl e)

  by_assertion : ((a : AssertionKeyword) → q name (Assertion a) ≡ true)
      → ((other : OtherKeyword) → q name (Other other) ≡ true) → among applicators name ≡ None
      → (o : Option AssertionKeyword) → keyword_named name ≡ o → q name (which_keyword name) ≡ true
  by_assertion f h none (Some a) e = ap (q name) (assertion_which name a e) ∙ f a
  by_assertion f h none None e = ap (q name) (sym (names.is_other name none e)) ∙ by_others h (among others name) refl

  by_applicator : ((a : AssertionKeyword) → q name (Assertion a) ≡ true)
      → ((other : OtherKeyword) → q name (Other other) ≡ true)
      → list_all (λ k. q (row_of k).name k) applicators ≡ true
      → (o : Option Keyword) → among applicators name ≡ o → q name (which_keyword name) ≡ true
  by_applicator f h rows (Some k) e =
      ap (q name) (sym (is_listed applicators name k e)) ∙ among_has q applicators name k rows e
  by_applicator f h rows None e = by_assertion f h e (keyword_named name) refl

pub by_keyword : (q : List ℕ → Keyword → Bool) → ((name : List ℕ) (a : AssertionKeyword) → q name (Assertion a) ≡ true)
    → ((name : List ℕ) (other : OtherKeyword) → q name (Other other) ≡ true)
    → list_all (λ k. q (row_of k).name k) applicators ≡ true → (name : List ℕ) → q name (which_keyword name) ≡ true
by_keyword q assertion other rows name =
    by_applicator q name (assertion name) (other name) rows (among applicators name) refl

-- what each known keyword has by its name, and each other name, each name has
by_name : (P : List ℕ → Keyword → Type 0) → ((k : Keyword) → is_known k ≡ true → P (row_of k).name k)
    → ((name : List ℕ) → which_keyword name ≡ Other Unknown → P name (Other Unknown))
    → (name : List ℕ) → P name (which_keyword name)
by_name P known unknown name = at (is_known (which_keyword name)) refl
  where
    is_unknown : (k : Keyword) → is_known k ≡ false → k ≡ Other Unknown
    is_unknown (Other Unknown) e = refl
    is_unknown _ e = absurd (let z : true ≡ false = e in cc)

    at : (b : Bool) → is_known (which_keyword name) ≡ b → P name (which_keyword name)
    at true e = subst (λ n. P n (which_keyword name)) (sym (known_by_name name (which_keyword name) refl e))
        (known (which_keyword name) e)
    at false e =
        let is = is_unknown (which_keyword name) e in
        subst (P name) (sym is) (unknown name is)

-- ---- when it has its turn

-- a name that isn't known isn't a known one
apart : (known name : List ℕ) → is_known (which_keyword known) ≡ true → is_known (which_keyword name) ≡ false
    → bytes_eq name known ≡ false
apart known name k u = at (bytes_eq name known) refl
  where
    at : (b : Bool) → bytes_eq name known ≡ b → b ≡ false
    at true e = absurd (let z : true ≡ false = sym k
        ∙ (ap (λ n. is_known (which_keyword n)) (sym ((bytes_eq-Decides name known).0 e)) ∙ u) in cc)
    at false e = refl

none_known : (names : List (List ℕ)) (name : List ℕ) → AllByRecursion (λ n. is_known (which_keyword n) ≡ true) names
    → is_known (which_keyword name) ≡ false → list_any (bytes_eq name) names ≡ false
none_known [] name h u = refl
none_known (n ∷ names) name h u =
    ap (λ b. b || list_any (bytes_eq name) names) (apart n name h.0 u) ∙ none_known names name h.1 u

all_known : AllByRecursion (λ n. is_known (which_keyword n) ≡ true) without_node
unfolding which_keyword
all_known = (refl, (refl, (refl, (refl, (refl, (refl, (refl, (refl, tt))))))))

side_turn : (b : Bool) → turn_by true b false ≡ (if b then Last else First)
side_turn true = refl
side_turn false = refl

assertion_turn : (a : AssertionKeyword) → turn_of (name_of a) ≡ turn_by_side (name_of a)
unfolding turn_of
assertion_turn (AnyType «Type») = refl
assertion_turn (Number MultipleOf) = refl
assertion_turn (String MaxLength) = refl
assertion_turn (Array MaxItems) = refl
assertion_turn (Object MaxProperties) = refl
assertion_turn _ = refl

known_turn : (k : Keyword) → is_known k ≡ true → turn_of (row_of k).name ≡ turn_by_keyword k (row_of k).name
unfolding turn_of
known_turn (Assertion a) h = assertion_turn a
known_turn (Other Unknown) h = absurd (let z : false ≡ true = h in cc)
known_turn _ h = refl

unknown_turn : (name : List ℕ) → which_keyword name ≡ Other Unknown → turn_of name ≡ turn_by_side name
unfolding turn_of
unknown_turn name e =
    let u : is_known (which_keyword name) ≡ false = ap is_known e in
    ap (λ n. turn_by (not n) (is_after_if name) (is_else name)) (none_known without_node name all_known u)
    ∙ (ap (turn_by true (is_after_if name)) (apart (codes "else") name (ap is_known (which_by_name Else)) u)
    ∙ side_turn (is_after_if name))

pub turn_is : (name : List ℕ) → turn_of name ≡ turn_by_keyword (which_keyword name) name
turn_is name = by_name (λ n k. turn_of n ≡ turn_by_keyword k n) known_turn unknown_turn name

-- ---- as the code asks

pub turn_if_named : (which : Keyword) (name : List ℕ) (t : Turn) → which ≡ which_keyword name
    → t ≡ turn_by_keyword which name → t ≡ turn_of name
turn_if_named which name t e h = h ∙ (ap (λ w. turn_by_keyword w name) e ∙ sym (turn_is name))

-- ---- of a place's keywords

pub names_are : (documents : Documents) (n : ℕ) (names : List Keyword) → is_place documents n ≡ true
    → option_map member_keywords (place_at documents n) ≡ Some names
    → names ≡ keyword_names_of (entries (numbered_site documents n).schema)
names_are documents n names h e =
    let q : Some names ≡ Some (member_keywords (numbered_site documents n)) = sym e
    ∙ ap (option_map member_keywords) (place_is documents n h) in
    let s : names ≡ member_keywords (numbered_site documents n) = cc in
    s ∙ ap keyword_names_of (same_members (numbered_site documents n).schema)
