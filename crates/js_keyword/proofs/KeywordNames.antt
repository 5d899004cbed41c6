-- A name is a keyword's exactly if the keyword has it.
use Rattle.std.proofs.Common.{◌≡◌, ℕ, List, [], ◌∷◌, ◌++◌, Bool, true, false, cond, Option, Some, None}
use Rattle.std.proofs.Common.{map, option_map, unwrap_or, refl, sym, ap, ◌∙◌}
use Rattle.std.specs.Str.{bytes_eq}
use Rattle.std.proofs.lemmas.Slice.Eq.{bytes_eq-Decides}
use Rattle.js_keyword.specs.AssertionKeyword.{name_of, assertion_keywords, assertion_among, keyword_named}
use Rattle.js_keyword.specs.Keyword.{row_of, subschemas, applicators, others, among, keywords, which_keyword}
use Rattle.js_keyword.specs.declared.assertion_keyword.AssertionKeyword.{AssertionKeyword}
use Rattle.js_keyword.specs.declared.assertion_keyword.AssertionKeyword.TheVariants.{AnyType, Number, String, Array}
use Rattle.js_keyword.specs.declared.assertion_keyword.AssertionKeyword.TheVariants.{Object}
use Rattle.js_keyword.specs.declared.assertion_keyword.AnyTypeKeyword.TheVariants.{«Type»}
use Rattle.js_keyword.specs.declared.assertion_keyword.NumberKeyword.TheVariants.{MultipleOf}
use Rattle.js_keyword.specs.declared.assertion_keyword.StringKeyword.TheVariants.{MaxLength}
use Rattle.js_keyword.specs.declared.assertion_keyword.ArrayKeyword.TheVariants.{MaxItems}
use Rattle.js_keyword.specs.declared.assertion_keyword.ObjectKeyword.TheVariants.{MaxProperties}
use Rattle.js_keyword.specs.declared.argument_form.Holding.TheVariants.{Nothing}
use Rattle.js_keyword.specs.declared.keyword.Keyword.{Keyword}
use Rattle.js_keyword.specs.declared.keyword.Keyword.TheVariants.{Ref, Assertion, Other}
use Rattle.js_keyword.specs.declared.other_keyword.OtherKeyword.{OtherKeyword}
use Rattle.js_keyword.specs.declared.other_keyword.OtherKeyword.TheVariants.{Schema, Unknown}

-- ---- assertions

assertion_name : (ks : List AssertionKeyword) (name : List ℕ) (k : AssertionKeyword) → assertion_among ks name ≡ Some k
    → name ≡ name_of k
assertion_name [] name k e = absurd (cc)
assertion_name (l ∷ ls) name k e = at _ refl (assertion_name ls name k) e where
  at : (b : Bool) → bytes_eq name (name_of l) ≡ b → (assertion_among ls name ≡ Some k → name ≡ name_of k)
      → cond b (Some l) (assertion_among ls name) ≡ Some k → name ≡ name_of k
  at true is later e = (bytes_eq-Decides name (name_of l)).0 is ∙ ap name_of (let f : l ≡ k = cc in f)
  at false is later e = later e

pub named-name_of : (name : List ℕ) (k : AssertionKeyword) → keyword_named name ≡ Some k → name ≡ name_of k
unfolding keyword_named
named-name_of name k e = assertion_name assertion_keywords name k e

pub named_by_name : (k : AssertionKeyword) → keyword_named (name_of k) ≡ Some k
unfolding keyword_named
named_by_name (AnyType «Type») = refl
named_by_name (Number MultipleOf) = refl
named_by_name (String MaxLength) = refl
named_by_name (Array MaxItems) = refl
named_by_name (Object MaxProperties) = refl
named_by_name _ = refl

-- ---- all keywords

name_among : (ks : List Keyword) (name : List ℕ) (k : Keyword) → among ks name ≡ Some k → name ≡ (row_of k).name
name_among [] name k e = absurd (cc)
name_among (l ∷ ls) name k e = at _ refl (name_among ls name k) e where
  at : (b : Bool) → bytes_eq name (row_of l).name ≡ b → (among ls name ≡ Some k → name ≡ (row_of k).name)
      → cond b (Some l) (among ls name) ≡ Some k → name ≡ (row_of k).name
  at true is later e = (bytes_eq-Decides name (row_of l).name).0 is
      ∙ ap (λ m. (row_of m).name) (let f : l ≡ k = cc in f)
  at false is later e = later e

abbrev pub is_known : Keyword → Bool
is_known (Other Unknown) = false
is_known _ = true

pub known_by_name : (name : List ℕ) (k : Keyword) → which_keyword name ≡ k → is_known k ≡ true
    → name ≡ (row_of k).name
unfolding which_keyword
known_by_name name k = at (among keywords name) refl where
  at : (o : Option Keyword) → among keywords name ≡ o → unwrap_or o (Other Unknown) ≡ k → is_known k ≡ true
      → name ≡ (row_of k).name
  at None e is known = absurd (let f : is_known (Other Unknown) ≡ true = ap is_known is ∙ known in cc)
  at (Some l) e is known = name_among keywords name l e ∙ ap (λ m. (row_of m).name) is

assertion_by_name : (k : AssertionKeyword) → which_keyword (name_of k) ≡ Assertion k
unfolding which_keyword
assertion_by_name (AnyType «Type») = refl
assertion_by_name (Number MultipleOf) = refl
assertion_by_name (String MaxLength) = refl
assertion_by_name (Array MaxItems) = refl
assertion_by_name (Object MaxProperties) = refl
assertion_by_name _ = refl

other_by_name : (k : OtherKeyword) → which_keyword (row_of (Other k)).name ≡ Other k
unfolding which_keyword
other_by_name Schema = refl
other_by_name _ = refl

pub which_by_name : (k : Keyword) → which_keyword (row_of k).name ≡ k
unfolding which_keyword
which_by_name Ref = refl
which_by_name (Assertion k) = assertion_by_name k
which_by_name (Other k) = other_by_name k
which_by_name _ = refl

pub assertion_which : (name : List ℕ) (k : AssertionKeyword) → keyword_named name ≡ Some k
    → which_keyword name ≡ Assertion k
assertion_which name k e = ap which_keyword (named-name_of name k e) ∙ assertion_by_name k

pub which_assertion : (name : List ℕ) (k : AssertionKeyword) → which_keyword name ≡ Assertion k
    → keyword_named name ≡ Some k
which_assertion name k e = ap keyword_named (known_by_name name (Assertion k) e refl) ∙ named_by_name k

-- ---- the parts of the list

found_later : (xs ys : List Keyword) (name : List ℕ) → among xs name ≡ None → among (xs ++ ys) name ≡ among ys name
found_later [] ys name e = refl
found_later (x ∷ xs) ys name e = at (bytes_eq name (row_of x).name) e (found_later xs ys name) where
  at : (b : Bool) → cond b (Some x) (among xs name) ≡ None
      → (among xs name ≡ None → among (xs ++ ys) name ≡ among ys name)
      → cond b (Some x) (among (xs ++ ys) name) ≡ among ys name
  at true e later = absurd (cc)
  at false e later = later e

among_assertions : (ks : List AssertionKeyword) (name : List ℕ)
    → among (map Assertion ks) name ≡ option_map Assertion (assertion_among ks name)
among_assertions [] name = refl
among_assertions (k ∷ ks) name = at (bytes_eq name (name_of k)) (among_assertions ks name) where
  at : (b : Bool) → among (map Assertion ks) name ≡ option_map Assertion (assertion_among ks name)
      → cond b (Some (Assertion k)) (among (map Assertion ks) name)
      ≡ option_map Assertion (cond b (Some k) (assertion_among ks name))
  at true later = refl
  at false later = later

pub is_listed : (ks : List Keyword) (name : List ℕ) (k : Keyword) → among ks name ≡ Some k → k ≡ which_keyword name
is_listed ks name k e = sym (ap which_keyword (name_among ks name k e) ∙ which_by_name k)

pub is_other : (name : List ℕ) → among applicators name ≡ None → keyword_named name ≡ None
    → unwrap_or (among others name) (Other Unknown) ≡ which_keyword name
unfolding which_keyword keyword_named
is_other name e f = sym (ap (λ o. unwrap_or o (Other Unknown))
    (found_later applicators (map Assertion assertion_keywords ++ others) name e
    ∙ found_later (map Assertion assertion_keywords) others name
    (among_assertions assertion_keywords name ∙ ap (option_map Assertion) f)))

-- a name that is neither an applicator's nor one of the others holds nothing
pub holds_nothing : (name : List ℕ) → among applicators name ≡ None → among others name ≡ None
    → Nothing ≡ subschemas (which_keyword name)
holds_nothing name e f = at (keyword_named name) refl where
  at : (o : Option AssertionKeyword) → keyword_named name ≡ o → Nothing ≡ subschemas (which_keyword name)
  at (Some k) is = ap subschemas (sym (assertion_which name k is))
  at None is = ap subschemas (ap (λ o. unwrap_or o (Other Unknown)) (sym f) ∙ is_other name e is)
