-- Only the two keywords that count ask how many items match the adjacent `contains`.
use Rattle.std.specs.Prelude.{◌≡◌, ℕ, Bool, true, false, List, Option}
use Rattle.std.specs.Prelude.{Some, None, option_map, codes, refl}
use Rattle.std.specs.Option.{option_map_or}
use Rattle.std.proofs.Common.{sym, subst}
use Rattle.js_doc.specs.Value.{Value, Named}
use Rattle.js_doc.specs.Members.{has_name}
use Rattle.js_keyword.proofs.KeywordNames.{named-name_of}
use Rattle.js_assert.specs.Argument.{implies}
use Rattle.js_assert.specs.Assertion.{Asserted, asserted, says, says_by}
use Rattle.js_assert.specs.ErrorText.{error}
use Rattle.js_keyword.specs.AssertionKeyword.{name_of, keyword_named}
use Rattle.js_assert.specs.Laws.{is_counting, IsAlikeWhateverMatches}
use Rattle.js_keyword.specs.declared.assertion_keyword.AssertionKeyword.{AssertionKeyword}
use Rattle.js_keyword.specs.declared.assertion_keyword.AssertionKeyword.TheVariants.{Array}
use Rattle.js_keyword.specs.declared.assertion_keyword.ArrayKeyword.TheVariants.{MaxContains, MinContains}

abbrev counts : AssertionKeyword → Bool
counts (Array MaxContains) = true
counts (Array MinContains) = true
counts _ = false

-- ---- each keyword that counts has one of the two names

abbrev fits : List ℕ → AssertionKeyword → Bool
fits name k = implies (counts k) (is_counting name)

fits_own : (k : AssertionKeyword) → fits (name_of k) k ≡ true
fits_own (Array MaxContains) = refl
fits_own _ = refl

fits_name : (name : List ℕ) (k : AssertionKeyword) → keyword_named name ≡ Some k → fits name k ≡ true
fits_name name k e = subst (λ n. fits n k ≡ true) (sym (named-name_of name k e)) (fits_own k)

apart : (c d : Bool) → implies c d ≡ true → d ≡ false → c ≡ false
apart true d h e = cc
apart false d h e = refl

-- ---- a keyword that doesn't count

says_alike : (k : AssertionKeyword) (a : Value) (b : Bool) (v : Value) (m n : ℕ) → counts k ≡ false
    → says_by a b v m k ≡ says_by a b v n k
says_alike (Array MaxContains) a b v m n h = cc
says_alike (Array MinContains) a b v m n h = cc
says_alike _ a b v m n h = refl

error_alike : (k : AssertionKeyword) (a : Value) (b : Bool) (v : Value) (m n : ℕ) → counts k ≡ false
    → error (record { keyword = k; argument = a; beside_contains = b }) v m
    ≡ error (record { keyword = k; argument = a; beside_contains = b }) v n
error_alike (Array MaxContains) a b v m n h = cc
error_alike (Array MinContains) a b v m n h = cc
error_alike _ a b v m n h = refl

module _ (name : List ℕ) (argument : Value) (siblings : Named) (v : Value) (m n : ℕ)
    (other : is_counting name ≡ false) where
  abbrev beside : Bool
  beside = has_name (codes "contains") siblings

  abbrev made : Option AssertionKeyword → Option Asserted
  made o = option_map (λ k. record { keyword = k; argument = argument; beside_contains = beside }) o

  says_of : (o : Option AssertionKeyword) → keyword_named name ≡ o
      → option_map_or (λ a. says a v m) (made o) true ≡ option_map_or (λ a. says a v n) (made o) true
  says_of None e = refl
  says_of (Some k) e = says_alike k argument beside v m n
      (apart (counts k) (is_counting name) (fits_name name k e) other)

  error_of : (o : Option AssertionKeyword) → keyword_named name ≡ o
      → option_map_or (λ a. error a v m) (made o) None ≡ option_map_or (λ a. error a v n) (made o) None
  error_of None e = refl
  error_of (Some k) e = error_alike k argument beside v m n
      (apart (counts k) (is_counting name) (fits_name name k e) other)

  pub says_whatever_matches : option_map_or (λ a. says a v m) (asserted name argument siblings) true
      ≡ option_map_or (λ a. says a v n) (asserted name argument siblings) true
  says_whatever_matches = says_of (keyword_named name) refl

  pub error_whatever_matches : option_map_or (λ a. error a v m) (asserted name argument siblings) None
      ≡ option_map_or (λ a. error a v n) (asserted name argument siblings) None
  error_whatever_matches = error_of (keyword_named name) refl

  pub alike_whatever_matches : IsAlikeWhateverMatches name argument siblings v m n
  alike_whatever_matches = record { verdict = says_whatever_matches; same_error = error_whatever_matches }
