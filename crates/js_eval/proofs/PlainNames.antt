-- The names of the standard's applicators and assertions are written as they are in a pointer, in a fragment and in a
-- JSON string, and indexes in a pointer.
use Rattle.std.proofs.Common.{◌≡◌, ℕ, ◌<◌, ◌^◌, Bool, true, false, cond, ◌||◌, ◌==◌, List, [], ◌∷◌, Some}
use Rattle.std.proofs.Common.{is_some, decimal, refl, sym, ap, subst, arith}
use Rattle.std.specs.List.{AllByRecursion, list_all}
use Rattle.std.specs.Str.{bytes_eq}
use Rattle.std.specs.Str.Parse.{AllDigits}
use Rattle.std.proofs.lemmas.Bool.Decides.{nat_tests}
use Rattle.std.proofs.lemmas.Fmt.{decimal_is_IsNumeral}
use Rattle.std.proofs.lemmas.Slice.Eq.{bytes_eq-Decides}
use Rattle.std.proofs.lemmas.Str.Parse.{digit_from_value}
use Rattle.js_doc.specs.Pointer.{escape}
use Rattle.js_doc.specs.Plain.{is_kept, is_plain}
use Rattle.js_doc.proofs.PlainTokens.{all_kept, all_plain, all_stand, kept_too}
use Rattle.js_keyword.proofs.KeywordNames.{is_known, known_by_name}
use Rattle.js_keyword.specs.AssertionKeyword.{name_of}
use Rattle.js_keyword.specs.declared.assertion_keyword.AssertionKeyword.{AssertionKeyword}
use Rattle.js_keyword.specs.declared.assertion_keyword.AssertionKeyword.TheVariants.{AnyType, Number, String, Array}
use Rattle.js_keyword.specs.declared.assertion_keyword.AssertionKeyword.TheVariants.{Object}
use Rattle.js_keyword.specs.declared.assertion_keyword.AnyTypeKeyword.TheVariants.{«Type»}
use Rattle.js_keyword.specs.declared.assertion_keyword.NumberKeyword.TheVariants.{MultipleOf}
use Rattle.js_keyword.specs.declared.assertion_keyword.StringKeyword.TheVariants.{MaxLength}
use Rattle.js_keyword.specs.declared.assertion_keyword.ArrayKeyword.TheVariants.{MaxItems}
use Rattle.js_keyword.specs.declared.assertion_keyword.ObjectKeyword.TheVariants.{MaxProperties}
use Rattle.js_keyword.specs.Keyword.{row_of, which_keyword}
use Rattle.js_eval.specs.code.Standard.{IsWrittenAsItIs}
use Rattle.js_keyword.specs.declared.keyword.Keyword.{Keyword}
use Rattle.js_keyword.specs.declared.keyword.Keyword.TheVariants.{Other, Assertion}
use Rattle.js_keyword.specs.declared.other_keyword.OtherKeyword.{OtherKeyword}

-- ---- names of keywords

abbrev IsPlain : List ℕ → Type 0
IsPlain name = list_all is_plain name ≡ true

plain_assertion : (a : AssertionKeyword) → IsPlain (name_of a)
plain_assertion (AnyType «Type») = refl
plain_assertion (Number MultipleOf) = refl
plain_assertion (String MaxLength) = refl
plain_assertion (Array MaxItems) = refl
plain_assertion (Object MaxProperties) = refl
plain_assertion _ = refl

plain_unless_other : (k : Keyword) → ((other : OtherKeyword) → k ≡ Other other → ⊥) → IsPlain (row_of k).name
plain_unless_other (Other other) not_so = absurd (not_so other refl)
plain_unless_other (Assertion a) not_so = plain_assertion a
plain_unless_other _ not_so = refl

known_unless_other : (k : Keyword) → ((other : OtherKeyword) → k ≡ Other other → ⊥) → is_known k ≡ true
known_unless_other (Other other) not_so = absurd (not_so other refl)
known_unless_other _ not_so = refl

pub written_by_keyword : (name : List ℕ) → ((other : OtherKeyword) → which_keyword name ≡ Other other → ⊥)
    → IsWrittenAsItIs name
written_by_keyword name other =
    let known = known_unless_other (which_keyword name) other in
    let plain : IsPlain name = subst IsPlain (sym (known_by_name name (which_keyword name) refl known))
    (plain_unless_other (which_keyword name) other) in
    record {
      in_pointer = all_kept name (kept_too name plain);
      in_fragment = ap (λ bs. 47 ∷ bs) (all_plain name plain);
      in_string = all_stand name plain;
    }

-- ---- indexes

digits_kept : (ds : List ℕ) → AllDigits 10 ds → list_all is_kept ds ≡ true
digits_kept [] d = refl
digits_kept (c ∷ cs) d =
    let digit = digit_from_value c d.0 in
    let tilde : c == 126 ≡ false = grind (arith, nat_tests, digit) in
    let slash : c == 47 ≡ false = grind (arith, nat_tests, digit) in
    rw (tilde, slash) (digits_kept cs d.1)

pub decimal_kept : (n : ℕ) → n < 2 ^ 64 → escape (decimal n) ≡ decimal n
decimal_kept n h = all_kept (decimal n) (digits_kept (decimal n) (decimal_is_IsNumeral n h).0.1)

pub not_matched : (matches : Bool) → matches ≡ true → matches ≡ false → ⊥
not_matched matches e f = absurd cc
