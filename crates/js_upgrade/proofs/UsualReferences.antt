-- A usual reference leads to the definition that it names, and to nothing that is copied.
use Rattle.std.proofs.Common.{◌≡◌, ℕ, ◌+◌, ◌<◌, ◌≤◌, [], ◌∷◌, ◌++◌, Bool, true, false}
use Rattle.std.proofs.Common.{not, ◌&&◌, ◌||◌, Option, Some, None}
use Rattle.std.proofs.Common.{zero, suc, cond, flat_map, length, nat_lt, codes, refl, sym, ap, ◌∙◌, arith}
use Rattle.std.specs.Prelude.{◌==◌, option_and_then, if◌then◌else◌}
use Rattle.std.specs.List.{list_all}
use Rattle.std.specs.Str.{IsAscii, is_utf8}
use Rattle.std.proofs.lemmas.Bool.{agree_below, agree_below_at, and_parts, le-ltb, ltb-false, ltb-true}
use Rattle.std.proofs.lemmas.Bool.Decides.{nat_tests}
use Rattle.std.proofs.lemmas.List.{append-nil}
use Rattle.std.proofs.lemmas.Str.{IsUtf8-from_ascii, is_utf8-from_IsUtf8}
use Rattle.percent_encoding.specs.Percent.{percent_decode}
use Rattle.percent_encoding.proofs.PercentLemmas.{percent_decode-nil, percent_decode_not_percent}
use Rattle.js_doc.specs.Fragment.{fragment_byte, is_fragment_char}
use Rattle.js_doc.specs.Plain.{is_kept}
use Rattle.js_doc.specs.Pointer.{Tokens, escape, pointer_text}
use Rattle.js_doc.specs.PointerReading.{pointer_of}
use Rattle.js_doc.specs.Value.{Text}
use Rattle.js_doc.proofs.PlainTokens.{all_kept}
use Rattle.js_doc.proofs.PointerTexts.{pointer_of-text}
use Rattle.js_upgrade.specs.CopyName.{definitions_name}
use Rattle.js_upgrade.specs.Dialect.{after_prefix}
use Rattle.js_upgrade.specs.Url.{uri_limit}
use Rattle.js_upgrade.specs.code.Local.{is_fragment_byte, local_fragment}
use Rattle.js_upgrade.specs.code.Usual.{is_usual_byte, plain_name, usual_name, usual_prefix}
use Rattle.js_upgrade.specs.declared.dialect.Dialect.{Dialect}
use Rattle.js_upgrade.proofs.ByCases.{by_dialect}
use Rattle.js_upgrade.proofs.Prefixes.{after-prefixed, some_is}

-- ---- how it is written

abbrev IsPlainName : Text → Type 0
IsPlainName name = (length name ≤ 60000) × (list_all is_usual_byte name ≡ true)

plain_by : (rest name : Text) (long plain : Bool) → nat_lt 60000 (length rest) ≡ long
    → list_all is_usual_byte rest ≡ plain
    → cond (not long && plain) (Some rest) None ≡ Some name → (rest ≡ name) × IsPlainName rest
plain_by rest name false true short plain is = (some_is rest name is, (ltb-false 60000 (length rest) short, plain))
plain_by rest name false false short plain is = absurd (cc)
plain_by rest name true plain long all is = absurd (cc)

parts_by : (d : Dialect) (t name : Text) (found : Option Text) → after_prefix (usual_prefix d) t ≡ found
    → option_and_then plain_name found ≡ Some name → (t ≡ usual_prefix d ++ name) × IsPlainName name
parts_by d t name None is named = absurd (cc)
parts_by d t name (Some rest) is named =
    let plain = plain_by rest name (nat_lt 60000 (length rest)) (list_all is_usual_byte rest) refl refl named in (
      after-prefixed (usual_prefix d) t rest is ∙ ap (λ n. usual_prefix d ++ n) plain.0,
      subst_plain rest name plain.0 plain.1,
    )
  where
    subst_plain : (rest name : Text) → rest ≡ name → IsPlainName rest → IsPlainName name
    subst_plain rest name same (short, plain) =
        (rw (sym (ap length same)) short, ap (list_all is_usual_byte) (sym same) ∙ plain)

pub usual_parts : (d : Dialect) (t name : Text) → usual_name d t ≡ Some name
    → (t ≡ usual_prefix d ++ name) × IsPlainName name
usual_parts d t name is = parts_by d t name (after_prefix (usual_prefix d) t) refl is

-- ---- its bytes

kept_or : (plain other : Bool) → (plain && not other) ≡ false → plain ≡ true → other ≡ true
kept_or true true none is = refl
kept_or true false none is = absurd (cc)
kept_or false other none is = absurd (cc)

plain_below : agree_below (λ b. is_usual_byte b && not (is_fragment_byte b && not (b == 37))) (λ b. false) 128 ≡ true
plain_below = refl

plain_high : (b : ℕ) → is_usual_byte b ≡ true → b < 128
plain_high b is = grind (arith, nat_tests)

plain_stands : (b : ℕ) → is_usual_byte b ≡ true → (is_fragment_byte b && not (b == 37)) ≡ true
plain_stands b is =
    kept_or (is_usual_byte b) (is_fragment_byte b && not (b == 37))
    (agree_below_at (λ b. is_usual_byte b && not (is_fragment_byte b && not (b == 37))) (λ b. false) 128 b plain_below
    (plain_high b is)) is

plain_kept_below : agree_below (λ b. is_usual_byte b && not (is_kept b)) (λ b. false) 128 ≡ true
plain_kept_below = refl

usual_kept : (bs : Text) → list_all is_usual_byte bs ≡ true → list_all is_kept bs ≡ true
usual_kept [] is = refl
usual_kept (b ∷ bs) is =
    let parts = and_parts (is_usual_byte b) (list_all is_usual_byte bs) is in
    ap (λ x. x && list_all is_kept bs)
    (kept_or (is_usual_byte b) (is_kept b)
    (agree_below_at (λ b. is_usual_byte b && not (is_kept b)) (λ b. false) 128 b plain_kept_below
    (plain_high b parts.0)) parts.0)
    ∙ usual_kept bs parts.1

plain_char_below : agree_below (λ b. is_usual_byte b && not (is_fragment_char b)) (λ b. false) 128 ≡ true
plain_char_below = refl

encoded_alone : (bs : Text) → list_all is_usual_byte bs ≡ true → flat_map fragment_byte bs ≡ bs
encoded_alone [] is = refl
encoded_alone (b ∷ bs) is =
    let parts = and_parts (is_usual_byte b) (list_all is_usual_byte bs) is in
    let here = kept_or (is_usual_byte b) (is_fragment_char b)
    (agree_below_at (λ b. is_usual_byte b && not (is_fragment_char b)) (λ b. false) 128 b plain_char_below
    (plain_high b parts.0)) parts.0 in
    rw (here) (ap (λ cs. b ∷ cs) (encoded_alone bs parts.1))

-- a name is written as it is
pub all_usual : (bs : Text) → list_all is_usual_byte bs ≡ true → flat_map fragment_byte (escape bs) ≡ bs
all_usual bs is = ap (flat_map fragment_byte) (all_kept bs (usual_kept bs is)) ∙ encoded_alone bs is

abbrev stands : ℕ → Bool
stands b = is_fragment_byte b && not (b == 37)

all_stand : (bs : Text) → list_all is_usual_byte bs ≡ true → list_all stands bs ≡ true
all_stand [] is = refl
all_stand (b ∷ bs) is =
    let parts = and_parts (is_usual_byte b) (list_all is_usual_byte bs) is in
    ap (λ x. x && list_all stands bs) (plain_stands b parts.0) ∙ all_stand bs parts.1

all_fragment : (bs : Text) → list_all stands bs ≡ true → list_all is_fragment_byte bs ≡ true
all_fragment [] is = refl
all_fragment (b ∷ bs) is =
    let parts = and_parts (stands b) (list_all stands bs) is in
    ap (λ x. x && list_all is_fragment_byte bs) (and_parts (is_fragment_byte b) (not (b == 37)) parts.0).0
    ∙ all_fragment bs parts.1

undecoded : (bs : Text) → list_all stands bs ≡ true → percent_decode bs ≡ bs
undecoded [] is = percent_decode-nil
undecoded (b ∷ bs) is =
    let parts = and_parts (stands b) (list_all stands bs) is in
    let other = (and_parts (is_fragment_byte b) (not (b == 37)) parts.0).1 in
    percent_decode_not_percent b bs (grind (arith, nat_tests)) ∙ ap (λ cs. b ∷ cs) (undecoded bs parts.1)

fragment_ascii : (b : ℕ) → is_fragment_byte b ≡ true → b < 128
fragment_ascii b is =
    let parts = and_parts (nat_lt 32 b) (nat_lt b 127 && not (b == 34 || (b == 60 || (b == 62 || b == 96)))) is in
    let under = and_parts (nat_lt b 127) (not (b == 34 || (b == 60 || (b == 62 || b == 96)))) parts.1 in
    omega (arith, ltb-true b 127 under.0)

pub all_ascii : (bs : Text) → list_all is_fragment_byte bs ≡ true → IsAscii bs
all_ascii [] is i = omega arith
all_ascii (b ∷ bs) is zero = fragment_ascii b (and_parts (is_fragment_byte b) (list_all is_fragment_byte bs) is).0
all_ascii (b ∷ bs) is (suc i) =
    all_ascii bs (and_parts (is_fragment_byte b) (list_all is_fragment_byte bs) is).1 i

-- ---- its fragment

-- the fragment behind the `#`
abbrev pub usual_fragment : Dialect → Text → Text
usual_fragment d name = 47 ∷ (definitions_name d ++ (47 ∷ name))

abbrev pub usual_tokens : Dialect → Text → Tokens
usual_tokens d name = definitions_name d ∷ name ∷ []

prefix_is : (d : Dialect) (name : Text) → usual_prefix d ++ name ≡ 35 ∷ usual_fragment d name
prefix_is d name = by_dialect (λ e. usual_prefix e ++ name ≡ 35 ∷ usual_fragment e name) refl refl refl refl refl refl d

all_there : (d : Dialect) (name : Text) → list_all is_usual_byte name ≡ true
    → list_all stands (usual_fragment d name) ≡ true
all_there d name is =
    let all = all_stand name is in
    by_dialect (λ e. list_all stands (usual_fragment e name) ≡ true) all all all all all all d

-- with 20 bytes more than the name, at most
long_enough : (d : Dialect) (name : Text) → length (35 ∷ usual_fragment d name) ≤ length name + 20
long_enough d name =
    by_dialect (λ e. length (35 ∷ usual_fragment e name) ≤ length name + 20) (omega arith) (omega arith) (omega arith)
    (omega arith) (omega arith) (omega arith) d

local_by : (fragment : Text) (long kept : Bool) → nat_lt uri_limit (length (35 ∷ fragment)) ≡ long
    → list_all is_fragment_byte fragment ≡ kept → long ≡ false → kept ≡ true
    → cond (not long && kept) (Some fragment) None ≡ Some fragment
local_by fragment false true short kept a b = refl
local_by fragment false false short kept a b = absurd (cc)
local_by fragment true kept long all a b = absurd (cc)

module _ (d : Dialect) (t name : Text) (is : usual_name d t ≡ Some name) where
  its_parts : (t ≡ usual_prefix d ++ name) × IsPlainName name
  its_parts = usual_parts d t name is

  pub its_text : t ≡ 35 ∷ usual_fragment d name
  its_text = its_parts.0 ∙ prefix_is d name

  pub plain_bytes : list_all is_usual_byte name ≡ true
  plain_bytes = its_parts.1.1

  it_stands : list_all stands (usual_fragment d name) ≡ true
  it_stands = all_there d name plain_bytes

  pub usual_short : nat_lt uri_limit (length t) ≡ false
  usual_short =
      let enough = long_enough d name in
      let short = its_parts.1.0 in
      ap (λ u. nat_lt uri_limit (length u)) its_text
      ∙ le-ltb uri_limit (length (35 ∷ usual_fragment d name)) (omega (arith, enough, short))

  pub usual_local : local_fragment t ≡ Some (usual_fragment d name)
  usual_local =
      ap local_fragment its_text
      ∙ local_by (usual_fragment d name) (nat_lt uri_limit (length (35 ∷ usual_fragment d name)))
      (list_all is_fragment_byte (usual_fragment d name)) refl refl
      (sym (ap (λ u. nat_lt uri_limit (length u)) its_text) ∙ usual_short)
      (all_fragment (usual_fragment d name) it_stands)

  its_utf8 : is_utf8 (usual_fragment d name) ≡ true
  its_utf8 =
      is_utf8-from_IsUtf8 (usual_fragment d name) (IsUtf8-from_ascii (usual_fragment d name)
      (all_ascii (usual_fragment d name) (all_fragment (usual_fragment d name) it_stands)))

  written : pointer_text (usual_tokens d name) ≡ usual_fragment d name
  written =
      let same = append-nil (escape name) ∙ all_kept name (usual_kept name plain_bytes) in
      let definitions = ap (λ n. codes "/definitions/" ++ n) same in
      let defs = ap (λ n. codes "/$defs/" ++ n) same in
      by_dialect (λ e. pointer_text (usual_tokens e name) ≡ usual_fragment e name) definitions definitions definitions
      definitions defs defs d

  -- the pointer that the fragment is
  pub usual_pointer : Some (usual_tokens d name)
      ≡ (if is_utf8 (percent_decode (usual_fragment d name)) then pointer_of (percent_decode (usual_fragment d name))
      else None)
  usual_pointer =
      sym (pointer_of-text (usual_tokens d name)) ∙ ap pointer_of written
      ∙ sym (ap (λ f. if is_utf8 f then pointer_of f else None) (undecoded (usual_fragment d name) it_stands)
      ∙ ap (λ b. cond b (pointer_of (usual_fragment d name)) None) its_utf8)
