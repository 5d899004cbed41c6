-- Names are spelled as 2020-12 can have them, and two names stay two.
use Rattle.std.proofs.Common.{◌≡◌, ℕ, ◌+◌, ◌*◌, ◌<◌, ◌/◌, ◌%◌, [], ◌∷◌, ◌++◌, Bool, true, false, not, ◌&&◌}
use Rattle.std.proofs.Common.{cond, flat_map, nat_lt, refl, sym, ap, ap₂, ◌∙◌, arith}
use Rattle.std.specs.Fmt.{digit_glyph}
use Rattle.std.specs.List.{AllByRecursion, list_all}
use Rattle.std.proofs.Math.Nat.{div-add-mod, mod-eq_of_lt, mod-lt}
use Rattle.std.proofs.lemmas.Bool.{and_parts, ltb-false, ltb-true}
use Rattle.std.proofs.lemmas.Bool.Decides.{nat_tests}
use Rattle.js_doc.specs.Value.{Text}
use Rattle.js_upgrade.specs.AnchorName.{is_kept_byte, is_name_part, is_plain_name, is_settled, is_spelled}
use Rattle.js_upgrade.specs.AnchorName.{spelled, spelled_byte}
use Rattle.js_upgrade.specs.Laws.{NamesArePlain, NamesStayApart}

-- ---- two hexadecimal digits are those of one byte

glyphs_by : (d e : ℕ) (small less : Bool) → nat_lt d 10 ≡ small → nat_lt e 10 ≡ less
    → cond small (48 + d) (55 + d) ≡ cond less (48 + e) (55 + e) → d ≡ e
glyphs_by d e true true a b is = omega (arith, is)
glyphs_by d e false false a b is = omega (arith, is)
glyphs_by d e true false a b is = omega (arith, is, ltb-true d 10 a, ltb-false e 10 b)
glyphs_by d e false true a b is = omega (arith, is, ltb-false d 10 a, ltb-true e 10 b)

same_digit : (d e : ℕ) → digit_glyph true d ≡ digit_glyph true e → d ≡ e
same_digit d e is = glyphs_by d e (nat_lt d 10) (nat_lt e 10) refl refl is

-- a byte by its halves
halves : (b : ℕ) → b < 256 → 16 * (b / 16 % 16) + b % 16 ≡ b
halves b low =
    let whole = div-add-mod b 16 in
    ap (λ h. 16 * h + b % 16) (mod-eq_of_lt (omega (arith, low, whole))) ∙ whole

same_byte : (a b : ℕ) → a < 256 → b < 256 → digit_glyph true (a / 16 % 16) ≡ digit_glyph true (b / 16 % 16)
    → digit_glyph true (a % 16) ≡ digit_glyph true (b % 16) → a ≡ b
same_byte a b low under high rest =
    sym (halves a low)
    ∙ ap₂ (λ h l. 16 * h + l) (same_digit (a / 16 % 16) (b / 16 % 16) high) (same_digit (a % 16) (b % 16) rest)
    ∙ halves b under

-- ---- bytes that are spelled in the same way are the same

abbrev by_kept : Bool → ℕ → Text
by_kept kept b = cond kept (b ∷ []) (45 ∷ digit_glyph true (b / 16 % 16) ∷ digit_glyph true (b % 16) ∷ [])

no_hyphen : (b : ℕ) → is_kept_byte b ≡ true → b ≡ 45 → Text → true ≡ false
no_hyphen b kept is t = sym kept ∙ ap is_kept_byte is

head_same : (a b : ℕ) (xs ys : Text) → a ∷ xs ≡ b ∷ ys → a ≡ b
head_same a b xs ys is = cc

tail_same : (a b : ℕ) (xs ys : Text) → a ∷ xs ≡ b ∷ ys → xs ≡ ys
tail_same a b xs ys is = cc

step_by : (a b : ℕ) (x y : Text) (kept held : Bool) → is_kept_byte a ≡ kept → is_kept_byte b ≡ held → a < 256
    → b < 256 → by_kept kept a ++ x ≡ by_kept held b ++ y → (a ≡ b) × (x ≡ y)
step_by a b x y true true k h low under is = (head_same a b x y is, tail_same a b x y is)
step_by a b x y false false k h low under is =
    let hex = digit_glyph true in
    let rest = tail_same 45 45 (hex (a / 16 % 16) ∷ hex (a % 16) ∷ x) (hex (b / 16 % 16) ∷ hex (b % 16) ∷ y) is in
    let more = tail_same (hex (a / 16 % 16)) (hex (b / 16 % 16)) (hex (a % 16) ∷ x) (hex (b % 16) ∷ y) rest in (
      same_byte a b low under
          (head_same (hex (a / 16 % 16)) (hex (b / 16 % 16)) (hex (a % 16) ∷ x) (hex (b % 16) ∷ y) rest)
          (head_same (hex (a % 16)) (hex (b % 16)) x y more),
      tail_same (hex (a % 16)) (hex (b % 16)) x y more,
    )
step_by a b x y true false k h low under is =
    let wrong = no_hyphen a k (head_same a 45 x
    (digit_glyph true (b / 16 % 16) ∷ digit_glyph true (b % 16) ∷ y) is) [] in absurd (cc)
step_by a b x y false true k h low under is =
    let wrong = no_hyphen b h (sym (head_same 45 b (digit_glyph true (a / 16 % 16) ∷ digit_glyph true (a % 16) ∷ x)
    y is)) [] in absurd (cc)

some_byte : (b : ℕ) (y : Text) (kept : Bool) → [] ≡ by_kept kept b ++ y → true ≡ false
some_byte b y true is = absurd (cc)
some_byte b y false is = absurd (cc)

bytes_same : (xs ys : Text) → AllByRecursion (λ b. b < 256) xs → AllByRecursion (λ b. b < 256) ys
    → flat_map spelled_byte xs ≡ flat_map spelled_byte ys → xs ≡ ys
bytes_same [] [] low under is = refl
bytes_same [] (b ∷ ys) low under is =
    let wrong = some_byte b (flat_map spelled_byte ys) (is_kept_byte b) is in absurd (cc)
bytes_same (a ∷ xs) [] low under is =
    let wrong = some_byte a (flat_map spelled_byte xs) (is_kept_byte a) (sym is) in absurd (cc)
bytes_same (a ∷ xs) (b ∷ ys) low under is =
    let both = step_by a b (flat_map spelled_byte xs) (flat_map spelled_byte ys) (is_kept_byte a) (is_kept_byte b)
    refl refl low.0 under.0 is in
    ap₂ (λ c cs. c ∷ cs) both.0 (bytes_same xs ys low.1 under.1 both.1)

-- ---- names

not_spelled : (name : Text) → is_settled name ≡ true → is_spelled name ≡ true → true ≡ false
not_spelled name is so =
    let parts = and_parts (is_plain_name name) (not (is_spelled name)) is in sym parts.1 ∙ ap not so

apart_by : (a b : Text) (settled stays : Bool) → is_settled a ≡ settled → is_settled b ≡ stays
    → AllByRecursion (λ x. x < 256) a → AllByRecursion (λ x. x < 256) b
    → cond settled a (spelled a) ≡ cond stays b (spelled b) → a ≡ b
apart_by a b true true s t low under is = is
apart_by a b false false s t low under is =
    bytes_same a b low under (tail_same 45 45 (flat_map spelled_byte a) (flat_map spelled_byte b)
    (tail_same 95 95 (45 ∷ flat_map spelled_byte a) (45 ∷ flat_map spelled_byte b) is))
apart_by a b true false s t low under is =
    let wrong = not_spelled a s (ap is_spelled is) in absurd (cc)
apart_by a b false true s t low under is =
    let wrong = not_spelled b t (ap is_spelled (sym is)) in absurd (cc)

pub names_apart : NamesStayApart
names_apart a b low under is = apart_by a b (is_settled a) (is_settled b) refl refl low under is

-- ---- what `$anchor` may be

glyph_part_by : (d : ℕ) (small : Bool) → nat_lt d 10 ≡ small → d < 16
    → is_name_part (cond small (48 + d) (55 + d)) ≡ true
glyph_part_by d true is low = grind (arith, nat_tests)
glyph_part_by d false is low = grind (arith, nat_tests)

glyph_part : (d : ℕ) → d < 16 → is_name_part (digit_glyph true d) ≡ true
glyph_part d low = glyph_part_by d (nat_lt d 10) refl low

kept_part : (b : ℕ) → is_kept_byte b ≡ true → is_name_part b ≡ true
kept_part b is = grind (arith, nat_tests)

parts_by : (b : ℕ) (y : Text) (kept : Bool) → is_kept_byte b ≡ kept → list_all is_name_part y ≡ true
    → list_all is_name_part (by_kept kept b ++ y) ≡ true
parts_by b y true is more = ap (λ x. x && list_all is_name_part y) (kept_part b is) ∙ more
parts_by b y false is more =
    let hex = digit_glyph true in
    ap (λ x. x && (is_name_part (hex (b % 16)) && list_all is_name_part y))
    (glyph_part (b / 16 % 16) (mod-lt (b / 16) (omega arith)))
    ∙ ap (λ x. x && list_all is_name_part y) (glyph_part (b % 16) (mod-lt b (omega arith))) ∙ more

spelled_parts : (bs : Text) → list_all is_name_part (flat_map spelled_byte bs) ≡ true
spelled_parts [] = refl
spelled_parts (b ∷ bs) = parts_by b (flat_map spelled_byte bs) (is_kept_byte b) refl (spelled_parts bs)

plain_by : (name : Text) (settled : Bool) → is_settled name ≡ settled
    → is_plain_name (cond settled name (spelled name)) ≡ true
plain_by name true is = (and_parts (is_plain_name name) (not (is_spelled name)) is).0
plain_by name false is = spelled_parts name

pub names_plain : NamesArePlain
names_plain name = plain_by name (is_settled name) refl
