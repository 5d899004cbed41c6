-- Names that `$anchor` can have are ASCII.
use Rattle.std.proofs.Common.{◌≡◌, ℕ, ◌+◌, ◌<◌, ◌/◌, ◌%◌, [], ◌∷◌, Bool, true, false, not, zero, suc, cond}
use Rattle.std.proofs.Common.{flat_map, nat_lt, refl, arith}
use Rattle.std.specs.Fmt.{digit_glyph}
use Rattle.std.specs.List.{list_all}
use Rattle.std.specs.Str.{IsAscii}
use Rattle.std.proofs.Math.Nat.{mod-lt}
use Rattle.std.proofs.lemmas.Bool.{and_parts}
use Rattle.std.proofs.lemmas.Bool.Decides.{nat_tests}
use Rattle.std.proofs.lemmas.Str.{IsAscii-append}
use Rattle.js_doc.specs.Value.{Text}
use Rattle.js_upgrade.specs.AnchorName.{is_kept_byte, is_name_part, is_name_start, is_plain_name, is_settled}
use Rattle.js_upgrade.specs.AnchorName.{is_spelled, spelled, spelled_byte}

none_ascii : IsAscii []
none_ascii i = omega arith

more_ascii : (b : ℕ) (bs : Text) → b < 128 → IsAscii bs → IsAscii (b ∷ bs)
more_ascii b bs low all zero = low
more_ascii b bs low all (suc i) = all i

-- ---- a name that stays as it is

part_low : (b : ℕ) → is_name_part b ≡ true → b < 128
part_low b is = grind (arith, nat_tests)

start_low : (b : ℕ) → is_name_start b ≡ true → b < 128
start_low b is = grind (arith, nat_tests)

parts_ascii : (bs : Text) → list_all is_name_part bs ≡ true → IsAscii bs
parts_ascii [] is = none_ascii
parts_ascii (b ∷ bs) is =
    let both = and_parts (is_name_part b) (list_all is_name_part bs) is in
    more_ascii b bs (part_low b both.0) (parts_ascii bs both.1)

plain_ascii : (name : Text) → is_plain_name name ≡ true → IsAscii name
plain_ascii [] is = absurd (cc)
plain_ascii (b ∷ bs) is =
    let both = and_parts (is_name_start b) (list_all is_name_part bs) is in
    more_ascii b bs (start_low b both.0) (parts_ascii bs both.1)

pub settled_ascii : (name : Text) → is_settled name ≡ true → IsAscii name
settled_ascii name is = plain_ascii name (and_parts (is_plain_name name) (not (is_spelled name)) is).0

-- ---- a name that is spelled

glyph_by : (d : ℕ) (small : Bool) → d < 16 → cond small (48 + d) (55 + d) < 128
glyph_by d true is = omega (arith, is)
glyph_by d false is = omega (arith, is)

glyph_low : (d : ℕ) → d < 16 → digit_glyph true d < 128
glyph_low d is = glyph_by d (nat_lt d 10) is

byte_by : (b : ℕ) (kept : Bool) → is_kept_byte b ≡ kept
    → IsAscii (cond kept (b ∷ []) (45 ∷ digit_glyph true (b / 16 % 16) ∷ digit_glyph true (b % 16) ∷ []))
byte_by b true is = more_ascii b [] (kept_low b is) none_ascii
  where
    kept_low : (b : ℕ) → is_kept_byte b ≡ true → b < 128
    kept_low b is = grind (arith, nat_tests)
byte_by b false is =
    more_ascii 45 (digit_glyph true (b / 16 % 16) ∷ digit_glyph true (b % 16) ∷ []) (omega arith)
    (more_ascii (digit_glyph true (b / 16 % 16)) (digit_glyph true (b % 16) ∷ [])
    (glyph_low (b / 16 % 16) (mod-lt (b / 16) (omega arith)))
    (more_ascii (digit_glyph true (b % 16)) [] (glyph_low (b % 16) (mod-lt b (omega arith))) none_ascii))

bytes_ascii : (bs : Text) → IsAscii (flat_map spelled_byte bs)
bytes_ascii [] = none_ascii
bytes_ascii (b ∷ bs) =
    IsAscii-append (spelled_byte b) (flat_map spelled_byte bs) (byte_by b (is_kept_byte b) refl) (bytes_ascii bs)

pub spelled_ascii : (name : Text) → IsAscii (spelled name)
spelled_ascii name =
    more_ascii 95 (45 ∷ flat_map spelled_byte name) (omega arith)
    (more_ascii 45 (flat_map spelled_byte name) (omega arith) (bytes_ascii name))
