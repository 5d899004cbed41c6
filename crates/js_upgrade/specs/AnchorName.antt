-- The names of schemas. Before 2019-09 a name is any fragment that is no pointer (draft-03, 5.27; draft-04 Core, 7.2;
-- draft-06 Core, 9.2; draft-07 Core, 8.2), and in 2019-09 it may have a `:` (Core, 8.2.3). A name that 2020-12 can't
-- have (Core, 8.2.2) is spelled so that it can: `_-`, and for each byte but letters, digits, `.` and `_` a `-` and its
-- two hexadecimal digits. A name that begins with `_-` is spelled too, so two names stay two.
use Rattle.std.specs.Prelude.{ℕ, ◌/◌, ◌%◌, ◌==◌, [], ◌∷◌, ◌++◌, Bool, true, false, not, ◌&&◌, ◌||◌, codes}
use Rattle.std.specs.Prelude.{flat_map, if◌then◌else◌}
use Rattle.std.specs.Char.{is_ascii_alphabetic, is_ascii_alphanumeric}
use Rattle.std.specs.Fmt.{digit_glyph}
use Rattle.std.specs.List.{list_all}
use Rattle.js_doc.specs.Value.{Value, text, Text}

-- ---- what a name may be

abbrev pub is_name_start : ℕ → Bool
is_name_start b = is_ascii_alphabetic b || b == 95

abbrev pub is_name_part : ℕ → Bool
is_name_part b = is_ascii_alphanumeric b || (b == 45 || (b == 46 || b == 95))

-- what `$anchor` may be: `[A-Za-z_][-A-Za-z0-9._]*`
abbrev pub is_plain_name : Text → Bool
is_plain_name [] = false
is_plain_name (b ∷ bs) = is_name_start b && list_all is_name_part bs

abbrev pub is_part_of_2019 : ℕ → Bool
is_part_of_2019 b = is_name_part b || b == 58

-- a name of 2019-09 may have a `:` too; one that begins with `_`, which only 2020-12 allows, is taken as well
abbrev pub is_name_of_2019 : Text → Bool
is_name_of_2019 [] = false
is_name_of_2019 (b ∷ bs) = is_name_start b && list_all is_part_of_2019 bs

-- ---- how it is spelled

-- `_-`
abbrev pub is_spelled : Text → Bool
is_spelled (b ∷ c ∷ cs) = b == 95 && c == 45
is_spelled _ = false

-- it stays as it is
abbrev pub is_settled : Text → Bool
is_settled name = is_plain_name name && not (is_spelled name)

abbrev pub is_kept_byte : ℕ → Bool
is_kept_byte b = is_ascii_alphanumeric b || (b == 46 || b == 95)

abbrev pub spelled_byte : ℕ → Text
spelled_byte b =
    if is_kept_byte b then b ∷ [] else 45 ∷ digit_glyph true (b / 16 % 16) ∷ digit_glyph true (b % 16) ∷ []

abbrev pub spelled : Text → Text
spelled name = codes "_-" ++ flat_map spelled_byte name

-- the name in 2020-12
abbrev pub anchor_name : Text → Text
anchor_name name = if is_settled name then name else spelled name

-- `$anchor` of 2019-09; what isn't a name stays, and is refused
abbrev pub anchor_upgraded : Value → Value
anchor_upgraded (text t) = text (if is_name_of_2019 t then anchor_name t else t)
anchor_upgraded v = v
