-- Bytes of a token that are written as they are, in the text of a pointer and in a fragment (RFC 6901, sections 3 and
-- 6).
use Rattle.std.specs.Prelude.{ℕ, Bool, not, ◌&&◌, ◌||◌, ◌==◌}
use Rattle.std.specs.Char.{is_ascii_alphanumeric}

-- neither `~` nor `/`: it is written as it is in a pointer's text
abbrev pub is_kept : ℕ → Bool
is_kept b = not (b == 126) && not (b == 47)

-- letters, digits, `$`, `-`, `.` and `_`: they are written as they are in both. So are others, but few names have any
abbrev pub is_plain : ℕ → Bool
is_plain b = is_ascii_alphanumeric b || (b == 36 || (b == 45 || (b == 46 || b == 95)))
