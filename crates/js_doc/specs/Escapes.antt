-- Which bytes don't stand in a string as they are (RFC 8259, section 7).
use Rattle.std.specs.Prelude.{ℕ, Bool, not, ◌||◌, ◌==◌, nat_lt}

-- the quotation mark, the backslash and the control characters
abbrev pub needs_escape : ℕ → Bool
needs_escape b = b == 34 || b == 92 || nat_lt b 32

-- every other byte stands as it is
abbrev pub stands : ℕ → Bool
stands b = not (needs_escape b)
