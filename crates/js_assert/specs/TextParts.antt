-- Texts with numbers. The standard leaves the texts of errors open: they are this project's own choice.
use Rattle.std.specs.Prelude.{ℕ, ℤ, List, ◌++◌, codes, decimal}
use Rattle.std.specs.Fmt.{signed_decimal}

-- words before a number
abbrev pub before_number : List ℕ → ℤ → List ℕ
before_number words z = words ++ signed_decimal z

-- words between two numbers
abbrev pub counted : ℕ → List ℕ → ℤ → List ℕ
counted n words z = decimal n ++ (words ++ signed_decimal z)

-- as `3 items, at most 2`
abbrev pub at_most : ℕ → List ℕ → ℤ → List ℕ
at_most n things z = counted n (things ++ codes ", at most ") z

-- as `1 items, at least 2`
abbrev pub at_least : ℕ → List ℕ → ℤ → List ℕ
at_least n things z = counted n (things ++ codes ", at least ") z
