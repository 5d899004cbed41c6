-- The table of keywords, by the first bytes of their names.
use Rattle.std.specs.Prelude.{ℕ, List, [], ◌∷◌, ◌++◌, Bool, ◌&&◌, ◌||◌, ◌==◌, Option, filter, nat_lt, not}
use Rattle.js_doc.specs.Value.{Text}
use Rattle.js_upgrade.specs.Dialect.{found}
use Rattle.js_upgrade.specs.Keyword.{applicator_rows, assertion_rows, core_rows}
use Rattle.js_upgrade.specs.declared.dialect.Dialect.{Dialect}
use Rattle.js_upgrade.specs.declared.keyword.Change.{Change}

abbrev pub initial : Text → ℕ
initial [] = 0
initial (b ∷ bs) = b

-- ---- groups of names

abbrev pub is_dollar : Text → Bool
is_dollar name = initial name == 36

abbrev pub is_d : Text → Bool
is_d name = initial name == 100

abbrev pub is_m : Text → Bool
is_m name = initial name == 109

abbrev pub is_p : Text → Bool
is_p name = initial name == 112

-- others before `i`
abbrev pub is_early : Text → Bool
is_early name = nat_lt (initial name) 105 && not (is_dollar name || is_d name)

-- others from `i` on
abbrev pub is_late : Text → Bool
is_late name = not (nat_lt (initial name) 105 || (is_m name || is_p name))

abbrev pub table : Dialect → List (Text × Change)
table d = assertion_rows d ++ (applicator_rows d ++ core_rows d)

abbrev pub is_row_named : (Text → Bool) → Text × Change → Bool
is_row_named p row = p row.0

-- what the table has under the name, among the names of a group
unfoldable pub change_among : (Text → Bool) → Dialect → Text → Option Change
change_among p d name = found (filter (is_row_named p) (table d)) name
