-- The keywords whose numbers say something of a value, in each dialect.
use Rattle.std.specs.Prelude.{Bool, true, false, List, [], ◌∷◌, Option, Some, None, codes, if◌then◌else◌}
use Rattle.js_doc.specs.Value.{Text}
use Rattle.js_upgrade.specs.Dialect.{found, first_of, is_before}
use Rattle.js_upgrade.specs.Keyword.{change_in}
use Rattle.js_upgrade.specs.declared.dialect.Dialect.{Dialect}
use Rattle.js_upgrade.specs.declared.dialect.Dialect.TheVariants.{Draft06}
use Rattle.js_upgrade.specs.declared.keyword.Change.{Change}
use Rattle.js_upgrade.specs.declared.keyword.Change.TheVariants.{Asserts, Divisor as DivisorChange}
use Rattle.js_numbers.specs.declared.number_keyword.NumberKeyword.{NumberKeyword}
use Rattle.js_numbers.specs.declared.number_keyword.NumberKeyword.TheVariants.{Minimum, Maximum}
use Rattle.js_numbers.specs.declared.number_keyword.NumberKeyword.TheVariants.{ExclusiveMinimum, ExclusiveMaximum}
use Rattle.js_numbers.specs.declared.number_keyword.NumberKeyword.TheVariants.{OldMinimum, OldMaximum}
use Rattle.js_numbers.specs.declared.number_keyword.NumberKeyword.TheVariants.{OldExclusiveMinimum, OldExclusiveMaximum}
use Rattle.js_numbers.specs.declared.number_keyword.NumberKeyword.TheVariants.{Count, Divisor, Enumeration}
use Rattle.js_numbers.specs.declared.number_keyword.NumberKeyword.TheVariants.{Constant, Other}

-- from draft-06 on the four bounds are numbers
abbrev pub bound_rows : List (Text × NumberKeyword)
bound_rows =
    (codes "minimum", Minimum) ∷ (codes "maximum", Maximum)
    ∷ (codes "exclusiveMinimum", ExclusiveMinimum) ∷ (codes "exclusiveMaximum", ExclusiveMaximum) ∷ []

-- before, two say whether the bound beside them is exclusive
abbrev pub old_bound_rows : List (Text × NumberKeyword)
old_bound_rows =
    (codes "minimum", OldMinimum) ∷ (codes "maximum", OldMaximum)
    ∷ (codes "exclusiveMinimum", OldExclusiveMinimum) ∷ (codes "exclusiveMaximum", OldExclusiveMaximum) ∷ []

-- the others, where they are keywords
abbrev pub other_rows : List (Text × NumberKeyword)
other_rows =
    (codes "multipleOf", Divisor) ∷ (codes "divisibleBy", Divisor) ∷ (codes "enum", Enumeration)
    ∷ (codes "const", Constant) ∷ (codes "maxLength", Count) ∷ (codes "minLength", Count)
    ∷ (codes "maxItems", Count) ∷ (codes "minItems", Count) ∷ (codes "maxProperties", Count)
    ∷ (codes "minProperties", Count) ∷ (codes "maxContains", Count) ∷ (codes "minContains", Count) ∷ []

unfoldable pub bound_named : Dialect → Text → Option NumberKeyword
bound_named d name = if is_before d Draft06 then found old_bound_rows name else found bound_rows name

unfoldable pub other_named : Text → Option NumberKeyword
other_named name = found other_rows name

abbrev pub acts : Change → Bool
acts Asserts = true
acts DivisorChange = true
acts _ = false

abbrev pub or_other : Option NumberKeyword → NumberKeyword
or_other None = Other
or_other (Some keyword) = keyword

abbrev pub acting_named : Dialect → Text → Option NumberKeyword
acting_named d name = if acts (change_in d name) then other_named name else None

abbrev pub number_keyword : Dialect → Text → NumberKeyword
number_keyword d name = or_other (first_of (bound_named d name) (acting_named d name))
