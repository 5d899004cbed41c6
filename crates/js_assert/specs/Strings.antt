-- The assertions on strings (JSON Schema Validation, section 6.3). The texts of their errors are this project's own
-- choice, since the standard leaves them open.
use Rattle.std.specs.Prelude.{ℕ, pos, List, Bool, codes, chars, length, int_le}
use Rattle.js_doc.specs.Value.{Value, whole, text}
use Rattle.js_assert.specs.Argument.{number, string}
use Rattle.js_assert.specs.ArgumentShape.{is_count, is_string}
use Rattle.js_assert.specs.Pattern.{matches}
use Rattle.js_assert.specs.TextParts.{at_most, at_least}
use Rattle.js_keyword.specs.declared.assertion_keyword.StringKeyword.{StringKeyword}
use Rattle.js_keyword.specs.declared.assertion_keyword.StringKeyword.TheVariants.{MaxLength, MinLength, Pattern}
use Rattle.js_assert.specs.declared.strings.StringTest.{StringTest}
use Rattle.js_assert.specs.declared.strings.StringTest.TheVariants as test

-- how many code points the string has
abbrev pub characters : List ℕ → ℕ
characters s = length (chars s)

-- ---- the table

abbrev pub string_takes : Value → StringKeyword → Bool
string_takes argument MaxLength = is_count argument  -- 6.3.1
string_takes argument MinLength = is_count argument  -- 6.3.2
string_takes argument Pattern = is_string argument  -- 6.3.3

-- whether the string meets it
abbrev pub string_says : Value → StringKeyword → List ℕ → Bool
string_says argument MaxLength s = int_le (pos (characters s)) (number argument)  -- 6.3.1
string_says argument MinLength s = int_le (number argument) (pos (characters s))  -- 6.3.2
string_says argument Pattern s = matches (string argument) s  -- 6.3.3

-- the text of the error that v makes
abbrev pub string_text : Value → Value → StringKeyword → List ℕ
string_text argument v MaxLength = at_most (characters (string v)) (codes " characters") (number argument)
string_text argument v MinLength = at_least (characters (string v)) (codes " characters") (number argument)
string_text argument v Pattern = codes "no match"

-- ---- what a test of the code stands for

abbrev pub string_keyword : StringTest → StringKeyword
string_keyword (test.MaxLength limit) = MaxLength
string_keyword (test.MinLength limit) = MinLength
string_keyword (test.Pattern pattern) = Pattern

abbrev pub string_argument : StringTest → Value
string_argument (test.MaxLength limit) = whole (pos limit)
string_argument (test.MinLength limit) = whole (pos limit)
string_argument (test.Pattern pattern) = text pattern
