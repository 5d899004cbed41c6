-- What a text says as a pattern (JSON Schema Validation, section 6.3.3), in the dialect of `regex`.
use Rattle.std.specs.Prelude.{◌≡◌, ℕ, Bool, true, false, List, Option, Some, None, is_some, chars, nat_lt, not, ◌&&◌}
use Rattle.regex.specs.Patterns.{find_str, default_config, Re}
use Rattle.regex.specs.Strings.{regex_config, regex_pattern, matcher_pattern, IsReadFromSource}
use Rattle.regex.specs.declared.string.regex.Regex.{Regex}
use Rattle.regex.specs.declared.string.matcher.Matcher.{Matcher}
use Rattle.regex_syntax.specs.Brackets.{Nested}
use Rattle.regex_syntax.specs.Grammar.{read, Names}
use Rattle.js_assert.specs.declared.pattern.PatternFault.{PatternFault}
use Rattle.js_assert.specs.declared.pattern.PatternFault.TheVariants.{Memory, NotAPattern, PatternTooLarge}

-- what the grammar of `regex` reads in the text
unfoldable pub grammar_reading : List ℕ → Option (Nested Re × Names)
grammar_reading pattern = read default_config (chars pattern)

abbrev pub is_in_grammar : List ℕ → Bool
is_in_grammar pattern = is_some (grammar_reading pattern)

-- its groups and classes nest deeper than `regex` takes them: above 250
abbrev pub is_deep : Option (Nested Re × Names) → Bool
is_deep None = false
is_deep (Some r) = nat_lt 250 (r.0).depth

abbrev pub nests_too_deep : List ℕ → Bool
nests_too_deep pattern = is_deep (grammar_reading pattern)

abbrev pub is_pattern : List ℕ → Bool
is_pattern pattern = is_in_grammar pattern && not (nests_too_deep pattern)

abbrev pub is_found : Option (Nested Re × Names) → List ℕ → Bool
is_found None string = false
is_found (Some r) string = is_some (find_str (r.0).value string 0)

-- the pattern matches somewhere in the string
abbrev pub matches : List ℕ → List ℕ → Bool
matches pattern string = is_found (grammar_reading pattern) string

-- when each fault comes; want of memory may come at any time, and nothing is said of when a pattern is too large
abbrev pub IsPatternFault : List ℕ → PatternFault → Type 0
IsPatternFault pattern Memory = Unit {0}
IsPatternFault pattern NotAPattern = is_pattern pattern ≡ false
IsPatternFault pattern PatternTooLarge = is_pattern pattern ≡ true

-- a compiled expression was read from its text
pub record IsCompiled (r : Regex) : Type 0 where
  pub config : regex_config r ≡ default_config
  pub read : IsReadFromSource r

-- a matcher searches for what was compiled
pub record IsSearchedBy (r : Regex) (m : Matcher) : Type 0 where
  pub compiled : IsCompiled r
  pub same : matcher_pattern m ≡ regex_pattern r
