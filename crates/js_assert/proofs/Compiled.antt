-- From what `regex` promises to what a pattern says.
use Rattle.std.specs.Prelude.{◌≡◌, ◌≢◌, ℕ, ◌<◌, ◌≤◌, Bool, true, false, not, ◌&&◌, List, Option, Some, None}
use Rattle.std.specs.Prelude.{is_some, chars, All, IfSome, IsSomeAnd, refl, length}
use Rattle.std.proofs.Common.{sym, ◌∙◌, ap, subst, arith, inl, inr}
use Rattle.std.proofs.lemmas.Bool.Decides.{nat_tests}
use Rattle.regex.specs.Patterns.{find_str, default_config, SameCaptures, Re}
use Rattle.regex.specs.Strings.{regex_source, regex_pattern}
use Rattle.regex.specs.Failures.{IsPattern}
use Rattle.regex.specs.declared.string.regex.Regex.{Regex}
use Rattle.regex_syntax.specs.Verdict.{Reads, Refuses}
use Rattle.regex_syntax.specs.Grammar.{read, Names, group_count}
use Rattle.regex_syntax.specs.Brackets.{Nested}
use Rattle.regex_syntax.specs.declared.error.ErrorKind.{ErrorKind}
use Rattle.regex_syntax.specs.declared.error.ErrorKind.TheVariants.{OutOfMemory}
use Rattle.regex_syntax.proofs.CapturesLemmas.{find_str_alike, spans}
use Rattle.regex_syntax.proofs.Written.{is_some-option_map}
use Rattle.js_assert.specs.Pattern.{grammar_reading, is_deep, is_found, is_in_grammar}
use Rattle.js_assert.specs.Pattern.{nests_too_deep, is_pattern, matches, IsCompiled}

abbrev Read : Type 0
Read = Option (Nested Re × Names)

abbrev is_shallow : Read → Bool
is_shallow o = is_some o && not (is_deep o)

deep : (o : Read) → IfSome o (λ r. 250 < (r.0).depth) → is_shallow o ≡ false
deep None h = refl
deep (Some r) h = grind (arith, nat_tests)

pub refused_is : (pattern : List ℕ) (kind : ErrorKind) → Refuses default_config pattern kind → kind ≢ OutOfMemory
    → is_pattern pattern ≡ false
unfolding Refuses grammar_reading
refused_is pattern kind h ne = elim h [
  | inl e ↦ absurd (ne e)
  | inr r ↦
      elim r [ inl n ↦ ap is_shallow n | inr d ↦ deep (read default_config (chars pattern)) d.1 ]
]

shallow : (o : Read) (a : Re) (names : Names) → IsSomeAnd o (λ (re, found). (re.depth ≤ 250) × SameCaptures a re.value
    × (names ≡ found) × (group_count a ≤ length names)) → is_shallow o ≡ true
shallow None a names h = absurd h
shallow (Some r) a names h = let low = h.0 in grind (arith, nat_tests)

pub pattern_is : (pattern : List ℕ) → IsPattern default_config pattern → is_pattern pattern ≡ true
unfolding Reads grammar_reading
pattern_is pattern h = shallow (read default_config (chars pattern)) _ h.1 h.2

compiled_is : (r : Regex) → IsCompiled r → is_pattern (regex_source r) ≡ true
unfolding Reads grammar_reading
compiled_is r h = shallow (read default_config (chars (regex_source r))) (regex_pattern r) _ (rw h.config at h.read)

pub built_is : (pattern : List ℕ) (r : Regex) → regex_source r ≡ pattern → IsCompiled r → is_pattern pattern ≡ true
built_is pattern r e h = subst (λ s. is_pattern s ≡ true) e (compiled_is r h)

and_not : (a b : Bool) → a && not b ≡ true → b ≡ false
and_not true true e = absurd (cc)
and_not true false e = refl
and_not false b e = absurd (cc)

-- a pattern that nests too deep is none
pub shallow_is : (pattern : List ℕ) → is_pattern pattern ≡ true → nests_too_deep pattern ≡ false
shallow_is pattern e = and_not (is_in_grammar pattern) (nests_too_deep pattern) e

found_alike : (o : Read) (a : Re) (names : Names) (hay : List ℕ) → All (λ x. x < 256) hay
    → IsSomeAnd o (λ (re, found). (re.depth ≤ 250) × SameCaptures a re.value × (names ≡ found)
    × (group_count a ≤ length names)) → is_some (find_str a hay 0) ≡ is_found o hay
found_alike None a names hay small h = absurd h
found_alike (Some r) a names hay small h =
    sym (is_some-option_map spans (find_str a hay 0)) ∙ (ap is_some (find_str_alike a (r.0).value h.1 hay small 0)
    ∙ is_some-option_map spans (find_str (r.0).value hay 0))

pub found_is : (r : Regex) (hay : List ℕ) → IsCompiled r → All (λ x. x < 256) hay
    → is_some (find_str (regex_pattern r) hay 0) ≡ matches (regex_source r) hay
unfolding Reads grammar_reading
found_is r hay h small =
    found_alike (read default_config (chars (regex_source r))) (regex_pattern r) _ hay small (rw h.config at h.read)
