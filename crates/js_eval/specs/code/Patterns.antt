-- The patterns of a place (of private functions).
use Rattle.std.specs.Borrow.{Bor}
use Rattle.std.specs.List.{list_all}
use Rattle.std.specs.Prelude.{◌≡◌, ℕ, Bool, true, [], Option, Some, None, is_some, option_and_then}
use Rattle.js_bundle.specs.Document.{Documents}
use Rattle.js_bundle.specs.Schemas.{pattern, place_at}
use Rattle.js_doc.specs.Value.{Named}
use Rattle.js_eval.specs.SchemaSet.{Text}

-- the members of an argument, where it is an object
abbrev pub named_in : Option (Bor Named) → Named
named_in None = []
named_in (Some members) = members.now

-- the `patternProperties` of the place has a pattern of this text
abbrev pub is_pattern_at : Documents → ℕ → Text → Bool
is_pattern_at documents place text = is_some (option_and_then (pattern text) (place_at documents place))

abbrev pub IsPatternAt : Documents → ℕ → Text → Type 0
IsPatternAt documents place text = is_pattern_at documents place text ≡ true

-- it has all of these
abbrev pub ArePatternsAt : Documents → ℕ → Named → Type 0
ArePatternsAt documents place patterns = list_all (λ p. is_pattern_at documents place p.0) patterns ≡ true
