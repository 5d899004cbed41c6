-- Laws of the definitions.
use Rattle.std.specs.Prelude.{◌≡◌, ℕ, List, Bool, true, false, ◌||◌, None, codes}
use Rattle.std.specs.Option.{option_map_or}
use Rattle.std.specs.Str.{bytes_eq}
use Rattle.js_doc.specs.Value.{Value, Named}
use Rattle.js_assert.specs.Assertion.{asserted, says}
use Rattle.js_assert.specs.ErrorText.{error}

-- the two keywords that ask how many items match the adjacent `contains` (JSON Schema Validation, sections 6.4.4,
-- 6.4.5)
abbrev pub is_counting : List ℕ → Bool
is_counting name = bytes_eq name (codes "maxContains") || bytes_eq name (codes "minContains")

-- a keyword of another name says the same whether m or n items match, and with the same text
pub record IsAlikeWhateverMatches (name : List ℕ) (argument : Value) (siblings : Named) (v : Value)
    (m n : ℕ) : Type 0 where
  pub verdict : option_map_or (λ a. says a v m) (asserted name argument siblings) true
      ≡ option_map_or (λ a. says a v n) (asserted name argument siblings) true
  pub same_error : option_map_or (λ a. error a v m) (asserted name argument siblings) None
      ≡ option_map_or (λ a. error a v n) (asserted name argument siblings) None

abbrev pub OnlyCountingAsks : Type 0
OnlyCountingAsks =
    (name : List ℕ) (argument : Value) (siblings : Named) (v : Value) (m n : ℕ) → is_counting name ≡ false
    → IsAlikeWhateverMatches name argument siblings v m n
