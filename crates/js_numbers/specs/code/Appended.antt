-- Tokens that a function of the code writes.
use Rattle.std.specs.Prelude.{◌≡◌, List, [], ◌∷◌, ◌++◌, OnOk, Result}
use Rattle.json.specs.Json.{Json}
use Rattle.json.specs.Token.{Token, key}
use Rattle.json.specs.Tree.{json_tokens}
use Rattle.json.specs.Written.{Written}
use Rattle.js_doc.specs.Value.{Text}

-- the tokens of members
abbrev pub named_tokens : List (Text × Json) → List Token
named_tokens [] = []
named_tokens (m ∷ ms) = key m.0 ∷ (json_tokens m.1 ++ named_tokens ms)

-- all tokens are appended, or the call fails
pub record Appends {E : Type 0} (r : Result (Unit {0}) E) (old new : Written) (ts : List Token) : Type 0 where
  pub ok : OnOk r (new.tokens ≡ old.tokens ++ ts)
  pub before : new.before ≡ old.before
