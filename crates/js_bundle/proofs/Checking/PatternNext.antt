-- One pattern more.
use Rattle.std.proofs.Common.{◌≡◌, List, [], ◌∷◌, ◌++◌, map, ap, ap₂, ◌∙◌, append_assoc}
use Rattle.js_doc.specs.Value.{Value}
use Rattle.js_bundle.specs.declared.check.assertions_and_patterns.BuiltPattern.{BuiltPattern}
use Rattle.js_bundle.specs.AssertionsAndPatterns.{pattern_at}
use Rattle.js_bundle.specs.Keyword.{Text}

pub pattern_next : (old new : List BuiltPattern) (name pattern key : Text) (value : Value) (ms : List (Text × Value))
    (all : List BuiltPattern)
    → new ≡ old ++ record { name = name; pattern = pattern } ∷ [] → name ≡ key → pattern ≡ key
    → old ++ map pattern_at ((key, value) ∷ ms) ≡ all → new ++ map pattern_at ms ≡ all
pattern_next old new name pattern key value ms all e n p recorded =
    let rest = map pattern_at ms in
    let made = λ (a : Text) (b : Text). old ++ (record { name = a; pattern = b } ∷ rest) in
    ap (λ r. r ++ rest) e ∙ append_assoc old (record { name = name; pattern = pattern } ∷ []) rest
    ∙ ap₂ made n p ∙ recorded
