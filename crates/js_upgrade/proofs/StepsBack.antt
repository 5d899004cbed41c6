-- The way back, step by step.
use Rattle.std.proofs.Common.{◌≡◌, ℕ, ◌+◌, ◌<◌, List, [], ◌∷◌, ◌++◌, Option, Some, None, option_map, option_and_then}
use Rattle.std.proofs.Common.{get_or, length, drop, refl, sym, ap, ◌∙◌, append_assoc}
use Rattle.std.proofs.lemmas.List.{append-nil, drop_more}
use Rattle.js_doc.specs.Pointer.{Tokens}
use Rattle.js_doc.specs.Seen.{value_of}
use Rattle.js_doc.specs.Value.{Value, Text}
use Rattle.js_upgrade.specs.Originals.{Back, at_end, joined_tokens, original, step_back}
use Rattle.js_upgrade.specs.code.Back.{IsStepBack, Reached, reached_at, reached_by}
use Rattle.js_upgrade.specs.declared.dialect.Dialect.{Dialect}
use Rattle.js_upgrade.specs.declared.originals.At.{At}
use Rattle.js_upgrade.specs.declared.originals.Way.{Way}

pub ruleset stay_rules = (append-nil)

-- ---- one token more

-- what is left of the tokens, where a step has led
abbrev onward : Tokens → Option Back → Option Tokens
onward rest found = option_and_then (λ b. joined_tokens b.into (original b.way b.dialect b.value rest)) found

joined_twice : (out into : Tokens) (found : Option Tokens) → joined_tokens out (joined_tokens into found)
    ≡ joined_tokens (out ++ into) found
joined_twice out into None = refl
joined_twice out into (Some more) = ap Some (sym (append_assoc out into more))

-- the same by what is seen of the step
abbrev onward_seen : Tokens → Reached → Option Tokens
onward_seen rest s = joined_tokens s.1.1.1 (original s.0 s.1.0 s.1.1.0 rest)

led_on : (out rest : Tokens) (found : Option Back) (s : Reached)
    → option_map (reached_by out) found ≡ Some s → joined_tokens out (onward rest found) ≡ onward_seen rest s
led_on out rest None s e = absurd (cc)
led_on out rest (Some b) s e =
    joined_twice out b.into (original b.way b.dialect b.value rest)
    ∙ ap (onward_seen rest) (some_is (reached_by out b) s e)
  where
    some_is : {A : Type 0} (a b : A) → Some a ≡ Some b → a ≡ b
    some_is a b e = cc

here : (tokens : Tokens) (i : ℕ) (token : Text) → i < length tokens → token ≡ get_or tokens i token
    → drop i tokens ≡ token ∷ drop (i + 1) tokens
here tokens i token low is = drop_more tokens i token low ∙ ap (λ t. t ∷ drop (i + 1) tokens) (sym is)

module _ (out : Tokens) (w : Way) (d : Dialect) (v : Value) (tokens : Tokens) (i : ℕ) (token : Text)
    (whole : Option Tokens) (low : i < length tokens) (is : token ≡ get_or tokens i token)
    (before : joined_tokens out (original w d v (drop i tokens)) ≡ whole) where
  at_token : joined_tokens out (onward (drop (i + 1) tokens) (step_back w d v token)) ≡ whole
  at_token = sym (ap (λ ts. joined_tokens out (original w d v ts)) (here tokens i token low is)) ∙ before

  pub no_step_back : (new : Tokens) → IsStepBack out new (step_back w d v token) None → None ≡ whole
  no_step_back new none = sym (ap (λ o. joined_tokens out (onward (drop (i + 1) tokens) o)) none) ∙ at_token

  pub step_made_back : (new : Tokens) (at : At) → IsStepBack out new (step_back w d v token) (Some at)
      → joined_tokens new (original at.way at.dialect (value_of at.value.now) (drop (i + 1) tokens)) ≡ whole
  step_made_back new at made =
      sym (led_on out (drop (i + 1) tokens) (step_back w d v token)
      (reached_at new at) made) ∙ at_token

pub all_back : (out : Tokens) (w : Way) (d : Dialect) (v : Value) (left : Tokens) (whole : Option Tokens)
    → left ≡ [] → joined_tokens out (original w d v left) ≡ whole → Some (out ++ at_end w) ≡ whole
all_back out w d v left whole none before = sym (ap (λ ts. joined_tokens out (original w d v ts)) none) ∙ before
