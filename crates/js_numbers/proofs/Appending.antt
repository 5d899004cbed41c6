-- Tokens written one after another.
use Rattle.std.proofs.Common.{◌≡◌, List, [], ◌∷◌, ◌++◌, Result, Ok, Err, OnOk, refl, sym, ap, ◌∙◌, append_assoc}
use Rattle.json.specs.Json.{Json, Members}
use Rattle.json.specs.Token.{Token, key}
use Rattle.json.specs.Tree.{json_tokens, members_tokens}
use Rattle.json.specs.Written.{Written}
use Rattle.js_doc.specs.Value.{Text}
use Rattle.js_numbers.specs.Schema.{with_members}
use Rattle.js_numbers.specs.code.Appended.{Appends, named_tokens}

-- first some tokens, then others
pub then_more : (old mid new : List Token) (first second : List Token) → mid ≡ old ++ first → new ≡ mid ++ second
    → new ≡ old ++ (first ++ second)
then_more old mid new first second e f = f ∙ ap (λ l. l ++ second) e ∙ append_assoc old first second

-- what is written and what the rest writes make the whole
pub walk_more : (now next rest mine later integer_value : List Token) → next ≡ now ++ mine → rest ≡ mine ++ later
    → now ++ rest ≡ integer_value → next ++ later ≡ integer_value
walk_more now next rest mine later integer_value e f h =
    ap (λ l. l ++ later) e ∙ append_assoc now mine later ∙ ap (λ l. now ++ l) (sym f) ∙ h

pub members_then : (front : List (Text × Json)) (ms : Members)
    → members_tokens (with_members front ms) ≡ named_tokens front ++ members_tokens ms
members_then [] ms = refl
members_then (m ∷ front) ms =
    ap (λ l. key m.0 ∷ (json_tokens m.1 ++ l)) (members_then front ms)
    ∙ ap (λ l. key m.0 ∷ l) (sym (append_assoc (json_tokens m.1) (named_tokens front) (members_tokens ms)))

ok_more : {E : Type 0} (r : Result (Unit {0}) E) (old mid new : List Token) (first second : List Token)
    → mid ≡ old ++ first → OnOk r (new ≡ mid ++ second) → OnOk r (new ≡ old ++ (first ++ second))
ok_more (Ok x) old mid new first second e h = then_more old mid new first second e h
ok_more (Err x) old mid new first second e h = tt

pub appends_more : {E : Type 0} (r : Result (Unit {0}) E) (old mid new : Written) (first second : List Token)
    → mid.tokens ≡ old.tokens ++ first → mid.before ≡ old.before → Appends r mid new second
    → Appends r old new (first ++ second)
appends_more r old mid new first second e b h = record {
  ok = ok_more r old.tokens mid.tokens new.tokens first second e h.ok;
  before = h.before ∙ b;
}
