-- What the reading of an assertion says of the rules for it.
use Rattle.std.proofs.Common.{◌≡◌, List, [], ◌∷◌, Bool, true, false, not, ◌&&◌, codes}
use Rattle.std.proofs.Common.{bytes_eq, inl, refl, sym, ap, ◌∙◌, subst}
use Rattle.std.specs.Option.{option_map_or}
use Rattle.js_doc.specs.Value.{Value, null, truth, whole, text, list, object}
use Rattle.js_doc.proofs.TokenLookup.{is_text-sound}
use Rattle.js_assert.specs.declared.fault.KeywordFault.TheVariants.{BadKeyword, NotAPattern, PatternTooLarge}
use Rattle.js_assert.specs.Argument.{string}
use Rattle.js_assert.specs.Shape as assertion
use Rattle.js_assert.specs.Shape.{takes, is_string, IsKeywordFault}
use Rattle.js_assert.specs.Pattern.{is_in_grammar, nests_too_deep, is_pattern}
use Rattle.js_keyword.proofs.KeywordNames.{named_by_name}
use Rattle.js_keyword.specs.declared.assertion_keyword.AssertionKeyword.TheVariants.{String}
use Rattle.js_keyword.specs.declared.assertion_keyword.StringKeyword.TheVariants.{Pattern}
use Rattle.js_bundle.specs.declared.refusal.RefusalKind.{RefusalKind}
use Rattle.js_bundle.specs.declared.refusal.RefusalKind.TheVariants as kind
use Rattle.js_bundle.specs.declared.check.fault.CheckFault.{CheckFault}
use Rattle.js_bundle.specs.declared.check.fault.CheckFault.TheVariants.{Memory, Refused}
use Rattle.js_bundle.specs.Candidate.{Candidate, IsClear, IsStopped}
use Rattle.js_bundle.specs.Finding.{IsRefusalOrMemory}
use Rattle.js_bundle.specs.Keyword.{Text}
use Rattle.js_bundle.specs.Refusals.{refusal_at, decided, given, when, on_text, at_pattern, assertion_rules}
use Rattle.js_bundle.specs.Resource.{Site}
use Rattle.js_doc.specs.Pointer.{Tokens}
use Rattle.js_bundle.proofs.Checking.CheckStops.{stopped_here}
use Rattle.js_bundle.proofs.Checking.PassNext.{refused_one}

abbrev pub at_bools : Bool → Bool → Site → Tokens → List Candidate
at_bools true true place further = given false place further kind.BadPattern
at_bools true false place further = given true place further kind.PatternTooLarge
at_bools false d place further = decided place further kind.BadPattern

pub at_pattern-is : (g d : Bool) (place : Site) (further : Tokens) (t : Text) → is_in_grammar t ≡ g
    → nests_too_deep t ≡ d → at_pattern place further t ≡ at_bools g d place further
at_pattern-is true true place further t e f = rw (e, f)
at_pattern-is true false place further t e f = rw (e, f)
at_pattern-is false d place further t e f = rw e

-- ---- a pattern that is one

clear_bools : (g d : Bool) (place : Site) (further : Tokens) → g && not d ≡ true → IsClear (at_bools g d place further)
clear_bools true true place further e = absurd (cc)
clear_bools true false place further e = ((refl, refl), tt)
clear_bools false d place further e = absurd (cc)

pub clear_pattern : (place : Site) (further : Tokens) (t : Text) → is_pattern t ≡ true
    → IsClear (at_pattern place further t)
clear_pattern place further t e =
    subst (λ cs. IsClear cs) (sym (at_pattern-is (is_in_grammar t) (nests_too_deep t) place further t refl refl))
    (clear_bools (is_in_grammar t) (nests_too_deep t) place further e)

clear_on_text : (place : Site) (further : Tokens) (argument : Value) → is_pattern (string argument) ≡ true
    → IsClear (on_text (at_pattern place further) argument)
clear_on_text place further null e = tt
clear_on_text place further (truth b) e = tt
clear_on_text place further (whole z) e = tt
clear_on_text place further (text t) e = clear_pattern place further t e
clear_on_text place further (list vs) e = tt
clear_on_text place further (object ms) e = tt

clear_by_name : (b : Bool) (place : Site) (k : Text) (argument : Value) → bytes_eq k (codes "pattern") ≡ b
    → (k ≡ codes "pattern" → is_pattern (string argument) ≡ true)
    → IsClear (when b (on_text (at_pattern place (k ∷ [])) argument))
clear_by_name false place k argument e f = tt
clear_by_name true place k argument e f =
    clear_on_text place (k ∷ []) argument (f (is_text-sound k (codes "pattern") e))

pub clear_assertion : (place : Site) (k : Text) (argument : Value) → assertion.has_shape k argument ≡ true
    → (k ≡ codes "pattern" → is_pattern (string argument) ≡ true)
    → IsClear (assertion_rules place k argument)
clear_assertion place k argument e f = rw e (clear_by_name (bytes_eq k (codes "pattern")) place k argument refl f)

-- ---- an argument that isn't taken

pub stopped_shape : (place : Site) (k : Text) (argument : Value) (e : CheckFault) → IsKeywordFault k argument BadKeyword
    → IsRefusalOrMemory (refusal_at place (k ∷ []) kind.BadKeyword) e → IsStopped (assertion_rules place k argument) e
stopped_shape place k argument e h r =
    let rest = when (bytes_eq k (codes "pattern")) (on_text (at_pattern place (k ∷ [])) argument) in
    rw h (stopped_here (decided place (k ∷ []) kind.BadKeyword) rest e
    (refused_one (refusal_at place (k ∷ []) kind.BadKeyword) e r))

-- ---- a pattern that isn't taken

-- the shape of a pattern's argument is a text
string_shaped : (k : Text) (v : Value) → k ≡ codes "pattern" → assertion.has_shape k v ≡ is_string v
string_shaped k v e = ap (λ x. assertion.has_shape x v) e
    ∙ ap (λ o. option_map_or (takes v) o true) (named_by_name (String Pattern))

given_one : (b : Bool) (place : Site) (further : Tokens) (what : RefusalKind) (e : CheckFault)
    → IsRefusalOrMemory (refusal_at place further what) e → IsStopped (given b place further what) e
given_one b place further what Memory h = tt
given_one b place further what (Refused s) h = inl h

bad_bools : (g d : Bool) (place : Site) (further : Tokens) (e : CheckFault) → g && not d ≡ false
    → IsRefusalOrMemory (refusal_at place further kind.BadPattern) e → IsStopped (at_bools g d place further) e
bad_bools true true place further e h r = given_one false place further kind.BadPattern e r
bad_bools true false place further e h r = absurd (cc)
bad_bools false d place further e h r = refused_one (refusal_at place further kind.BadPattern) e r

large_bools : (g d : Bool) (place : Site) (further : Tokens) (e : CheckFault) → g && not d ≡ true
    → IsRefusalOrMemory (refusal_at place further kind.PatternTooLarge) e → IsStopped (at_bools g d place further) e
large_bools true true place further e h r = absurd (cc)
large_bools true false place further e h r = given_one true place further kind.PatternTooLarge e r
large_bools false d place further e h r = absurd (cc)

pub bad_pattern : (place : Site) (further : Tokens) (t : Text) (e : CheckFault) → is_pattern t ≡ false
    → IsRefusalOrMemory (refusal_at place further kind.BadPattern) e → IsStopped (at_pattern place further t) e
bad_pattern place further t e h r =
    subst (λ cs. IsStopped cs e) (sym (at_pattern-is (is_in_grammar t) (nests_too_deep t) place further t refl refl))
    (bad_bools (is_in_grammar t) (nests_too_deep t) place further e h r)

pub large_pattern : (place : Site) (further : Tokens) (t : Text) (e : CheckFault) → is_pattern t ≡ true
    → IsRefusalOrMemory (refusal_at place further kind.PatternTooLarge) e → IsStopped (at_pattern place further t) e
large_pattern place further t e h r =
    subst (λ cs. IsStopped cs e) (sym (at_pattern-is (is_in_grammar t) (nests_too_deep t) place further t refl refl))
    (large_bools (is_in_grammar t) (nests_too_deep t) place further e h r)

-- the rules of a `pattern` whose argument is a text are those of its pattern
rules_of_pattern : (place : Site) (k t : Text) → k ≡ codes "pattern"
    → at_pattern place (k ∷ []) t ≡ assertion_rules place k (text t)
rules_of_pattern place k t e =
    let shaped : assertion.has_shape k (text t) ≡ true = string_shaped k (text t) e in
    let name : bytes_eq k (codes "pattern") ≡ true = ap (λ x. bytes_eq x (codes "pattern")) e in
    rw (shaped, name)

-- so are all where it is shaped
on_pattern : (place : Site) (k : Text) (e : CheckFault) (argument : Value) → k ≡ codes "pattern"
    → assertion.has_shape k argument ≡ true
    → IsStopped (at_pattern place (k ∷ []) (string argument)) e → IsStopped (assertion_rules place k argument) e
on_pattern place k e (text t) n f h = subst (λ cs. IsStopped cs e) (rules_of_pattern place k t n) h
on_pattern place k e null n f h = absurd (let x : false ≡ true = sym (string_shaped k null n) ∙ f in cc)
on_pattern place k e (truth b) n f h = absurd (let x : false ≡ true = sym (string_shaped k (truth b) n) ∙ f in cc)
on_pattern place k e (whole z) n f h = absurd (let x : false ≡ true = sym (string_shaped k (whole z) n) ∙ f in cc)
on_pattern place k e (list vs) n f h = absurd (let x : false ≡ true = sym (string_shaped k (list vs) n) ∙ f in cc)
on_pattern place k e (object ms) n f h = absurd (let x : false ≡ true = sym (string_shaped k (object ms) n) ∙ f in cc)

pub stopped_pattern : (place : Site) (k : Text) (argument : Value) (e : CheckFault)
    → IsKeywordFault k argument NotAPattern → IsRefusalOrMemory (refusal_at place (k ∷ []) kind.BadPattern) e
    → IsStopped (assertion_rules place k argument) e
stopped_pattern place k argument e h r =
    on_pattern place k e argument h.0 h.1 (bad_pattern place (k ∷ []) (string argument) e h.2 r)

pub stopped_large : (place : Site) (k : Text) (argument : Value) (e : CheckFault)
    → IsKeywordFault k argument PatternTooLarge → IsRefusalOrMemory (refusal_at place (k ∷ []) kind.PatternTooLarge) e
    → IsStopped (assertion_rules place k argument) e
stopped_large place k argument e h r =
    on_pattern place k e argument h.0 h.1 (large_pattern place (k ∷ []) (string argument) e h.2 r)
