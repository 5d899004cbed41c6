-- Where documents aren't refused, none of their patterns nests too deep.
use Rattle.std.proofs.Common.{◌≡◌, List, [], ◌∷◌, ◌++◌, Bool, true, false, not, if◌then◌else◌, codes}
use Rattle.std.proofs.Common.{bytes_eq, map, flat_map, option_to_list, refl, subst}
use Rattle.std.specs.List.{AllByRecursion}
use Rattle.js_doc.specs.Pointer.{Tokens}
use Rattle.js_doc.specs.Value.{Value, null, truth, whole, text, list, object}
use Rattle.js_doc.specs.Parts.{members_of}
use Rattle.js_assert.specs.Shape as assertion
use Rattle.js_assert.specs.Pattern.{is_in_grammar, nests_too_deep}
use Rattle.js_bundle.specs.declared.refusal.RefusalKind.TheVariants.{BadKeyword}
use Rattle.js_bundle.specs.Candidate.{IsClear}
use Rattle.js_bundle.specs.Depth.{patterns_held, IsShallow, AreShallow, HasShallow, NoneTooDeep}
use Rattle.js_bundle.specs.Document.{Documents}
use Rattle.js_bundle.specs.Shape.{is_shaped}
use Rattle.js_bundle.specs.Keyword.{Text, as_text}
use Rattle.js_bundle.specs.Refusals.{when, decided, on_text, at_pattern, assertion_rules, text_rules, name_rules}
use Rattle.js_bundle.specs.Refusals.{at_place, at_member, at_site, first_pass, second_pass, candidates}
use Rattle.js_bundle.specs.Resource.{Site, sites}
use Rattle.js_bundle.proofs.Checking.AssertionRules.{at_bools, at_pattern-is}
use Rattle.js_bundle.proofs.Checking.CheckStops.{clear_here, clear_there}

-- ---- one pattern

shallow_bools : (g d : Bool) (place : Site) (further : Tokens) → IsClear (at_bools g d place further) → d ≡ false
shallow_bools true true place further h = let no : false ≡ true = h.0.1 in absurd (cc)
shallow_bools true false place further h = refl
shallow_bools false d place further h = let no : true ≡ false = h.0.0 in absurd (cc)

shallow : (place : Site) (further : Tokens) (t : Text) → IsClear (at_pattern place further t) → IsShallow t
shallow place further t h =
    shallow_bools (is_in_grammar t) (nests_too_deep t) place further
    (subst (λ cs. IsClear cs) (at_pattern-is (is_in_grammar t) (nests_too_deep t) place further t refl refl) h)

-- ---- those of a keyword

both_shallow : (xs ys : List Text) → AreShallow xs → AreShallow ys → AreShallow (xs ++ ys)
both_shallow [] ys h g = g
both_shallow (x ∷ xs) ys h g = (h.0, both_shallow xs ys h.1 g)

shallow_text : (b : Bool) (place : Site) (further : Tokens) (v : Value) → IsClear
    (if b then on_text (at_pattern place further) v else []) → AreShallow (if b then option_to_list (as_text v) else [])
shallow_text false place further v h = tt
shallow_text true place further null h = tt
shallow_text true place further (truth b) h = tt
shallow_text true place further (whole z) h = tt
shallow_text true place further (text t) h = (shallow place further t h, tt)
shallow_text true place further (list vs) h = tt
shallow_text true place further (object ms) h = tt

shallow_each : (place : Site) (k : Text) (ms : List (Text × Value))
    → IsClear (flat_map (λ n. at_pattern place (k ∷ n.0 ∷ []) n.0) ms) → AreShallow (map (λ n. n.0) ms)
shallow_each place k [] h = tt
shallow_each place k (n ∷ ms) h =
    let here = at_pattern place (k ∷ n.0 ∷ []) n.0 in
    let rest = flat_map (λ n. at_pattern place (k ∷ n.0 ∷ []) n.0) ms in
    (shallow place (k ∷ n.0 ∷ []) n.0 (clear_here here rest h), shallow_each place k ms (clear_there here rest h))

shallow_names : (b : Bool) (place : Site) (k : Text) (v : Value)
    → IsClear (if b then flat_map (λ n. at_pattern place (k ∷ n.0 ∷ []) n.0) (members_of v) else [])
    → AreShallow (if b then map (λ n. n.0) (members_of v) else [])
shallow_names false place k v h = tt
shallow_names true place k v h = shallow_each place k (members_of v) h

of_keyword : (before : List Site) (place : Site) (m : Text × Value) → IsClear (at_member before place m)
    → AreShallow (patterns_held m)
of_keyword before place m h =
    let k = m.0 in
    let shape = when (not (is_shaped k m.1)) (decided place (k ∷ []) BadKeyword) in
    let texts = on_text (text_rules before place k) m.1 in
    let asserted = assertion_rules place k m.1 in
    let asserted_shape = when (not (assertion.has_shape k m.1)) (decided place (k ∷ []) BadKeyword) in
    let pattern = bytes_eq k (codes "pattern") in
    let named = bytes_eq k (codes "patternProperties") in
    let past_shape : IsClear (asserted ++ (texts ++ name_rules place k m.1)) =
    clear_there shape (asserted ++ (texts ++ name_rules place k m.1)) h in
    let one = clear_there asserted_shape (if pattern then on_text (at_pattern place (k ∷ [])) m.1 else [])
    (clear_here asserted (texts ++ name_rules place k m.1) past_shape) in
    let all = clear_there texts (name_rules place k m.1)
    (clear_there asserted (texts ++ name_rules place k m.1) past_shape) in
    both_shallow (if pattern then option_to_list (as_text m.1) else [])
    (if named then map (λ n. n.0) (members_of m.1) else [])
    (shallow_text pattern place (k ∷ []) m.1 one) (shallow_names named place k m.1 all)

-- ---- those of all places

of_keywords : (before : List Site) (place : Site) (ms : List (Text × Value))
    → IsClear (flat_map (at_member before place) ms) → AreShallow (flat_map patterns_held ms)
of_keywords before place [] h = tt
of_keywords before place (m ∷ ms) h =
    let here = at_member before place m in
    let rest = flat_map (at_member before place) ms in
    both_shallow (patterns_held m) (flat_map patterns_held ms) (of_keyword before place m (clear_here here rest h))
    (of_keywords before place ms (clear_there here rest h))

of_places : (before all : List Site) → IsClear (first_pass before all) → AllByRecursion HasShallow all
of_places before [] h = tt
of_places before (place ∷ all) h =
    let here = at_site before place in
    let rest = first_pass (before ++ place ∷ []) all in (
      of_keywords before place (members_of place.schema) (clear_there (at_place before place)
          (flat_map (at_member before place) (members_of place.schema)) (clear_here here rest h)),
      of_places (before ++ place ∷ []) all (clear_there here rest h),
    )

pub none_too_deep : (documents : Documents) → IsClear (candidates documents) → NoneTooDeep documents
none_too_deep documents h =
    of_places [] (sites documents) (clear_here (first_pass [] (sites documents)) (second_pass (sites documents)) h)
