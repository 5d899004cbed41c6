-- A place that is looked up by its number.
use Rattle.std.proofs.Common.{◌≡◌, ℕ, ◌+◌, ◌<◌, ◌≤◌, append_assoc, List, [], ◌∷◌, ◌++◌, length, get_or, slice_get, drop}
use Rattle.std.proofs.Common.{Bool, true, Option, Some, None, option_map, refl, sym, ap, ◌∙◌, subst, arith}
use Rattle.std.proofs.lemmas.Bool.{lt-ltb, ltb-true}
use Rattle.std.proofs.lemmas.Option.{slice_get_within, get_or_from_slice_get, slice_get-get_or, unwrap_or-slice_get}
use Rattle.std.proofs.lemmas.List.{append-nil, drop_all, drop_more}
use Rattle.std.proofs.lemmas.List.FromFn.{length-range_with_len, get_or-range_with_len}
use Rattle.js_bundle.specs.Document.{Documents}
use Rattle.js_bundle.specs.Location.{absolute_location}
use Rattle.js_bundle.specs.Resource.{Site, sites}
use Rattle.js_bundle.specs.Schemas.{is_place, place_at, place_numbers, StandsFor}
use Rattle.js_doc.specs.Value.{Value}
use Rattle.js_eval.specs.Bundle.{schemas_of}
use Rattle.js_eval.specs.Location.{at_root}
use Rattle.js_eval.specs.Result.{ResultTree, IsResult}
use Rattle.js_eval.specs.declared.evaluation.limits.Limits.{Limits}
use Rattle.js_eval.specs.Sited.{numbered_site, nowhere}
use Rattle.js_eval.specs.Walked.{OnTooLarge, IsResultThere, IsVerdict}
use Rattle.js_eval.specs.Walked.{NoneStands as NoneStandsThere}
use Rattle.js_eval.specs.declared.evaluation.fault.WalkFault.{WalkFault}
use Rattle.js_eval.specs.declared.evaluation.fault.WalkFault.TheVariants as walk_fault
use Rattle.js_output.specs.Outcome.{IsResultOf, NoResultStands, IsWalkFault, walk_fault_of}
use Rattle.js_output.specs.Suite.{HasVerdict}
use Rattle.js_output.specs.Places.{lines_of}

-- ---- the entry

pub stands_there : (docs : Documents) (n : ℕ) (found : Option Site) → StandsFor docs n found → is_place docs n ≡ true
stands_there docs n found (s, e, at) = lt-ltb n (length (sites docs)) (slice_get_within (sites docs) n s at)

pub stands_named : (docs : Documents) (n : ℕ) (found : Option Site) → StandsFor docs n found → place_at docs n ≡ found
stands_named docs n found (s, e, at) = at ∙ sym e

some_is : {A : Type 0} (a b : A) → Some a ≡ Some b → a ≡ b
some_is a b e = cc

-- the place of a number, as the walk reports it
pub site_there : (docs : Documents) (n : ℕ) → is_place docs n ≡ true → place_at docs n ≡ Some (numbered_site docs n)
site_there docs n there =
    let within : n < length (sites docs) = ltb-true n (length (sites docs)) there in
    slice_get-get_or (sites docs) n nowhere within ∙ ap Some (sym (unwrap_or-slice_get (sites docs) n nowhere))

-- ---- all places, by their numbers

number_is : (docs : Documents) (items : List ℕ) (i p : ℕ) → items ≡ place_numbers docs → i < length items
    → p ≡ get_or items i p → (i < length (sites docs)) × (p ≡ i)
number_is docs items i p is within at =
    let n = length (sites docs) in
    let fits : i < n = subst (λ m. i < m) (ap length is ∙ length-range_with_len 0 n) within in
    (fits, omega (arith, at, ap (λ l. get_or l i p) is, get_or-range_with_len 0 n i p fits))

pub place_there : (docs : Documents) (items : List ℕ) (i p : ℕ) → items ≡ place_numbers docs → i < length items
    → p ≡ get_or items i p → is_place docs p ≡ true
place_there docs items i p is within at =
    let n = number_is docs items i p is within at in
    ap (is_place docs) n.1 ∙ lt-ltb i (length (sites docs)) n.0

located : (o : Option Site) (location : List ℕ) → option_map (λ s. absolute_location s []) o ≡ Some location
    → (s : Site) × (o ≡ Some s) × (absolute_location s [] ≡ location)
located None location e = absurd (cc)
located (Some s) location e = (s, refl, some_is (absolute_location s []) location e)

one_line : (before location rest : List ℕ)
    → ((before ++ location) ++ 10 ∷ []) ++ rest ≡ before ++ ((location ++ 10 ∷ []) ++ rest)
one_line before location rest =
    append_assoc (before ++ location) (10 ∷ []) rest ∙ append_assoc before location (10 ∷ rest)
    ∙ ap (λ l. before ++ l) (sym (append_assoc location (10 ∷ []) rest))

-- one place more was reported
pub reported_more : (docs : Documents) (items : List ℕ) (i p : ℕ) (before location between after : List ℕ)
    → items ≡ place_numbers docs → i < length items → p ≡ get_or items i p
    → option_map (λ s. absolute_location s []) (place_at docs p) ≡ Some location → between ≡ before ++ location
    → after ≡ between ++ 10 ∷ []
    → before ++ lines_of (drop i (sites docs)) ≡ lines_of (sites docs)
    → after ++ lines_of (drop (i + 1) (sites docs)) ≡ lines_of (sites docs)
reported_more docs items i p before location between after is within at reported grows ends whole =
    let n = number_is docs items i p is within at in
    let l = located (place_at docs p) location reported in
    let s = l.0 in
    let here : slice_get (sites docs) i ≡ Some s = ap (slice_get (sites docs)) (sym n.1) ∙ l.1 in
    let left : drop i (sites docs) ≡ s ∷ drop (i + 1) (sites docs) =
    drop_more (sites docs) i s n.0
    ∙ ap (λ x. x ∷ drop (i + 1) (sites docs)) (get_or_from_slice_get (sites docs) i s s here) in
    let rest = lines_of (drop (i + 1) (sites docs)) in
    ap (λ t. t ++ rest) (ends ∙ ap (λ t. t ++ 10 ∷ []) grows) ∙ one_line before location rest
    ∙ ap (λ t. before ++ ((t ++ 10 ∷ []) ++ rest)) (sym l.2) ∙ ap (λ ss. before ++ lines_of ss) (sym left) ∙ whole

-- all were reported
pub reported_all : (docs : Documents) (items : List ℕ) (i : ℕ) (reported : List ℕ)
    → items ≡ place_numbers docs → length items ≤ i
    → reported ++ lines_of (drop i (sites docs)) ≡ lines_of (sites docs) → reported ≡ lines_of (sites docs)
reported_all docs items i reported is end whole =
    let n = length (sites docs) in
    let past : n ≤ i = subst (λ m. m ≤ i) (ap length is ∙ length-range_with_len 0 n) end in
    sym (append-nil reported) ∙ ap (λ ss. reported ++ lines_of ss) (sym (drop_all i (sites docs) past)) ∙ whole

pub count_is : (docs : Documents) (items : List ℕ) → items ≡ place_numbers docs → length items ≡ length (sites docs)
count_is docs items is = ap length is ∙ length-range_with_len 0 (length (sites docs))

-- ---- the walk's result, at the place of a number

module _ (docs : Documents) (n : ℕ) (v : Value) (there : is_place docs n ≡ true) where
  pub result-there : (t : ResultTree) → IsResultThere docs n v t → IsResultOf docs (place_at docs n) v t
  result-there t r = record { place = numbered_site docs n; is_entry = site_there docs n there; is_result = r }

module _ (limits : Limits) (docs : Documents) (n : ℕ) (v : Value) (there : is_place docs n ≡ true) where
  pub none-there : NoneStandsThere limits docs n v → NoResultStands limits docs (place_at docs n) v
  none-there none t r stands =
      let is : r.place ≡ numbered_site docs n =
      some_is r.place (numbered_site docs n) (sym r.is_entry ∙ site_there docs n there) in
      none t (subst (λ s. IsResult (schemas_of docs) [] s at_root v t) is r.is_result) stands

  -- its verdict alone
  pub judged-there : (valid : Bool) → IsVerdict limits docs n v valid → HasVerdict limits docs (place_at docs n) v valid
  judged-there valid h = (h.result, result-there docs n v there h.result h.within.is, h.within.stands, sym h.verdict)

  pub fault-there : (e : WalkFault) → OnTooLarge e (NoneStandsThere limits docs n v)
      → IsWalkFault limits docs (place_at docs n) v (walk_fault_of e)
  fault-there walk_fault.Memory h = tt
  fault-there walk_fault.TooLarge h = none-there h
