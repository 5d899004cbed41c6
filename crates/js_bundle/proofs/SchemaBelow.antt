-- What stands below a place is what its schema holds.
use Rattle.std.proofs.Common.{◌≡◌, ℕ, List, [], ◌∷◌, Bool, true, false, if◌then◌else◌, ◌++◌, find}
use Rattle.std.proofs.Common.{Option, Some, None, MatchOption, option_map, option_and_then, slice_get}
use Rattle.std.proofs.Common.{Bor, length, map, nat_lt, refl, sym, ap, ◌∙◌}
use Rattle.std.specs.Option.{IfSome}
use Rattle.std.specs.Prelude.{get_or, is_some}
use Rattle.std.proofs.lemmas.Bool.{ltb-false, ltb-true}
use Rattle.std.proofs.lemmas.Option.{slice_get-get_or, slice_get-map, slice_get_past}
use Rattle.js_doc.specs.Seen.{value_of}
use Rattle.js_doc.specs.Value.{Value, Values, items}
use Rattle.js_doc.specs.declared.doc.Doc.{Doc}
use Rattle.js_keyword.specs.declared.argument_form.Holding.{Holding}
use Rattle.js_keyword.specs.declared.argument_form.Holding.TheVariants.{One, Listed, Named, Nothing}
use Rattle.js_bundle.specs.Document.{Documents}
use Rattle.js_bundle.specs.Keyword.{Text, argument}
use Rattle.js_bundle.specs.Place.{holding, values}
use Rattle.js_bundle.specs.Names.{stands_at}
use Rattle.js_bundle.specs.Resource.{Site, sites}
use Rattle.js_bundle.specs.PlaceNumber.{place_at}
use Rattle.js_bundle.specs.Schemas.{Finds, FindsSchema, Holds, Step, Alone, Index, Name, fits, step_tokens, below}
use Rattle.js_bundle.specs.code.PlaceBelow.{held_in, value_at_step}

-- ---- the items that the code has

pub values_are : (vs : Values) → values (items vs) ≡ vs
values_are [] = refl
values_are (v ∷ vs) = λ i. v ∷ values_are vs i

-- the item at an index, as the code asks for it
pub item_at : (xs : List Doc) (vs : Values) (i : ℕ) (o : Option (Bor Doc)) → map value_of xs ≡ vs
    → is_some o ≡ nat_lt i (length xs) → IfSome o (λ x. x.now ≡ get_or xs i x.now)
    → option_map (λ d. value_of d.now) o ≡ slice_get vs i
item_at xs vs i None m e f =
    let past = slice_get_past xs i (ltb-false i (length xs) (sym e)) in
    sym (ap (λ ws. slice_get ws i) (sym m) ∙ (slice_get-map value_of xs i ∙ ap (option_map value_of) past))
item_at xs vs i (Some x) m e f =
    let there : slice_get xs i
    ≡ Some x.now = slice_get-get_or xs i x.now (ltb-true i (length xs) (sym e)) ∙ ap Some (sym f) in
    sym (ap (λ ws. slice_get ws i) (sym m) ∙ (slice_get-map value_of xs i ∙ ap (option_map value_of) there))

-- ---- what is held

pub is_one : (h : Holding) → fits h Alone ≡ true → h ≡ One
is_one One e = refl
is_one Listed e = absurd (cc)
is_one Named e = absurd (cc)
is_one Nothing e = absurd (cc)

pub is_listed : (h : Holding) (i : ℕ) → fits h (Index i) ≡ true → h ≡ Listed
is_listed One i e = absurd (cc)
is_listed Listed i e = refl
is_listed Named i e = absurd (cc)
is_listed Nothing i e = absurd (cc)

pub is_named : (h : Holding) (n : Text) → fits h (Name n) ≡ true → h ≡ Named
is_named One n e = absurd (cc)
is_named Listed n e = absurd (cc)
is_named Named n e = refl
is_named Nothing n e = absurd (cc)

-- a keyword that holds schemas so holds what stands at the step
held_so : (schema : Value) (k : Text) (step : Step) (u : Value) → fits (holding k) step ≡ true → (o : Option Value)
    → argument k schema ≡ o → option_and_then (value_at_step step) o ≡ Some u
    → Holds schema k step u
held_so schema k Alone u f None is e = absurd (cc)
held_so schema k (Index i) u f None is e = absurd (cc)
held_so schema k (Name n) u f None is e = absurd (cc)
held_so schema k Alone u f (Some l) is e = (is_one (holding k) f, is ∙ e)
held_so schema k (Index i) u f (Some l) is e = (is_listed (holding k) i f, (l, is, e))
held_so schema k (Name n) u f (Some l) is e = (is_named (holding k) n f, (l, is, e))

-- what is found by a keyword is found since it holds schemas so
found_fits : (documents : Documents) (s t : Site) (k : Text) (step : Step) → (b : Bool) → fits (holding k) step ≡ b
    → below documents s k step ≡ Some t → fits (holding k) step ≡ true
found_fits documents s t k step true is e = is
found_fits documents s t k step false is e =
    let none : below documents s k step ≡ None = ap (λ b.
    if b then find (stands_at s.document (s.pointer ++ k ∷ step_tokens step)) (sites documents) else None) is in
    let no : None ≡ Some t = sym none ∙ e in
    absurd (cc)

-- so it is the schema of the place that is found below
at_site : (documents : Documents) (place n : ℕ) (k : Text) (step : Step) (v u : Value) → (o : Option Site)
    → place_at documents place ≡ o → option_map (λ s. s.schema) o ≡ Some v → held_in k step v ≡ Some u
    → Finds documents (Some n) (option_and_then (λ s. below documents s k step) o)
    → ((s : Site) (u : Value) → place_at documents place ≡ Some s → Holds s.schema k step u
    → FindsSchema documents (Some n) u)
    → option_map (λ s. s.schema) (place_at documents n) ≡ Some u
at_site documents place n k step v u None is e h found held = absurd (cc)
at_site documents place n k step v u (Some s) is e h found held =
    let same : s.schema ≡ v = cc in
    let fit = found_fits documents s found.0 k step (fits (holding k) step) refl found.1 in
    let there = held s u is (held_so s.schema k step u fit (argument k s.schema) refl
    (ap (λ w. held_in k step w) same ∙ h)) in
    ap (option_map (λ s. s.schema)) there.1 ∙ ap Some there.2

pub stands_with : (documents : Documents) (place n : ℕ) (k : Text) (step : Step) (v u : Value)
    → option_map (λ s. s.schema) (place_at documents place) ≡ Some v → held_in k step v ≡ Some u
    → Finds documents (Some n) (option_and_then (λ s. below documents s k step) (place_at documents place))
    → ((s : Site) (u : Value) → place_at documents place ≡ Some s → Holds s.schema k step u
    → FindsSchema documents (Some n) u)
    → option_map (λ s. s.schema) (place_at documents n) ≡ Some u
stands_with documents place n k step v u e h found held =
    at_site documents place n k step v u (place_at documents place) refl e h found held

-- what is found where the schema of a place holds another one
finds_at : (documents : Documents) (place : ℕ) (k : Text) (step : Step) (v u : Value) (r : Option ℕ) → (o : Option Site)
    → place_at documents place ≡ o → option_map (λ s. s.schema) o ≡ Some v
    → fits (holding k) step ≡ true → held_in k step v ≡ Some u
    → ((s : Site) (w : Value) → place_at documents place ≡ Some s → Holds s.schema k step w
    → Finds documents r (below documents s k step))
    → Finds documents r (option_and_then (λ s. below documents s k step) o)
finds_at documents place k step v u r None is e fit h found = absurd (cc)
finds_at documents place k step v u r (Some s) is e fit h found =
    let same : s.schema ≡ v = cc in
    found s u is (held_so s.schema k step u fit (argument k s.schema) refl (ap (λ w. held_in k step w) same ∙ h))

pub finds_held_by : (documents : Documents) (place : ℕ) (k : Text) (step : Step) (v u : Value) (r : Option ℕ)
    → option_map (λ s. s.schema) (place_at documents place) ≡ Some v
    → fits (holding k) step ≡ true → held_in k step v ≡ Some u
    → ((s : Site) (w : Value) → place_at documents place ≡ Some s → Holds s.schema k step w
    → Finds documents r (below documents s k step))
    → Finds documents r (option_and_then (λ s. below documents s k step) (place_at documents place))
finds_held_by documents place k step v u r e fit h found =
    finds_at documents place k step v u r (place_at documents place) refl e fit h found

-- and the schema beside it is the one that stands there
pub schema_with : (documents : Documents) (place : ℕ) (k : Text) (step : Step) (v u : Value) (r : Option (ℕ × Bor Doc))
    → option_map (λ s. s.schema) (place_at documents place) ≡ Some v → held_in k step v ≡ Some u
    → Finds documents (option_map (λ e. e.0) r)
    (option_and_then (λ s. below documents s k step) (place_at documents place))
    → ((s : Site) (w : Value) → place_at documents place ≡ Some s → Holds s.schema k step w
    → FindsSchema documents (option_map (λ e. e.0) r) w)
    → MatchOption r (Unit {0}) (λ e. value_of e.1.now ≡ u)
    → MatchOption r (Unit {0}) (λ e. option_map (λ s. s.schema) (place_at documents e.0) ≡ Some (value_of e.1.now))
schema_with documents place k step v u None e h found held same = tt
schema_with documents place k step v u (Some r) e h found held same =
    stands_with documents place r.0 k step v u e h found held ∙ ap Some (sym same)
