-- Laws of the definitions: that they say what they seem to say.
use Rattle.std.specs.Prelude.{◌≡◌, ◌↔◌, ℕ, ◌≤◌, List, [], ◌∷◌, Bool, false, not, filter, Option, Some}
use Rattle.std.specs.List.{AllByRecursion, flat_map, list_all}
use Rattle.js_doc.specs.Value.{Value, Named}
use Rattle.js_assert.specs.Argument.{entries}
use Rattle.js_bundle.specs.Candidate.{IsClear}
use Rattle.js_bundle.specs.Document.{Documents}
use Rattle.js_bundle.specs.Refusals.{candidates}
use Rattle.js_bundle.specs.Resource.{Site, sites}
use Rattle.js_bundle.specs.Schemas.{place_at, below}
use Rattle.js_bundle.specs.Seen.{AreRead}
use Rattle.js_bundle.specs.Target.{ref_target, dynamic_ref_target}
use Rattle.js_tree.specs.Rows.Relative.{IsLocated}
use Rattle.js_eval.specs.Applications.{Application, asks_of, among_indexes, indexed}
use Rattle.js_eval.specs.Bundle.{schemas_of}
use Rattle.js_eval.specs.Evaluated.{indexes_applied}
use Rattle.js_eval.specs.Keywords.{Member, keywords}
use Rattle.js_keyword.specs.Keyword.{which_keyword}
use Rattle.js_eval.specs.Unevaluated.{is_unevaluated_items, is_unevaluated_properties}
use Rattle.js_eval.specs.Location.{Location}
use Rattle.js_eval.specs.Note.{are_all_items}
use Rattle.js_eval.specs.Result.{ResultTree, IsResult, StandsWithin, depth, size}
use Rattle.js_eval.specs.SchemaSet.{Text, SchemaSet, Step}
use Rattle.js_eval.specs.Size.{node_total}
use Rattle.js_eval.specs.Verdict.{Known, within, Settled, gives_names, gives_indexes}
use Rattle.js_eval.specs.Verdict.{evaluated_names, evaluated_indexes}
use Rattle.js_keyword.specs.declared.keyword.Keyword.{Keyword}
use Rattle.js_keyword.specs.declared.keyword.Keyword.TheVariants.{Ref, DynamicRef, PrefixItems, Contains}

-- v is judged at a place, to which these places led

module _ {Place : Type 0} (S : SchemaSet Place) (above : List Place) (place : Place) (v : Value) where
  -- what is settled within n is settled alike within each greater number
  abbrev pub StaysSettled : Type 0
  StaysSettled =
      (n m : ℕ) → n ≤ m → Settled S n above place v
      → Settled S m above place v
      × ((within S n).holds above place v ≡ (within S m).holds above place v)
      × ((within S n).names above place v ≡ (within S m).names above place v)
      × ((within S n).indexes above place v ≡ (within S m).indexes above place v)

  -- at most one tree is the result
  abbrev pub AtMostOneResult : Type 0
  AtMostOneResult = (at : Location) (t u : ResultTree) → IsResult S above place at v t
      → IsResult S above place at v u → t ≡ u

  -- there is one exactly if it is settled within some n
  abbrev pub ResultExactlyIfSettled : Type 0
  ResultExactlyIfSettled = (at : Location)
      → ((t : ResultTree) × IsResult S above place at v t) ↔ ((n : ℕ) × Settled S n above place v)

  -- the result is exactly so deep that it is settled within its depth, and within no less
  abbrev pub DepthIsLeast : Type 0
  DepthIsLeast = (at : Location) (t : ResultTree) → IsResult S above place at v t → (n : ℕ)
      → Settled S n above place v ↔ (depth t ≤ n)

  -- the result has as many nodes as are counted without it
  abbrev pub SizeIsTotal : Type 0
  SizeIsTotal = (at : Location) (t : ResultTree) → IsResult S above place at v t → (n : ℕ) → Settled S n above place v
      → size t ≡ node_total S n above place v

  -- there is a result within the limits exactly if it is settled within the one, and its nodes are no more than the
  -- other
  abbrev pub LimitsAreExact : Type 0
  LimitsAreExact =
      (at : Location) (deepest most : ℕ)
      → ((t : ResultTree) × IsResult S above place at v t × StandsWithin deepest most t)
      ↔ (Settled S deepest above place v × (node_total S deepest above place v ≤ most))

  -- the keyword location and the instance location of each node begin with those of the node above (Core, section 12.3)
  abbrev pub LocationsGoOn : Type 0
  LocationsGoOn = (at : Location) (t : ResultTree) → IsResult S above place at v t → IsLocated t

  -- The unevaluated keywords look at one another in no circle: what all keywords but `unevaluatedProperties` give of
  -- members, and all but `unevaluatedItems` of items, is what the others than those two give.
  abbrev pub NoCircle : Type 0
  NoCircle =
      (known : Known Place)
      → (flat_map (gives_names S known above place v)
      (filter (λ k. not (is_unevaluated_properties (which_keyword k.0))) (keywords (S.schema place)))
      ≡ evaluated_names S known above place v)
      × (flat_map (gives_indexes S known above place v)
      (filter (λ k. not (is_unevaluated_items (which_keyword k.0))) (keywords (S.schema place)))
      ≡ evaluated_indexes S known above place v)

-- ---- `true` of every item

-- each of these items, of which there are some, is among those at these indexes
abbrev pub are_each_among : List (ℕ × Value) → List ℕ → Bool
are_each_among [] among = false
are_each_among (e ∷ es) among = list_all (λ e. among_indexes e.0 among) (e ∷ es)

abbrev pub is_every_item : Value → List ℕ → Bool
is_every_item v among = are_each_among (indexed v) among

-- That these are all items of an array that isn't empty follows from their number: of what `prefixItems` was applied to
-- (10.3.1.1), and of what matches `contains` (10.3.1.3).
module _ {Place : Type 0} (S : SchemaSet Place) (path : List Place) (place : Place) (v : Value) (siblings : Named)
    (condition : Option Bool) (names : List Text) (indexes : List ℕ) (k : Member) where
  abbrev asked_of_items : Keyword → List (Application Place)
  asked_of_items κ = asks_of S path place siblings v condition names indexes k κ

  pub record StandsForEveryItem : Type 0 where
    pub applied : are_all_items v (indexes_applied (asked_of_items PrefixItems))
        ≡ is_every_item v (indexes_applied (asked_of_items PrefixItems))
    pub matching :
        (holds : Application Place → Bool)
        → are_all_items v (indexes_applied (filter holds (asked_of_items Contains)))
        ≡ is_every_item v (indexes_applied (filter holds (asked_of_items Contains)))

-- ---- nothing stands in for a place that isn't found

-- where the place of an application is looked for: the reference names it (8.2.3), or the keyword holds it at the step
-- (10, 11)
abbrev pub looked_for : Documents → List Site → Site → Text → Step → Keyword → Option Site
looked_for documents path place keyword step Ref = ref_target (sites documents) place
looked_for documents path place keyword step DynamicRef = dynamic_ref_target (sites documents) path place
looked_for documents path place keyword step _ = below documents place keyword step

-- this place is found, and it is one of the documents'
pub record IsFound (documents : Documents) (found : Option Site) (place : Site) : Type 0 where
  pub is : found ≡ Some place
  pub number : ℕ
  pub stands : place_at documents number ≡ Some place

-- the keyword of a place asks for the application
abbrev pub IsOfFound : Documents → List Site → Site → Member → Application Site → Type 0
IsOfFound documents path place k a = IsFound documents (looked_for documents path place k.0 a.step
    (which_keyword k.0)) a.place

-- In documents that are accepted, each application that a keyword of a place asks for is of a place that is found,
-- whatever value is judged, and whatever the dynamic scope. It is a place of the documents too, so the same holds
-- there. `schemas_of` answers something else where nothing is found: no judgement comes to that.
abbrev pub NothingStandsIn : Type 0
NothingStandsIn =
    (documents : Documents) → AreRead documents → IsClear (candidates documents) → (n : ℕ) (place : Site)
    → place_at documents n ≡ Some place
    → (path : List Site) (v : Value) (condition : Option Bool) (names : List Text) (indexes : List ℕ)
    → AllByRecursion
    (λ k. AllByRecursion (IsOfFound documents path place k)
    (asks_of (schemas_of documents) path place (entries place.schema) v condition names indexes k (which_keyword k.0)))
    (keywords place.schema)
