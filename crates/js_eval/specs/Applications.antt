-- The applications that a keyword asks for: its schemas, each applied to a value (JSON Schema Core, sections 8.2.3, 10
-- and 11). On a value of a type that it isn't about, a keyword asks for nothing, because such a value has no items, or
-- no members. The order of the applications is this project's own choice.
use Rattle.std.specs.Prelude.{ℕ, suc, ◌==◌, List, [], ◌∷◌, Bool, false, not, ◌||◌, Option, Some, None, map}
use Rattle.std.specs.Prelude.{filter, length, nat_lt, nat_le, codes, if◌then◌else◌}
use Rattle.std.specs.List.{list_any, flat_map}
use Rattle.std.specs.Option.{option_map_or}
use Rattle.std.specs.Str.{bytes_eq}
use Rattle.js_doc.specs.Value.{Value, text, Named}
use Rattle.js_doc.specs.Members.{get}
use Rattle.js_assert.specs.Argument.{values, entries, has}
use Rattle.js_assert.specs.Pattern.{matches}
use Rattle.js_eval.specs.Keywords.{Member}
use Rattle.js_eval.specs.SchemaSet.{Text, SchemaSet, Step, Alone, Index, Name}
use Rattle.js_keyword.specs.declared.keyword.Keyword.{Keyword}
use Rattle.js_keyword.specs.declared.keyword.Keyword.TheVariants.{Ref, DynamicRef, AllOf, AnyOf, OneOf, Not}
use Rattle.js_keyword.specs.declared.keyword.Keyword.TheVariants.{If, Then, Else}
use Rattle.js_keyword.specs.declared.keyword.Keyword.TheVariants.{DependentSchemas, PrefixItems, Items}
use Rattle.js_keyword.specs.declared.keyword.Keyword.TheVariants.{Contains, Properties, PatternProperties}
use Rattle.js_keyword.specs.declared.keyword.Keyword.TheVariants.{AdditionalProperties}
use Rattle.js_keyword.specs.declared.keyword.Keyword.TheVariants.{PropertyNames, UnevaluatedItems}
use Rattle.js_keyword.specs.declared.keyword.Keyword.TheVariants.{UnevaluatedProperties, Assertion, Other}

-- a schema applied to a value
pub record Application (Place : Type 0) : Type 0 where
  -- the place of the schema
  pub place : Place
  -- the step from the keyword to the schema
  pub step : Step
  -- the step from the value that the keyword is evaluated on to the value that the schema is applied to
  pub at : Step
  pub value : Value

-- ---- the terms of the table

-- the values with their positions, of which the first is i
abbrev pub indexed_from : ℕ → List Value → List (ℕ × Value)
indexed_from i [] = []
indexed_from i (v ∷ vs) = (i, v) ∷ indexed_from (suc i) vs

-- the items of an array with their indexes
abbrev pub indexed : Value → List (ℕ × Value)
indexed v = indexed_from 0 (values v)

abbrev pub among_names : Text → List Text → Bool
among_names name names = list_any (bytes_eq name) names

abbrev pub among_indexes : ℕ → List ℕ → Bool
among_indexes i indexes = list_any (λ j. i == j) indexes

-- how many schemas the adjacent `prefixItems` has; 0 without it
abbrev pub prefix_length : Named → ℕ
prefix_length siblings = option_map_or (λ argument. length (values argument)) (get (codes "prefixItems") siblings) 0

-- the adjacent `properties` has a schema with this name
abbrev pub is_property : Named → Text → Bool
is_property siblings name =
    option_map_or (λ argument. has name (entries argument)) (get (codes "properties") siblings) false

-- a pattern of the adjacent `patternProperties` matches this name
abbrev pub matches_pattern : Named → Text → Bool
matches_pattern siblings name =
    option_map_or (λ argument. list_any (λ p. matches p.0 name) (entries argument))
    (get (codes "patternProperties") siblings) false

abbrev pub if_holds : {A : Type 0} → Option Bool → List A → List A
if_holds None apps = []
if_holds (Some holds) apps = if holds then apps else []

abbrev pub if_fails : {A : Type 0} → Option Bool → List A → List A
if_fails None apps = []
if_fails (Some holds) apps = if holds then [] else apps

-- the schema to which the step leads from a keyword's argument, applied to a value
abbrev pub application : {Place : Type 0} → SchemaSet Place → Place → Text → Step → Step → Value → Application Place
application S place name step at value = record { place = S.below place name step; step = step; at = at; value = value }

-- ---- the table: v is evaluated under the keyword k among its siblings, at the last place of the path. `condition`:
-- the verdict of the adjacent `if`, or None without it. `names` and `indexes`: the members and the items that the other
-- keywords of the schema have evaluated.

module _ {Place : Type 0} (S : SchemaSet Place) (path : List Place) (place : Place) (siblings : Named) (v : Value)
    (condition : Option Bool) (names : List Text) (indexes : List ℕ) (k : Member) where
  -- the keyword's schema at the step, on the whole of v, on an item of v, on a member of v
  abbrev in_place : Step → Application Place
  in_place step = application S place k.0 step Alone v

  abbrev on_item : Step → ℕ × Value → Application Place
  on_item step e = application S place k.0 step (Index e.0) e.1

  abbrev applied_to_member : Step → Text × Value → Application Place
  applied_to_member step m = application S place k.0 step (Name m.0) m.1

  abbrev pub asks_of : Keyword → List (Application Place)
  -- 8.2.3.1: the schema that the reference leads to, on v
  asks_of Ref = record { place = S.target place; step = Alone; at = Alone; value = v } ∷ []
  -- 8.2.3.2: the schema that the reference leads to in the dynamic scope, on v
  asks_of DynamicRef = record { place = S.dynamic_target path place; step = Alone; at = Alone; value = v } ∷ []
  -- 10.2.1.1: each schema of the list, on v
  asks_of AllOf = map (λ e. in_place (Index e.0)) (indexed k.1)
  -- 10.2.1.2
  asks_of AnyOf = map (λ e. in_place (Index e.0)) (indexed k.1)
  -- 10.2.1.3
  asks_of OneOf = map (λ e. in_place (Index e.0)) (indexed k.1)
  -- 10.2.1.4: the schema, on v
  asks_of Not = in_place Alone ∷ []
  -- 10.2.2.1
  asks_of If = in_place Alone ∷ []
  -- 10.2.2.2: the schema on v, if `if` is there and holds
  asks_of Then = if_holds condition (in_place Alone ∷ [])
  -- 10.2.2.3: the schema on v, if `if` is there and fails
  asks_of Else = if_fails condition (in_place Alone ∷ [])
  -- 10.2.2.4: the schema of each name that a member has, on the whole of v
  asks_of DependentSchemas = map (λ m. in_place (Name m.0)) (filter (λ m. has m.0 (entries v)) (entries k.1))
  -- 10.3.1.1: at each index that the array also has, the schema on the item
  asks_of PrefixItems = map (λ e. on_item (Index e.0) e) (filter (λ e. nat_lt e.0 (length (values k.1))) (indexed v))
  -- 10.3.1.2: the schema on each item after those that `prefixItems` has schemas for
  asks_of Items = map (on_item Alone) (filter (λ e. nat_le (prefix_length siblings) e.0) (indexed v))
  -- 10.3.1.3: the schema on each item
  asks_of Contains = map (on_item Alone) (indexed v)
  -- 10.3.2.1: the schema of each name that a member has, on the member
  asks_of Properties = map (λ m. applied_to_member (Name m.0) m) (filter (λ m. has m.0 (entries k.1)) (entries v))
  -- 10.3.2.2: for each pattern, its schema on each member whose name it matches
  asks_of PatternProperties =
      flat_map (λ p. map (applied_to_member (Name p.0)) (filter (λ m. matches p.0 m.0) (entries v))) (entries k.1)
  -- 10.3.2.3: the schema on each member that `properties` doesn't name and no pattern of `patternProperties` matches
  asks_of AdditionalProperties =
      map (applied_to_member Alone)
      (filter (λ m. not (is_property siblings m.0 || matches_pattern siblings m.0)) (entries v))
  -- 10.3.2.4: the schema on each name, as a string; that it has the member's instance location is this project's own
  -- choice
  asks_of PropertyNames = map (λ m. applied_to_member Alone (m.0, text m.0)) (entries v)
  -- 11.2: the schema on each item that is not evaluated
  asks_of UnevaluatedItems = map (on_item Alone) (filter (λ e. not (among_indexes e.0 indexes)) (indexed v))
  -- 11.3: the schema on each member that is not evaluated
  asks_of UnevaluatedProperties = map (applied_to_member Alone) (filter (λ m. not (among_names m.0 names)) (entries v))
  -- assertions and annotations ask for nothing
  asks_of (Assertion _) = []
  asks_of (Other _) = []
