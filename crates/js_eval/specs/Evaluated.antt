-- The members and the items of a value that a keyword has evaluated if it passes (JSON Schema Core, sections 10.2,
-- 10.3, 11.2 and 11.3).
use Rattle.std.specs.Prelude.{ℕ, List, [], ◌∷◌}
use Rattle.std.specs.List.{flat_map}
use Rattle.js_eval.specs.Applications.{Application}
use Rattle.js_eval.specs.SchemaSet.{Text, Step, Index, Name}
use Rattle.js_keyword.specs.declared.keyword.Keyword.{Keyword}
use Rattle.js_keyword.specs.declared.keyword.Keyword.TheVariants.{Ref, DynamicRef, AllOf, AnyOf, OneOf, If}
use Rattle.js_keyword.specs.declared.keyword.Keyword.TheVariants.{Then, Else}
use Rattle.js_keyword.specs.declared.keyword.Keyword.TheVariants.{DependentSchemas, PrefixItems, Items}
use Rattle.js_keyword.specs.declared.keyword.Keyword.TheVariants.{Contains, Properties, PatternProperties}
use Rattle.js_keyword.specs.declared.keyword.Keyword.TheVariants.{AdditionalProperties, UnevaluatedItems}
use Rattle.js_keyword.specs.declared.keyword.Keyword.TheVariants.{UnevaluatedProperties}
use Rattle.js_eval.specs.declared.evaluation.keeping.Origin.{Origin}
use Rattle.js_eval.specs.declared.evaluation.keeping.Origin.TheVariants.{Applied, Holding, Below, Nowhere}

abbrev pub name_in_step : Step → List Text
name_in_step (Name name) = name ∷ []
name_in_step _ = []

abbrev pub index_in_step : Step → List ℕ
index_in_step (Index i) = i ∷ []
index_in_step _ = []

-- the members, and the items, that schemas were applied to
abbrev pub names_applied : {Place : Type 0} → List (Application Place) → List Text
names_applied apps = flat_map (λ a. name_in_step a.at) apps

abbrev pub indexes_applied : {Place : Type 0} → List (Application Place) → List ℕ
indexes_applied apps = flat_map (λ a. index_in_step a.at) apps

-- ---- the table: by which of its applications a keyword evaluates members, and by which it evaluates items

abbrev pub origins : Keyword → Origin × Origin
-- 8.2.3 and 10.2: what the schemas applied in place have evaluated
origins Ref = (Below, Below)
origins DynamicRef = (Below, Below)
origins AllOf = (Below, Below)
origins AnyOf = (Below, Below)
origins OneOf = (Below, Below)
origins If = (Below, Below)
origins Then = (Below, Below)
origins Else = (Below, Below)
origins DependentSchemas = (Below, Below)
-- 10.3.1.1, 10.3.1.2 and 11.2: the items that it was applied to
origins PrefixItems = (Nowhere, Applied)
origins Items = (Nowhere, Applied)
origins UnevaluatedItems = (Nowhere, Applied)
-- 10.3.1.3: the items that match
origins Contains = (Nowhere, Holding)
-- 10.3.2 and 11.3: the members that it was applied to
origins Properties = (Applied, Nowhere)
origins PatternProperties = (Applied, Nowhere)
origins AdditionalProperties = (Applied, Nowhere)
origins UnevaluatedProperties = (Applied, Nowhere)
-- all others, including `not`
origins _ = (Nowhere, Nowhere)

abbrev pub names_origin : Keyword → Origin
names_origin κ = (origins κ).0

abbrev pub indexes_origin : Keyword → Origin
indexes_origin κ = (origins κ).1

-- `applied`, `holding`: what schemas were applied to, and what of it those were that hold; `below`: what the schemas of
-- those that hold have evaluated themselves
abbrev pub from_origin : {A : Type 0} → Origin → List A → List A → List A → List A
from_origin Applied applied holding below = applied
from_origin Holding applied holding below = holding
from_origin Below applied holding below = below
from_origin Nowhere applied holding below = []

-- a keyword asks for these applications, of which those in `holding` hold
module _ {Place : Type 0} (apps holding : List (Application Place)) where
  abbrev pub names_of : List Text → Keyword → List Text
  names_of names κ = from_origin (names_origin κ) (names_applied apps) (names_applied holding) names

  abbrev pub indexes_of : List ℕ → Keyword → List ℕ
  indexes_of indexes κ = from_origin (indexes_origin κ) (indexes_applied apps) (indexes_applied holding) indexes
