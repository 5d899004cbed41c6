-- Whether a value is valid under a schema, and what of it is then evaluated (JSON Schema Core, sections 7.2 and 7.5 to
-- 7.7). References may lead on without end, so everything is defined within a number n of nested schema applications:
-- within 0 nothing is settled, and within n + 1 a schema is evaluated by what is known of its keywords' applications
-- within n.
use Rattle.std.specs.Prelude.{◌≡◌, ℕ, zero, suc, List, [], ◌∷◌, ◌++◌, Bool, true, false, not, ◌&&◌, Option}
use Rattle.std.specs.Prelude.{option_map, map, filter, length, codes, if◌then◌else◌}
use Rattle.std.specs.List.{list_all, flat_map}
use Rattle.std.specs.Option.{option_map_or}
use Rattle.js_doc.specs.Value.{Value, truth, Named}
use Rattle.js_doc.specs.Members.{get}
use Rattle.js_assert.specs.Argument.{entries}
use Rattle.js_eval.specs.Applications.{Application, application, asks_of}
use Rattle.js_eval.specs.Evaluated.{names_of, indexes_of}
use Rattle.js_eval.specs.Keywords.{Member, keywords}
use Rattle.js_keyword.specs.Keyword.{which_keyword}
use Rattle.js_eval.specs.Unevaluated.{is_unevaluated}
use Rattle.js_eval.specs.Passes.{passes_of}
use Rattle.js_eval.specs.SchemaSet.{Text, SchemaSet, Alone}
use Rattle.js_keyword.specs.declared.keyword.Keyword.TheVariants.{Contains}

-- What is known of applications. An application is given by the places applied before it, from the entry on, by its own
-- place, and by the value.
pub record Known (Place : Type 0) : Type 0 where
  -- its verdict is known
  pub settled : List Place → Place → Value → Bool
  -- it holds
  pub holds : List Place → Place → Value → Bool
  -- the members, and the items, of the value that it has evaluated
  pub names : List Place → Place → Value → List Text
  pub indexes : List Place → Place → Value → List ℕ

-- `false` accepts nothing; `true`, and an object by itself, everything (section 4.3.2)
abbrev pub accepts : Value → Bool
accepts (truth b) = b
accepts _ = true

-- ---- a schema and its keywords, by what is known of their applications

module _ {Place : Type 0} (S : SchemaSet Place) (known : Known Place) (above : List Place)
    (place : Place) (v : Value) where
  -- the dynamic scope (section 7.1)
  abbrev pub path : List Place
  path = above ++ place ∷ []

  abbrev pub siblings : Named
  siblings = entries (S.schema place)

  abbrev pub application_settled : Application Place → Bool
  application_settled a = known.settled path a.place a.value

  abbrev pub application_holds : Application Place → Bool
  application_holds a = known.holds path a.place a.value

  -- the verdict of the adjacent `if`, if there is one (10.2.2.1)
  abbrev pub condition : Option Bool
  condition = option_map (λ _. application_holds (application S place (codes "if") Alone Alone v))
      (get (codes "if") siblings)

  -- ---- a keyword, by its applications

  abbrev pub passes_by : ℕ → Member → List (Application Place) → Bool
  passes_by matching k apps = passes_of siblings v matching k (map application_holds apps) (which_keyword k.0)

  -- what a keyword with these applications has evaluated; one that fails has evaluated nothing (7.7.1.2)
  abbrev pub names_by : ℕ → Member → List (Application Place) → List Text
  names_by matching k apps =
      if passes_by matching k apps then names_of apps (filter application_holds apps)
      (flat_map (λ a. known.names path a.place a.value) (filter application_holds apps)) (which_keyword k.0) else []

  abbrev pub indexes_by : ℕ → Member → List (Application Place) → List ℕ
  indexes_by matching k apps =
      if passes_by matching k apps then indexes_of apps (filter application_holds apps)
      (flat_map (λ a. known.indexes path a.place a.value) (filter application_holds apps)) (which_keyword k.0) else []

  -- ---- the other keywords than the two unevaluated ones

  abbrev pub other_keywords : List Member
  other_keywords = filter (λ k. not (is_unevaluated (which_keyword k.0))) (keywords (S.schema place))

  abbrev pub others_ask : Member → List (Application Place)
  others_ask k = asks_of S path place siblings v condition [] [] k (which_keyword k.0)

  -- how many items match the adjacent `contains`; 0 without it
  abbrev pub matching : ℕ
  matching =
      option_map_or (λ argument. length (filter application_holds
      (asks_of S path place siblings v condition [] [] (codes "contains", argument) Contains)))
      (get (codes "contains") siblings) 0

  -- The members, and the items, that the others have evaluated (11.2, 11.3). None is lost by leaving both unevaluated
  -- keywords out for either of them: `unevaluatedItems` evaluates no members, and `unevaluatedProperties` no items.
  abbrev pub evaluated_names : List Text
  evaluated_names = flat_map (λ k. names_by matching k (others_ask k)) other_keywords

  abbrev pub evaluated_indexes : List ℕ
  evaluated_indexes = flat_map (λ k. indexes_by matching k (others_ask k)) other_keywords

  -- ---- every keyword

  abbrev pub asks : Member → List (Application Place)
  asks k = asks_of S path place siblings v condition evaluated_names evaluated_indexes k (which_keyword k.0)

  abbrev pub passes : Member → Bool
  passes k = passes_by matching k (asks k)

  abbrev pub gives_names : Member → List Text
  gives_names k = names_by matching k (asks k)

  abbrev pub gives_indexes : Member → List ℕ
  gives_indexes k = indexes_by matching k (asks k)

  abbrev pub keyword_settled : Member → Bool
  keyword_settled k = list_all application_settled (asks k)

  -- ---- the schema

  -- each application of its keywords is settled; `true` and `false` have no keywords
  abbrev pub schema_settled : Bool
  schema_settled = list_all keyword_settled (keywords (S.schema place))

  -- it isn't `false`, and each of its keywords passes
  abbrev pub schema_passes : Bool
  schema_passes = accepts (S.schema place) && list_all passes (keywords (S.schema place))

-- what is known with one more nested application; a schema that fails has evaluated nothing (7.7.1.2)
abbrev pub with_one_more : {Place : Type 0} → SchemaSet Place → Known Place → Known Place
with_one_more S known = record {
  settled = λ above place v. schema_settled S known above place v;
  holds = λ above place v. schema_settled S known above place v && schema_passes S known above place v;
  names = λ above place v. if schema_passes S known above place v then flat_map (gives_names S known above place v)
      (keywords (S.schema place)) else [];
  indexes = λ above place v. if schema_passes S known above place v then flat_map (gives_indexes S known above place v)
      (keywords (S.schema place)) else [];
}

abbrev pub nothing : {Place : Type 0} → Known Place
nothing = record { settled = λ _ _ _. false; holds = λ _ _ _. false; names = λ _ _ _. []; indexes = λ _ _ _. [] }

-- what is known within n nested schema applications
unfoldable pub within : {Place : Type 0} → SchemaSet Place → ℕ → Known Place
within S zero = nothing
within S (suc n) = with_one_more S (within S n)

-- ---- verdicts: v is evaluated at a place, at the end of these places

module _ {Place : Type 0} (S : SchemaSet Place) (n : ℕ) (above : List Place) (place : Place) (v : Value) where
  abbrev pub Settled : Type 0
  Settled = (within S n).settled above place v ≡ true

  abbrev pub Succeeds : Type 0
  Succeeds = (within S n).holds above place v ≡ true

  abbrev pub Fails : Type 0
  Fails = Settled × ((within S n).holds above place v ≡ false)
