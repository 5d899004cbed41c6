-- Where what stands in a value stands when the value is upgraded: token by token, by the same table.
use Rattle.std.specs.Prelude.{[], ◌∷◌, ◌++◌, Option, Some, None, codes}
use Rattle.std.specs.Prelude.{option_and_then, option_map, if◌then◌else◌}
use Rattle.std.specs.List.{list_any}
use Rattle.js_doc.specs.Lookup.{part_named}
use Rattle.js_doc.specs.Members.{get}
use Rattle.js_doc.specs.Parts.{item_list, member_list}
use Rattle.js_doc.specs.Pointer.{Tokens}
use Rattle.js_doc.specs.Value.{Value, text, list, object, no_items, item, Text, Named}
use Rattle.js_upgrade.specs.Schema.{change_of, holder, is_any, is_some_list, is_true}
use Rattle.js_upgrade.specs.Upgrade.{holding_by_change, own_dialect}
use Rattle.js_upgrade.specs.declared.dialect.Dialect.{Dialect}
use Rattle.js_upgrade.specs.declared.keyword.Change.{Change}
use Rattle.js_upgrade.specs.declared.keyword.Change.TheVariants.{Goes, Identifier, Definitions, Items as ItemsChange}
use Rattle.js_upgrade.specs.declared.keyword.Change.TheVariants.{AdditionalItems, Dependencies, Minimum}
use Rattle.js_upgrade.specs.declared.keyword.Change.TheVariants.{Maximum, Divisor, Types, Disallowed, Extended}
use Rattle.js_upgrade.specs.declared.keyword.Change.TheVariants.{Properties, Contains, Anchor, RecursiveReference}
use Rattle.js_upgrade.specs.declared.keyword.Change.TheVariants.{RecursiveAnchor}
use Rattle.js_upgrade.specs.declared.holding.SchemaHolding.{SchemaHolding}
use Rattle.js_upgrade.specs.declared.holding.SchemaHolding.TheVariants.{One, Listed, Named as ByName, OneOrListed}
use Rattle.js_upgrade.specs.declared.holding.SchemaHolding.TheVariants.{Nothing}

-- ---- what stands in place of a keyword's name: tokens before those in its argument

abbrev pub just : Text → Option Tokens
just name = Some (name ∷ [])

abbrev pub first_item : Tokens
first_item = codes "0" ∷ []

-- a list that isn't empty has its items under the one name, and a schema stands under the other
abbrev pub listed_under : Text → Tokens → Value → Option Tokens
listed_under name other (list no_items) = None
listed_under name other (list (item v vs)) = just name
listed_under name other v = Some other

-- a member that is a schema; names have no place of their own
abbrev pub dependent_under : Option Value → Option Tokens
dependent_under None = None
dependent_under (Some (list vs)) = None
dependent_under (Some (text s)) = None
dependent_under (Some v) = just (codes "dependentSchemas")

abbrev pub dependencies_under : Value → Tokens → Option Tokens
dependencies_under (object ms) (name ∷ rest) = dependent_under (get name (member_list ms))
dependencies_under _ rest = None

-- an alternative that is a schema
abbrev pub alternative_under : Option Value → Option Tokens
alternative_under (Some (object ms)) = just (codes "anyOf")
alternative_under _ = None

abbrev pub types_under : Value → Tokens → Option Tokens
types_under (object ms) rest = Some (codes "anyOf" ∷ first_item)
types_under (list vs) (index ∷ rest) =
    if list_any is_any (item_list vs) then None else alternative_under (part_named index (list vs))
types_under _ rest = None

-- behind two `not`s
abbrev pub contains_under : Named → Tokens
contains_under siblings = holder siblings ∷ codes "0" ∷ codes "not" ∷ codes "not" ∷ codes "contains" ∷ []

-- behind `not`
abbrev pub negated : Option Tokens → Option Tokens
negated found = option_map (λ tokens. codes "not" ∷ tokens) found

-- of a keyword with this argument, on the way to what stands at the rest; none where it goes
module _ (siblings : Named) (name : Text) (v : Value) (rest : Tokens) where
  abbrev pub tokens_under : Change → Option Tokens
  tokens_under Goes = None
  tokens_under Identifier = None
  tokens_under Definitions = just (codes "$defs")
  tokens_under ItemsChange = listed_under (codes "prefixItems") (codes "items" ∷ []) v
  tokens_under AdditionalItems = if is_some_list (get (codes "items") siblings) then just (codes "items") else None
  tokens_under Dependencies = dependencies_under v rest
  tokens_under Minimum =
      just (if is_true (get (codes "exclusiveMinimum") siblings) then codes "exclusiveMinimum" else codes "minimum")
  tokens_under Maximum =
      just (if is_true (get (codes "exclusiveMaximum") siblings) then codes "exclusiveMaximum" else codes "maximum")
  tokens_under Divisor = just (codes "multipleOf")
  tokens_under Types = types_under v rest
  tokens_under Disallowed = negated (types_under v rest)
  tokens_under Extended = listed_under (codes "allOf") (codes "allOf" ∷ first_item) v
  tokens_under Properties = just (codes "properties")
  tokens_under Contains = Some (contains_under siblings)
  tokens_under Anchor = None
  tokens_under RecursiveReference = just (codes "$dynamicRef")
  tokens_under RecursiveAnchor = None
  tokens_under _ = just name

-- ---- one token on

-- how the part is held, the dialect there, and what stands in place of the token
pub record TokenStep : Type 0 where
  pub holding : SchemaHolding
  pub dialect : Dialect
  pub into : Option Tokens

abbrev pub step_to : SchemaHolding → Dialect → Text → TokenStep
step_to h d token = record { holding = h; dialect = d; into = just token }

abbrev pub keyword_step : Dialect → Named → Text → Value → Tokens → TokenStep
keyword_step d siblings token part rest =
    record {
      holding = holding_by_change (change_of d siblings token);
      dialect = d;
      into = tokens_under siblings token part rest (change_of d siblings token);
    }

abbrev pub step : SchemaHolding → Dialect → Value → Text → Value → Tokens → TokenStep
step One d (object ms) token part rest =
    keyword_step (own_dialect d (member_list ms)) (member_list ms) token part rest
step OneOrListed d (object ms) token part rest =
    keyword_step (own_dialect d (member_list ms)) (member_list ms) token part rest
step ByName d (object ms) token part rest = step_to One d token
step Listed d (list vs) token part rest = step_to One d token
step OneOrListed d (list vs) token part rest = step_to One d token
step _ d v token part rest = step_to Nothing d token

-- ---- all tokens

abbrev pub both : Option Tokens → Option Tokens → Option Tokens
both into found = option_and_then (λ tokens. option_map (λ more. tokens ++ more) found) into

-- none where nothing stands at the tokens, or where it goes
abbrev pub moved_tokens : SchemaHolding → Dialect → Value → Tokens → Option Tokens
moved_tokens h d v [] = Some []
moved_tokens h d v (token ∷ rest) =
    option_and_then
    (λ part. both (step h d v token part rest).into
    (moved_tokens (step h d v token part rest).holding (step h d v token part rest).dialect part rest))
    (part_named token v)

-- what stands at the tokens, how it is held, and in which dialect
pub record Reached : Type 0 where
  pub holding : SchemaHolding
  pub dialect : Dialect
  pub value : Value

abbrev pub reached : SchemaHolding → Dialect → Value → Tokens → Option Reached
reached h d v [] = Some (record { holding = h; dialect = d; value = v })
reached h d v (token ∷ rest) =
    option_and_then
    (λ part. reached (step h d v token part rest).holding (step h d v token part rest).dialect part rest)
    (part_named token v)
