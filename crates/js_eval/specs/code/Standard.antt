-- The turn of a keyword, by which keyword of the standard it is, and how its name is written (of private functions).
use Rattle.std.specs.Prelude.{◌≡◌, ℕ, true, List, ◌∷◌, map, if◌then◌else◌}
use Rattle.std.specs.List.{list_all}
use Rattle.js_doc.specs.Escapes.{stands}
use Rattle.js_doc.specs.Fragment.{fragment_token}
use Rattle.js_doc.specs.Pointer.{escape}
use Rattle.js_doc.specs.Value.{Named}
use Rattle.js_keyword.specs.Keyword.{which_keyword}
use Rattle.js_keyword.specs.declared.keyword.Keyword.{Keyword}
use Rattle.js_keyword.specs.declared.keyword.Keyword.TheVariants as name
use Rattle.js_keyword.specs.declared.other_keyword.OtherKeyword.TheVariants.{Unknown}
use Rattle.js_eval.specs.Keywords.{is_after_if}
use Rattle.js_eval.specs.declared.order.turn.Turn.{Turn}
use Rattle.js_eval.specs.declared.order.turn.Turn.TheVariants as turn

-- by the side of `if` on which a name stands
abbrev pub turn_by_side : List ℕ → Turn
turn_by_side name = if is_after_if name then turn.Last else turn.First

abbrev pub turn_by_keyword : Keyword → List ℕ → Turn
turn_by_keyword name.Ref text = turn.First
turn_by_keyword name.DynamicRef text = turn.First
turn_by_keyword name.AllOf text = turn.First
turn_by_keyword name.AnyOf text = turn.First
turn_by_keyword name.OneOf text = turn.Last
turn_by_keyword name.Not text = turn.Last
turn_by_keyword name.If text = turn.First
turn_by_keyword name.Then text = turn.Last
turn_by_keyword name.Else text = turn.Second
turn_by_keyword name.DependentSchemas text = turn.First
turn_by_keyword name.PrefixItems text = turn.Last
turn_by_keyword name.Items text = turn.Last
turn_by_keyword name.Contains text = turn.First
turn_by_keyword name.Properties text = turn.Last
turn_by_keyword name.PatternProperties text = turn.Last
turn_by_keyword name.AdditionalProperties text = turn.First
turn_by_keyword name.PropertyNames text = turn.Last
turn_by_keyword name.UnevaluatedItems text = turn.Last
turn_by_keyword name.UnevaluatedProperties text = turn.Last
turn_by_keyword (name.Assertion _) text = turn_by_side text
turn_by_keyword (name.Other Unknown) text = turn_by_side text
turn_by_keyword (name.Other _) text = turn.Never

-- of each of a schema's keywords, which keyword of the standard it is
abbrev pub keyword_names_of : Named → List Keyword
keyword_names_of ms = map (λ m. which_keyword m.0) ms

-- the name is written as it is
pub record IsWrittenAsItIs (name : List ℕ) : Type 0 where
  pub in_pointer : escape name ≡ name
  pub in_fragment : fragment_token name ≡ 47 ∷ name
  pub in_string : list_all stands name ≡ true
