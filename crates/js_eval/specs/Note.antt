-- The note of a node: an error if it fails, an annotation if it passes, or nothing (JSON Schema Core, sections 7.7 and
-- 10 to 12.3.4). The standard leaves the texts of errors open, and allows `prefixItems` and `contains` to annotate
-- `true` if they cover every item. The texts, and that `true` is always used then, are this project's own choices.
use Rattle.std.specs.Prelude.{ℕ, ◌==◌, List, [], ◌∷◌, ◌++◌, Bool, true, false, Option, Some, None}
use Rattle.std.specs.Prelude.{map, filter, length, codes, decimal, if◌then◌else◌}
use Rattle.std.specs.Option.{option_map_or}
use Rattle.js_doc.specs.Value.{Value, truth, list, object, Named}
use Rattle.js_assert.specs.Argument.{values, entries}
use Rattle.js_assert.specs.Assertion.{asserted}
use Rattle.js_assert.specs.ErrorText as assertion
pub use Rattle.js_tree.specs.Note.{Note, silent, error, value, names, index, indexes, truly}
use Rattle.js_eval.specs.Applications.{Application, among_names}
use Rattle.js_eval.specs.Evaluated.{names_applied, indexes_applied}
use Rattle.js_eval.specs.Keywords.{Member}
use Rattle.js_eval.specs.SchemaSet.{Text}
use Rattle.js_keyword.specs.declared.keyword.Keyword.{Keyword}
use Rattle.js_keyword.specs.declared.keyword.Keyword.TheVariants.{AnyOf, OneOf, Not}
use Rattle.js_keyword.specs.declared.keyword.Keyword.TheVariants.{PrefixItems, Items, Contains}
use Rattle.js_keyword.specs.declared.keyword.Keyword.TheVariants.{Properties}
use Rattle.js_keyword.specs.declared.keyword.Keyword.TheVariants.{PatternProperties, AdditionalProperties}
use Rattle.js_keyword.specs.declared.keyword.Keyword.TheVariants.{UnevaluatedItems}
use Rattle.js_keyword.specs.declared.keyword.Keyword.TheVariants.{UnevaluatedProperties, Assertion}
use Rattle.js_keyword.specs.declared.keyword.Keyword.TheVariants.{Other}

-- ---- the terms of the tables

abbrev pub error_or_none : Option Text → Note
error_or_none None = silent
error_or_none (Some text) = error text

-- `true`, if it was applied to any item
abbrev pub if_any : List ℕ → Note
if_any [] = silent
if_any (_ ∷ _) = truly

-- the largest index, which is the last; none if there are no indexes
abbrev pub largest : List ℕ → Note
largest [] = silent
largest (i ∷ []) = index i
largest (i ∷ j ∷ js) = largest (j ∷ js)

-- these are all items of a nonempty array; since no keyword is applied to an item twice, their number decides
abbrev pub are_all_items : Value → List ℕ → Bool
are_all_items v [] = false
are_all_items v (i ∷ is) = length (i ∷ is) == length (values v)

-- `true` if these are all items, else that note
abbrev pub true_or : Bool → Note → Note
true_or are_all note = if are_all then truly else note

-- a note for arrays only, and one for objects only
abbrev pub said_of_array : Value → Note → Note
said_of_array (list _) note = note
said_of_array _ note = silent

abbrev pub said_of_object : Value → Note → Note
said_of_object (object _) note = note
said_of_object _ note = silent

-- the names of v's members that are among these, ascending, each once
abbrev pub member_names_among : Value → List Text → List Text
member_names_among v among = filter (λ name. among_names name among) (map (λ m. m.0) (entries v))

-- ---- a keyword's note: v is evaluated under the keyword k among its siblings, with these applications, of which those
-- in `holding` hold. `matching`: how many items of v match the adjacent `contains`.

module _ {Place : Type 0} (siblings : Named) (v : Value) (matching : ℕ) (k : Member)
    (apps holding : List (Application Place)) where
  -- if it fails (12.3.4); a keyword that fails because its applications do has no error of its own
  abbrev pub error_of : Keyword → Note
  error_of AnyOf = error (codes "no branch holds")
  error_of OneOf = error (decimal (length holding) ++ codes " branches hold")
  error_of Not = error (codes "the subschema holds")
  error_of Contains = error (codes "no matching item")
  error_of (Assertion _) = error_or_none
      (option_map_or (λ a. assertion.error a v matching) (asserted k.0 k.1 siblings) None)
  error_of _ = silent

  -- if it passes (10.3, 11)
  abbrev pub annotation_of : Keyword → Note
  -- 10.3.1.1: `true` if it was applied to every item, else the largest index that it was applied to
  annotation_of PrefixItems = true_or (are_all_items v (indexes_applied apps)) (largest (indexes_applied apps))
  -- 10.3.1.2: `true` if it was applied to any item
  annotation_of Items = if_any (indexes_applied apps)
  -- 10.3.1.3: `true` if every item matches, else the indexes of those that do; of an empty array there are none
  annotation_of Contains =
      said_of_array v (true_or (are_all_items v (indexes_applied holding)) (indexes (indexes_applied holding)))
  -- 10.3.2: the names of the members that it was applied to
  annotation_of Properties = said_of_object v (names (names_applied apps))
  annotation_of PatternProperties = said_of_object v (names (member_names_among v (names_applied apps)))
  annotation_of AdditionalProperties = said_of_object v (names (names_applied apps))
  -- 11
  annotation_of UnevaluatedItems = if_any (indexes_applied apps)
  annotation_of UnevaluatedProperties = said_of_object v (names (names_applied apps))
  -- 6.5, 7.7: a keyword that does nothing else annotates its value
  annotation_of (Other _) = value k.1
  annotation_of _ = silent

  abbrev pub keyword_note : Bool → Keyword → Note
  keyword_note true κ = annotation_of κ
  keyword_note false κ = error_of κ

-- ---- a schema's note

abbrev pub schema_note : Value → Note
schema_note (truth false) = error (codes "false schema")
schema_note _ = silent
