-- What becomes of a keyword in 2020-12: a line for each keyword. Behind each stand its sections: draft-03; draft-04
-- Validation; draft-06 Validation; draft-07 Validation; 2019-09 Core or Validation; 2020-12 Core or Validation. A draft
-- in which it is no keyword has a dash, and `C` marks a section of Core in the drafts 04 to 07.
use Rattle.std.specs.Prelude.{List, [], ◌∷◌, Option, Some, None, codes, if◌then◌else◌}
use Rattle.js_doc.specs.Value.{Text}
use Rattle.js_upgrade.specs.Dialect.{found, first_of, is_before}
use Rattle.js_upgrade.specs.declared.dialect.Dialect.{Dialect}
use Rattle.js_upgrade.specs.declared.dialect.Dialect.TheVariants.{Draft04, Draft06, Draft07, Draft2019, Draft2020}
use Rattle.js_upgrade.specs.declared.keyword.Change.{Change}
use Rattle.js_upgrade.specs.declared.keyword.Change.TheVariants.{Stays, Asserts, Refers}
use Rattle.js_upgrade.specs.declared.keyword.Change.TheVariants.{HoldsOne, HoldsList, HoldsNamed}
use Rattle.js_upgrade.specs.declared.keyword.Change.TheVariants.{Goes, Identifier, Definitions, Items, AdditionalItems}
use Rattle.js_upgrade.specs.declared.keyword.Change.TheVariants.{Dependencies, Minimum, Maximum, Divisor, Types}
use Rattle.js_upgrade.specs.declared.keyword.Change.TheVariants.{Disallowed, Extended, Properties}
use Rattle.js_upgrade.specs.declared.keyword.Change.TheVariants.{Contains, Anchor, RecursiveReference, RecursiveAnchor}

module _ (d : Dialect) where
  -- one thing before a draft, and another from it on
  abbrev pub before : Dialect → Change → Change → Change
  before draft old new = if is_before d draft then old else new

  -- no keyword of the dialect before a draft: it may not act
  abbrev pub since : Dialect → Change → Change
  since draft new = before draft Goes new

  -- what 2019-09 alone has
  abbrev pub in_2019 : Change → Change → Change
  in_2019 other new = before Draft2019 other (before Draft2020 new other)

  -- identifiers, references, and what holds schemas for them
  abbrev pub core_rows : List (Text × Change)
  core_rows =
      (codes "$schema", since Draft2020 Asserts)  -- 5.29; C 6; C 7; C 7; 8.1.1; 8.1.1
      ∷ (codes "$vocabulary", since Draft2020 Asserts)  -- -; -; -; -; 8.1.2; 8.1.2
      ∷ (codes "$id", before Draft06 Goes (before Draft2019 Identifier Asserts))  -- -; -; C 9.2; C 8.2; 8.2.2; 8.2.1
      ∷ (codes "id", before Draft06 Identifier Stays)  -- 5.27; C 7.2; -; -; -; -
      ∷ (codes "$anchor", since Draft2019 (before Draft2020 Anchor Asserts))  -- -; -; -; -; 8.2.3; 8.2.2
      ∷ (codes "$dynamicAnchor", since Draft2020 Asserts)  -- -; -; -; -; -; 8.2.2
      ∷ (codes "$ref", Refers)  -- 5.28; C 7; C 8; C 8.3; 8.2.4.1; 8.2.3.1
      ∷ (codes "$dynamicRef", since Draft2020 Asserts)  -- -; -; -; -; -; 8.2.3.2
      ∷ (codes "$recursiveRef", in_2019 Stays RecursiveReference)  -- -; -; -; -; 8.2.4.2.1; -
      ∷ (codes "$recursiveAnchor", in_2019 Stays RecursiveAnchor)  -- -; -; -; -; 8.2.4.2.2; -
      ∷ (codes "$defs", since Draft2019 HoldsNamed)  -- -; -; -; -; 8.2.5; 8.2.4
      ∷ (codes "definitions", before Draft2019 Definitions HoldsNamed)  -- -; 5.5.7; 7.1; 9; -; -
      ∷ []

  -- what applies schemas
  abbrev pub applicator_rows : List (Text × Change)
  applicator_rows =
      (codes "allOf", since Draft04 HoldsList)  -- -; 5.5.3; 6.26; 6.7.1; 9.2.1.1; 10.2.1.1
      ∷ (codes "anyOf", since Draft04 HoldsList)  -- -; 5.5.4; 6.27; 6.7.2; 9.2.1.2; 10.2.1.2
      ∷ (codes "oneOf", since Draft04 HoldsList)  -- -; 5.5.5; 6.28; 6.7.3; 9.2.1.3; 10.2.1.3
      ∷ (codes "not", since Draft04 HoldsOne)  -- -; 5.5.6; 6.29; 6.7.4; 9.2.1.4; 10.2.1.4
      ∷ (codes "extends", before Draft04 Extended Stays)  -- 5.26; -; -; -; -; -
      ∷ (codes "if", since Draft07 HoldsOne)  -- -; -; -; 6.6.1; 9.2.2.1; 10.2.2.1
      ∷ (codes "then", since Draft07 HoldsOne)  -- -; -; -; 6.6.2; 9.2.2.2; 10.2.2.2
      ∷ (codes "else", since Draft07 HoldsOne)  -- -; -; -; 6.6.3; 9.2.2.3; 10.2.2.3
      ∷ (codes "dependencies", before Draft2019 Dependencies Stays)  -- 5.8; 5.4.5; 6.21; 6.5.7; -; -
      ∷ (codes "dependentSchemas", since Draft2019 HoldsNamed)  -- -; -; -; -; 9.2.2.4; 10.2.2.4
      ∷ (codes "items", before Draft2020 Items HoldsOne)  -- 5.5; 5.3.1; 6.9; 6.4.1; 9.3.1.1; 10.3.1.2
      ∷ (codes "additionalItems", before Draft2020 AdditionalItems Stays)  -- 5.6; 5.3.1; 6.10; 6.4.2; 9.3.1.2; -
      ∷ (codes "prefixItems", since Draft2020 HoldsList)  -- -; -; -; -; -; 10.3.1.1
      ∷ (codes "contains", since Draft06 (in_2019 HoldsOne Contains))  -- -; -; 6.14; 6.4.6; 9.3.1.4; 10.3.1.3
      ∷ (codes "properties", before Draft04 Properties HoldsNamed)  -- 5.2; 5.4.4; 6.18; 6.5.4; 9.3.2.1; 10.3.2.1
      ∷ (codes "patternProperties", HoldsNamed)  -- 5.3; 5.4.4; 6.19; 6.5.5; 9.3.2.2; 10.3.2.2
      ∷ (codes "additionalProperties", HoldsOne)  -- 5.4; 5.4.4; 6.20; 6.5.6; 9.3.2.3; 10.3.2.3
      ∷ (codes "propertyNames", since Draft06 HoldsOne)  -- -; -; 6.22; 6.5.8; 9.3.2.5; 10.3.2.4
      ∷ (codes "unevaluatedItems", since Draft2019 HoldsOne)  -- -; -; -; -; 9.3.1.3; 11.2
      ∷ (codes "unevaluatedProperties", since Draft2019 HoldsOne)  -- -; -; -; -; 9.3.2.4; 11.3
      ∷ []

  -- what judges a value by itself
  abbrev pub assertion_rows : List (Text × Change)
  assertion_rows =
      (codes "type", before Draft04 Types Asserts)  -- 5.1; 5.5.2; 6.25; 6.1.1; 6.1.1; 6.1.1
      ∷ (codes "disallow", before Draft04 Disallowed Stays)  -- 5.25; -; -; -; -; -
      ∷ (codes "enum", Asserts)  -- 5.19; 5.5.1; 6.23; 6.1.2; 6.1.2; 6.1.2
      ∷ (codes "const", since Draft06 Asserts)  -- -; -; 6.24; 6.1.3; 6.1.3; 6.1.3
      ∷ (codes "multipleOf", since Draft04 Asserts)  -- -; 5.1.1; 6.1; 6.2.1; 6.2.1; 6.2.1
      ∷ (codes "divisibleBy", before Draft04 Divisor Stays)  -- 5.24; -; -; -; -; -
      ∷ (codes "maximum", before Draft06 Maximum Asserts)  -- 5.10; 5.1.2; 6.2; 6.2.2; 6.2.2; 6.2.2
      ∷ (codes "exclusiveMaximum", since Draft06 Asserts)  -- 5.12; 5.1.2; 6.3; 6.2.3; 6.2.3; 6.2.3
      ∷ (codes "minimum", before Draft06 Minimum Asserts)  -- 5.9; 5.1.3; 6.4; 6.2.4; 6.2.4; 6.2.4
      ∷ (codes "exclusiveMinimum", since Draft06 Asserts)  -- 5.11; 5.1.3; 6.5; 6.2.5; 6.2.5; 6.2.5
      ∷ (codes "maxLength", Asserts)  -- 5.18; 5.2.1; 6.6; 6.3.1; 6.3.1; 6.3.1
      ∷ (codes "minLength", Asserts)  -- 5.17; 5.2.2; 6.7; 6.3.2; 6.3.2; 6.3.2
      ∷ (codes "pattern", Asserts)  -- 5.16; 5.2.3; 6.8; 6.3.3; 6.3.3; 6.3.3
      ∷ (codes "maxItems", Asserts)  -- 5.14; 5.3.2; 6.11; 6.4.3; 6.4.1; 6.4.1
      ∷ (codes "minItems", Asserts)  -- 5.13; 5.3.3; 6.12; 6.4.4; 6.4.2; 6.4.2
      ∷ (codes "uniqueItems", Asserts)  -- 5.15; 5.3.4; 6.13; 6.4.5; 6.4.3; 6.4.3
      ∷ (codes "maxContains", since Draft2020 Asserts)  -- -; -; -; -; 6.4.4; 6.4.4
      ∷ (codes "minContains", since Draft2020 Asserts)  -- -; -; -; -; 6.4.5; 6.4.5
      ∷ (codes "maxProperties", since Draft04 Asserts)  -- -; 5.4.1; 6.15; 6.5.1; 6.5.1; 6.5.1
      ∷ (codes "minProperties", since Draft04 Asserts)  -- -; 5.4.2; 6.16; 6.5.2; 6.5.2; 6.5.2
      ∷ (codes "required", since Draft04 Asserts)  -- 5.7; 5.4.3; 6.17; 6.5.3; 6.5.3; 6.5.3
      ∷ (codes "dependentRequired", since Draft2019 Asserts)  -- -; -; -; -; 6.5.4; 6.5.4
      ∷ []

  unfoldable pub core_change : Text → Option Change
  core_change name = found core_rows name

  unfoldable pub applicator_change : Text → Option Change
  applicator_change name = found applicator_rows name

  unfoldable pub assertion_change : Text → Option Change
  assertion_change name = found assertion_rows name

  -- a name that the table doesn't have is an annotation's, or no keyword's
  abbrev pub or_stays : Option Change → Change
  or_stays None = Stays
  or_stays (Some change) = change

  abbrev pub change_in : Text → Change
  change_in name =
      or_stays (first_of (assertion_change name) (first_of (applicator_change name) (core_change name)))
