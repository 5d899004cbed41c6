-- Schemas of older drafts, and what becomes of them.
use Rattle.std.proofs.Common.{◌≡◌, ℕ, [], ◌∷◌, pos, true, false, Some, None, codes, refl}
use Rattle.percent_encoding.specs.Percent.{percent_decode}
use Rattle.js_doc.specs.Value.{Value, null, truth, whole, text, list, object, items, members, Values, Named}
use Rattle.js_upgrade.specs.Dialect.{dialect_named, version_named}
use Rattle.js_upgrade.specs.Keyword.{core_change, applicator_change, assertion_change}
use Rattle.js_upgrade.specs.Schema.{is_simple_type}
use Rattle.js_upgrade.specs.Upgrade.{document_upgraded, schema_uri}
use Rattle.js_upgrade.specs.declared.dialect.Dialect.{Dialect}
use Rattle.js_upgrade.specs.declared.dialect.Dialect.TheVariants.{Draft03, Draft04, Draft06}
use Rattle.js_upgrade.specs.declared.dialect.Dialect.TheVariants.{Draft07, Draft2019}

-- ---- short forms

abbrev pub obj : Named → Value
obj ms = object (members ms)

abbrev pub arr : Values → Value
arr vs = list (items vs)

abbrev pub num : ℕ → Value
num n = whole (pos n)

abbrev pub is_null : Value
is_null = obj ((codes "type", text (codes "null")) ∷ [])

abbrev pub is_string : Value
is_string = obj ((codes "type", text (codes "string")) ∷ [])

-- a schema of the draft becomes these keywords of 2020-12, behind `$schema`
abbrev Becomes : Dialect → Named → Named → Type 0
Becomes d before after =
    document_upgraded d (obj before) ≡ Some (obj ((codes "$schema", schema_uri) ∷ after))

-- the same, where `$schema` isn't the first of them
abbrev BecomesAll : Dialect → Named → Named → Type 0
BecomesAll d before after = document_upgraded d (obj before) ≡ Some (obj after)

abbrev Stays : Dialect → Named → Type 0
Stays d schema = Becomes d schema schema

-- ---- dialects

https : dialect_named (codes "https://json-schema.org/draft-04/schema#") ≡ Some Draft04
unfolding version_named
https = refl

hyper_schema : dialect_named (codes "http://json-schema.org/draft-07/hyper-schema") ≡ Some Draft07
unfolding version_named
hyper_schema = refl

unknown : dialect_named (codes "http://json-schema.org/draft/schema#") ≡ None
unfolding version_named
unknown = refl

unknown_root : document_upgraded Draft07 (obj ((codes "$schema", text (codes "urn:x")) ∷ [])) ≡ None
unfolding version_named
unknown_root = refl

current : document_upgraded Draft04 (obj ((codes "$schema", schema_uri) ∷ (codes "definitions", null) ∷ []))
    ≡ Some (obj ((codes "$schema", schema_uri) ∷ (codes "definitions", null) ∷ []))
unfolding version_named core_change applicator_change assertion_change
current = refl

-- ---- keywords that the dialect doesn't know

const_in_04 : Becomes Draft04 ((codes "const", num 1) ∷ []) []
unfolding core_change applicator_change assertion_change
const_in_04 = refl

if_in_06 : Becomes Draft06 ((codes "if", truth true) ∷ (codes "then", truth false) ∷ []) []
unfolding core_change applicator_change assertion_change
if_in_06 = refl

prefix_items_in_2019 : Becomes Draft2019 ((codes "prefixItems", arr (is_null ∷ [])) ∷ []) []
unfolding core_change applicator_change assertion_change
prefix_items_in_2019 = refl

dependencies_in_2019 : Stays Draft2019 ((codes "dependencies", obj ((codes "a", arr []) ∷ [])) ∷ [])
unfolding core_change applicator_change assertion_change
dependencies_in_2019 = refl

values_in_07 : Stays Draft07 ((codes "default", obj ((codes "items", arr []) ∷ [])) ∷ (
  codes "enum",
  arr (obj
      ((codes "$ref", text (codes "#")) ∷ (codes "const", num 1) ∷ []) ∷ []),
) ∷ [])
unfolding core_change applicator_change assertion_change
values_in_07 = refl

-- ---- limits

exclusive : Becomes Draft04 ((codes "exclusiveMinimum", truth true) ∷ (codes "minimum", num 3) ∷ [])
    ((codes "exclusiveMinimum", num 3) ∷ [])
unfolding core_change applicator_change assertion_change
exclusive = refl

not_exclusive : Becomes Draft04 ((codes "exclusiveMaximum", truth false) ∷ (codes "maximum", num 3) ∷ [])
    ((codes "maximum", num 3) ∷ [])
unfolding core_change applicator_change assertion_change
not_exclusive = refl

exclusive_alone : Becomes Draft04 ((codes "exclusiveMaximum", truth true) ∷ []) []
unfolding core_change applicator_change assertion_change
exclusive_alone = refl

-- ---- identifiers

identifier : BecomesAll Draft04 ((codes "id", text (codes "https://o.example/a#")) ∷ [])
    ((codes "$id", text (codes "https://o.example/a")) ∷ (codes "$schema", schema_uri) ∷ [])
unfolding core_change applicator_change assertion_change
identifier = refl

name : BecomesAll Draft07 ((codes "$id", text (codes "#a.1")) ∷ [])
    ((codes "$anchor", text (codes "a.1")) ∷ (codes "$schema", schema_uri) ∷ [])
unfolding core_change applicator_change assertion_change percent_decode
name = refl

-- a name that `$anchor` can't have is spelled so that it can
spelled_name : BecomesAll Draft04 ((codes "id", text (codes "#n%3A1 a")) ∷ [])
    ((codes "$anchor", text (codes "_-n-3A1-20a")) ∷ (codes "$schema", schema_uri) ∷ [])
unfolding core_change applicator_change assertion_change percent_decode
spelled_name = refl

anchor_with_colon : BecomesAll Draft2019 ((codes "$anchor", text (codes "n:1")) ∷ [])
    ((codes "$anchor", text (codes "_-n-3A1")) ∷ (codes "$schema", schema_uri) ∷ [])
unfolding core_change applicator_change assertion_change
anchor_with_colon = refl

-- what isn't a name in 2019-09 stays
no_anchor : BecomesAll Draft2019 ((codes "$anchor", text (codes "1 a")) ∷ [])
    ((codes "$anchor", text (codes "1 a")) ∷ (codes "$schema", schema_uri) ∷ [])
unfolding core_change applicator_change assertion_change
no_anchor = refl

uri_and_name : BecomesAll Draft06 ((codes "$id", text (codes "a.json#n")) ∷ [])
    ((codes "$anchor", text (codes "n")) ∷ (codes "$id", text (codes "a.json")) ∷ (codes "$schema", schema_uri) ∷ [])
unfolding core_change applicator_change assertion_change percent_decode
uri_and_name = refl

no_name : Becomes Draft07 ((codes "$id", text (codes "#/a")) ∷ []) []
unfolding core_change applicator_change assertion_change
no_name = refl

own_document : Becomes Draft04 ((codes "id", text (codes "#")) ∷ []) []
unfolding core_change applicator_change assertion_change
own_document = refl

no_identifier_in_04 : Becomes Draft04 ((codes "$id", text (codes "a.json")) ∷ []) []
unfolding core_change applicator_change assertion_change
no_identifier_in_04 = refl

id_in_07 : BecomesAll Draft07 ((codes "id", text (codes "a.json")) ∷ [])
    ((codes "$schema", schema_uri) ∷ (codes "id", text (codes "a.json")) ∷ [])
unfolding core_change applicator_change assertion_change
id_in_07 = refl

identifier_in_2019 : BecomesAll Draft2019 ((codes "$id", text (codes "a.json#")) ∷ [])
    ((codes "$id", text (codes "a.json#")) ∷ (codes "$schema", schema_uri) ∷ [])
unfolding core_change applicator_change assertion_change
identifier_in_2019 = refl

-- ---- items

list_of_items : Becomes Draft07 ((codes "additionalItems", truth false) ∷ (codes "items", arr (is_null ∷ [])) ∷ [])
    ((codes "items", truth false) ∷ (codes "prefixItems", arr (is_null ∷ [])) ∷ [])
unfolding core_change applicator_change assertion_change
list_of_items = refl

empty_list : Becomes Draft07 ((codes "additionalItems", is_null) ∷ (codes "items", arr []) ∷ [])
    ((codes "items", is_null) ∷ [])
unfolding core_change applicator_change assertion_change
empty_list = refl

no_list : Becomes Draft2019 ((codes "additionalItems", is_null) ∷ []) []
unfolding core_change applicator_change assertion_change
no_list = refl

-- ---- references and definitions

siblings : BecomesAll Draft07
    ((codes "$ref", text (codes "x.json")) ∷ (codes "definitions", obj ((codes "a", is_null) ∷ []))
    ∷ (codes "maximum", num 1) ∷ (codes "title", text (codes "t")) ∷ [])
    ((codes "$defs", obj ((codes "a", is_null) ∷ [])) ∷ (codes "$ref", text (codes "x.json"))
    ∷ (codes "$schema", schema_uri) ∷ (codes "title", text (codes "t")) ∷ [])
unfolding core_change applicator_change assertion_change
siblings = refl

siblings_in_2019 : BecomesAll Draft2019 ((codes "$ref", text (codes "#/$defs/n")) ∷ (codes "maximum", num 5) ∷ [])
    ((codes "$ref", text (codes "#/$defs/n")) ∷ (codes "$schema", schema_uri) ∷ (codes "maximum", num 5) ∷ [])
unfolding core_change applicator_change assertion_change
siblings_in_2019 = refl

-- ---- dependencies

dependencies : Becomes Draft07 ((
  codes "dependencies",
  obj ((codes "a", arr (text (codes "b") ∷ text (codes "b") ∷ []))
      ∷ (codes "c", obj ((codes "const", num 1) ∷ [])) ∷ []),
) ∷ [])
    ((codes "dependentRequired", obj ((codes "a", arr (text (codes "b") ∷ [])) ∷ []))
    ∷ (codes "dependentSchemas", obj ((codes "c", obj ((codes "const", num 1) ∷ [])) ∷ [])) ∷ [])
unfolding core_change applicator_change assertion_change
dependencies = refl

-- ---- draft-03

types : Becomes Draft03 ((codes "type", arr (text (codes "string") ∷ is_null ∷ [])) ∷ [])
    ((codes "anyOf", arr (is_string ∷ is_null ∷ [])) ∷ [])
unfolding core_change applicator_change assertion_change is_simple_type
types = refl

unknown_type : Becomes Draft03 ((codes "type", arr (text (codes "string") ∷ text (codes "color") ∷ [])) ∷ []) []
unfolding core_change applicator_change assertion_change is_simple_type
unknown_type = refl

repeated_type : Becomes Draft03 ((codes "type", arr (text (codes "string") ∷ text (codes "string") ∷ [])) ∷ [])
    ((codes "anyOf", arr (is_string ∷ is_string ∷ [])) ∷ [])
unfolding core_change applicator_change assertion_change is_simple_type
repeated_type = refl

no_type : Becomes Draft03 ((codes "type", arr []) ∷ []) ((codes "anyOf", arr (truth false ∷ [])) ∷ [])
unfolding core_change applicator_change assertion_change is_simple_type
no_type = refl

disallow_any : Becomes Draft03 ((codes "disallow", text (codes "any")) ∷ []) ((codes "not", obj []) ∷ [])
unfolding core_change applicator_change assertion_change is_simple_type
disallow_any = refl

extends_one : Becomes Draft03 ((codes "divisibleBy", num 2) ∷ (codes "extends", is_null) ∷ [])
    ((codes "allOf", arr (is_null ∷ [])) ∷ (codes "multipleOf", num 2) ∷ [])
unfolding core_change applicator_change assertion_change is_simple_type
extends_one = refl

required_members : Becomes Draft03 ((
  codes "properties",
  obj ((codes "a", obj ((codes "required", truth true) ∷ []))
      ∷ (codes "b", is_string) ∷ []),
) ∷ (codes "required", truth true) ∷ [])
    ((codes "properties", obj ((codes "a", obj []) ∷ (codes "b", is_string) ∷ []))
    ∷ (codes "required", arr (text (codes "a") ∷ [])) ∷ [])
unfolding core_change applicator_change assertion_change is_simple_type
required_members = refl

-- ---- an embedded document

abbrev pub names_04 : Value
names_04 = text (codes "http://json-schema.org/draft-04/schema#")

abbrev of_04 : Value
of_04 = obj ((codes "$schema", names_04) ∷ (codes "const", num 9) ∷ (codes "exclusiveMinimum", truth true)
    ∷ (codes "id", text (codes "https://o.example/a")) ∷ (codes "minimum", num 3) ∷ [])

abbrev of_2020 : Value
of_2020 = obj ((codes "$id", text (codes "https://o.example/a")) ∷ (codes "exclusiveMinimum", num 3) ∷ [])

embedded : BecomesAll Draft07 ((codes "definitions", obj ((codes "a", of_04) ∷ [])) ∷ [])
    ((codes "$defs", obj ((codes "a", of_2020) ∷ [])) ∷ (codes "$schema", schema_uri) ∷ [])
unfolding core_change applicator_change assertion_change version_named
embedded = refl

abbrev without_identifier : Value
without_identifier = obj ((codes "$schema", names_04) ∷ (codes "const", num 1) ∷ [])

abbrev constant : Value
constant = obj ((codes "const", num 1) ∷ [])

no_identifier : Becomes Draft07 ((codes "properties", obj ((codes "p", without_identifier) ∷ [])) ∷ [])
    ((codes "properties", obj ((codes "p", constant) ∷ [])) ∷ [])
unfolding core_change applicator_change assertion_change version_named
no_identifier = refl
