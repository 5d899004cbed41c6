-- Schemas and instances that show that the definitions say what was meant.
use Rattle.std.specs.Prelude.{ℕ, pos, List, [], ◌∷◌, Bool, true, false, option_and_then, unwrap_or, get_or, drop, codes}
use Rattle.js_doc.specs.PointerReading.{pointer_of}
use Rattle.js_doc.specs.Lookup.{at}
use Rattle.js_doc.specs.Value.{Value, null, truth, whole, text, list, object, items, members, Named}
use Rattle.js_doc.specs.Members.{get}
use Rattle.js_assert.specs.Argument.{entries, values}
use Rattle.js_tree.specs.Forest.{empty, tree}
use Rattle.js_eval.specs.Location.{at_root}
use Rattle.js_eval.specs.Note.{Note, silent, error, value}
use Rattle.js_eval.specs.Result.{OutputUnit, ResultTree, IsResult}
use Rattle.js_eval.specs.SchemaSet.{Text, SchemaSet, Step, Alone, Index, Name}
use Rattle.js_eval.specs.Verdict.{Settled, Succeeds, Fails}

-- ---- The schemas of one document. A place is given by the schema there, which is enough without `$id`. A reference is
-- `#` and a pointer.

abbrev pub subschema : Value → Step → Value
subschema argument Alone = argument
subschema argument (Index i) = get_or (values argument) i null
subschema argument (Name name) = unwrap_or (get name (entries argument)) null

abbrev pub argument_of : Text → Value → Value
argument_of keyword schema = unwrap_or (get keyword (entries schema)) null

abbrev pub named_by : Value → Value → Value
named_by root (text reference) = unwrap_or (option_and_then (λ p. at p root) (pointer_of (drop 1 reference))) null
named_by root _ = null

abbrev pub one_document : Value → SchemaSet Value
one_document root = record {
  schema = λ schema. schema;
  below = λ schema keyword step. subschema (argument_of keyword schema) step;
  target = λ schema. named_by root (argument_of (codes "$ref") schema);
  dynamic_target = λ path schema. named_by root (argument_of (codes "$dynamicRef") schema);
  absolute = λ schema keyword. [];
}

-- ---- short forms

abbrev pub obj : Named → Value
obj ms = object (members ms)

abbrev pub arr : List Value → Value
arr vs = list (items vs)

abbrev pub str : Text → Value
str s = text s

abbrev pub num : ℕ → Value
num n = whole (pos n)

abbrev pub only : Text → Value → Value
only name v = obj ((name, v) ∷ [])

-- `{"type": name}`
abbrev pub of_type : Text → Value
of_type name = only (codes "type") (str name)

module _ (schema : Value) (n : ℕ) (instance : Value) where
  abbrev pub Accepts : Type 0
  Accepts = Succeeds (one_document schema) n [] schema instance

  abbrev pub Refuses : Type 0
  Refuses = Fails (one_document schema) n [] schema instance

-- ---- a triangle of points

abbrev pub polygon : Value
polygon = obj ((
  codes "$defs",
  only (codes "point") (obj (
      (codes "additionalProperties", truth false)
      ∷ (codes "properties", obj ((codes "x", of_type (codes "integer")) ∷ (codes "y", of_type (codes "integer")) ∷ []))
      ∷ (codes "required", arr (str (codes "x") ∷ str (codes "y") ∷ []))
      ∷ (codes "type", str (codes "object")) ∷ [])),
)
    ∷ (codes "items", only (codes "$ref") (str (codes "#/$defs/point")))
    ∷ (codes "minItems", num 3)
    ∷ (codes "type", str (codes "array")) ∷ [])

abbrev pub point : Text → Text → Value
point a b = obj ((a, num 1) ∷ (b, num 2) ∷ [])

abbrev pub triangle : Value
triangle = arr (point (codes "x") (codes "y") ∷ point (codes "x") (codes "y") ∷ point (codes "x") (codes "y") ∷ [])

abbrev pub two_points : Value
two_points = arr (point (codes "x") (codes "y") ∷ point (codes "x") (codes "z") ∷ [])

-- ---- the keywords of the examples

abbrev pub not_of : Value → Value
not_of schema = only (codes "not") schema

-- `{"required": [name]}`
abbrev pub requires : Text → Value
requires name = only (codes "required") (arr (str name ∷ []))

-- `{"properties": {name: schema}}`
abbrev pub property : Text → Value → Value
property name schema = only (codes "properties") (only name schema)

-- an object of one member, and of two; each value is a number
abbrev pub with_one : Text → Value
with_one a = only a (num 1)

abbrev pub with_two : Text → Text → Value
with_two a b = obj ((a, num 1) ∷ (b, num 2) ∷ [])

-- ---- schemas

abbrev pub double_not : Value
double_not = not_of (not_of (only (codes "title") (str (codes "t"))))

abbrev pub unevaluated_after_any_of : Value
unevaluated_after_any_of = obj (
    (codes "anyOf", arr (property (codes "a") (of_type (codes "string")) ∷ property (codes "b") (truth true) ∷ []))
    ∷ (codes "unevaluatedProperties", truth false) ∷ [])

abbrev pub unevaluated_after_contains : Value
unevaluated_after_contains =
    obj ((codes "contains", of_type (codes "string")) ∷ (codes "unevaluatedItems", of_type (codes "integer")) ∷ [])

abbrev pub if_else_unevaluated : Value
if_else_unevaluated = obj (
    (codes "else", requires (codes "b"))
    ∷ (
      codes "if",
      obj ((codes "properties", only (codes "a") (only (codes "const") (num 1)))
          ∷ (codes "required", arr (str (codes "a") ∷ [])) ∷ []),
    )
    ∷ (codes "unevaluatedProperties", truth false) ∷ [])

abbrev pub then_alone : Value
then_alone = only (codes "then") (truth false)

abbrev pub endless_reference : Value
endless_reference = only (codes "$ref") (str (codes "#"))

abbrev pub any_of_and_maximum : Value
any_of_and_maximum = obj (
    (codes "anyOf", arr (of_type (codes "string") ∷ only (codes "minimum") (num 5) ∷ []))
    ∷ (codes "maximum", num 2) ∷ [])

abbrev pub failing_property : Value
failing_property = obj ((codes "properties", only (codes "a") (truth false))
    ∷ (codes "unevaluatedProperties", truth false) ∷ [])

abbrev pub one_of : Value
one_of = only (codes "oneOf") (arr (of_type (codes "integer") ∷ only (codes "minimum") (num 2) ∷ []))

abbrev pub contains_two_or_three : Value
contains_two_or_three = obj (
    (codes "contains", of_type (codes "integer")) ∷ (codes "maxContains", num 3) ∷ (codes "minContains", num 2) ∷ [])

abbrev pub contains_none : Value
contains_none = obj ((codes "contains", truth false) ∷ (codes "minContains", num 0) ∷ [])

abbrev pub evaluated_by_all_of : Value
evaluated_by_all_of = obj
    ((codes "allOf", arr (property (codes "a") (truth true) ∷ [])) ∷ (codes "unevaluatedProperties", truth false) ∷ [])

abbrev pub evaluated_below_not : Value
evaluated_below_not = obj (
    (codes "not", not_of (property (codes "a") (truth true))) ∷ (codes "unevaluatedProperties", truth false) ∷ [])

abbrev pub prefix_then_items : Value
prefix_then_items = obj ((codes "items", of_type (codes "string"))
    ∷ (codes "prefixItems", arr (of_type (codes "integer") ∷ [])) ∷ [])

abbrev pub prefix_then_unevaluated : Value
prefix_then_unevaluated =
    obj ((codes "prefixItems", arr (truth true ∷ [])) ∷ (codes "unevaluatedItems", truth false) ∷ [])

abbrev pub evaluated_by_unevaluated : Value
evaluated_by_unevaluated = obj (
    (codes "allOf", arr (only (codes "unevaluatedItems") (truth true) ∷ []))
    ∷ (codes "unevaluatedItems", truth false) ∷ [])

abbrev pub names_are_a : Value
names_are_a = only (codes "propertyNames") (only (codes "const") (str (codes "a")))

abbrev pub dependent : Value
dependent = only (codes "dependentSchemas") (only (codes "a") (requires (codes "b")))

-- ---- A tree whose nodes may be extended, and a strict one: two resources, in each of which `$dynamicAnchor` names the
-- root `node`. A place is given by its resource and its schema.

abbrev pub tree_schema : Value
tree_schema = obj (
    (codes "$dynamicAnchor", str (codes "node"))
    ∷ (
      codes "properties",
      obj ((
        codes "children",
        obj ((codes "items", only (codes "$dynamicRef") (str (codes "#node")))
            ∷ (codes "type", str (codes "array")) ∷ []),
      )
          ∷ (codes "data", truth true) ∷ []),
    )
    ∷ (codes "type", str (codes "object")) ∷ [])

abbrev pub strict_tree_schema : Value
strict_tree_schema = obj (
    (codes "$dynamicAnchor", str (codes "node"))
    ∷ (codes "$ref", str (codes "tree"))
    ∷ (codes "unevaluatedProperties", truth false) ∷ [])

pub data TreeResource : Type 0 where
  extensible : TreeResource
  strict : TreeResource

abbrev pub tree_root : TreeResource → TreeResource × Value
tree_root extensible = (extensible, tree_schema)
tree_root strict = (strict, strict_tree_schema)

-- the root of the resource of the first place of the path
abbrev pub first_root : List (TreeResource × Value) → TreeResource × Value
first_root [] = tree_root extensible
first_root (p ∷ ps) = tree_root p.0

abbrev pub trees : SchemaSet (TreeResource × Value)
trees = record {
  schema = λ p. p.1;
  below = λ p keyword step. (p.0, subschema (argument_of keyword p.1) step);
  target = λ p. tree_root extensible;
  dynamic_target = λ path p. first_root path;
  absolute = λ p keyword. [];
}

-- `{"children": [{"daat": 1}]}`
abbrev pub misspelled : Value
misspelled = only (codes "children") (arr (with_one (codes "daat") ∷ []))

-- ---- the result of `double_not` on 1

abbrev pub plain_unit : Bool → Text → Note → OutputUnit
plain_unit valid keyword note = record { valid = valid; keyword = keyword; absolute = []; instance = []; note = note }

abbrev pub double_not_result : ResultTree
double_not_result = record {
  root = plain_unit true [] silent;
  below =
      tree (plain_unit true (codes "/not") silent)
      (tree (plain_unit false (codes "/not") silent)
      (tree (plain_unit false (codes "/not/not") (error (codes "the subschema holds")))
      (tree (plain_unit true (codes "/not/not") silent)
      (tree (plain_unit true (codes "/not/not/title") (value (str (codes "t")))) empty empty)
      empty) empty) empty) empty;
}

-- ---- what the definitions say of them

pub record Shown : Type 0 where
  pub polygon_accepts : Accepts polygon 4 triangle
  pub polygon_refuses : Refuses polygon 4 two_points
  pub double_not_accepts : Accepts double_not 3 (num 1)
  -- the branch that fails evaluates nothing
  pub any_of_leaves_a : Refuses unevaluated_after_any_of 3 (with_two (codes "a") (codes "b"))
  -- an item that `contains` matches is evaluated
  pub contains_evaluates : Accepts unevaluated_after_contains 2 (arr (str (codes "x") ∷ num 1 ∷ []))
  pub contains_leaves_the_rest : Refuses unevaluated_after_contains 2 (arr (str (codes "x") ∷ null ∷ []))
  -- `else` depends on `if`, though its name comes before; what `if` evaluates counts if it holds
  pub if_holds : Accepts if_else_unevaluated 3 (with_one (codes "a"))
  pub if_fails : Refuses if_else_unevaluated 3 (with_one (codes "b"))
  pub then_without_if : Accepts then_alone 1 (num 0)
  pub endless_within_8 : Settled (one_document endless_reference) 8 [] endless_reference (num 0) → ⊥
  pub any_of_at_3 : Refuses any_of_and_maximum 2 (num 3)
  pub any_of_at_7 : Refuses any_of_and_maximum 2 (num 7)
  -- a failing keyword evaluates nothing, and its schema fails
  pub failing_property_fails : Refuses failing_property 2 (with_one (codes "a"))
  pub one_branch_holds : Accepts one_of 2 (num 1)
  pub two_branches_hold : Refuses one_of 2 (num 2)
  pub two_match : Accepts contains_two_or_three 2 (arr (num 1 ∷ str (codes "a") ∷ num 2 ∷ []))
  pub one_matches : Refuses contains_two_or_three 2 (arr (num 1 ∷ []))
  pub four_match : Refuses contains_two_or_three 2 (arr (num 1 ∷ num 2 ∷ num 3 ∷ num 4 ∷ []))
  pub none_need_match : Accepts contains_none 2 (arr [])
  pub all_of_evaluates : Accepts evaluated_by_all_of 3 (with_one (codes "a"))
  pub all_of_leaves_b : Refuses evaluated_by_all_of 3 (with_two (codes "a") (codes "b"))
  pub not_evaluates_nothing : Refuses evaluated_below_not 4 (with_one (codes "a"))
  pub items_follow_the_prefix : Accepts prefix_then_items 2 (arr (num 1 ∷ str (codes "a") ∷ []))
  pub items_refuse : Refuses prefix_then_items 2 (arr (num 1 ∷ num 2 ∷ []))
  pub prefix_evaluates : Accepts prefix_then_unevaluated 2 (arr (num 1 ∷ []))
  pub prefix_leaves_the_rest : Refuses prefix_then_unevaluated 2 (arr (num 1 ∷ num 2 ∷ []))
  pub unevaluated_evaluates : Accepts evaluated_by_unevaluated 3 (arr (num 1 ∷ []))
  pub name_is_a : Accepts names_are_a 2 (with_one (codes "a"))
  pub name_is_b : Refuses names_are_a 2 (with_one (codes "b"))
  pub dependent_refuses : Refuses dependent 2 (with_one (codes "a"))
  pub dependent_accepts : Accepts dependent 2 (with_one (codes "b"))
  pub tree_accepts : Succeeds trees 6 [] (tree_root extensible) misspelled
  pub strict_tree_refuses : Fails trees 6 [] (tree_root strict) misspelled
  pub double_not_gives : IsResult (one_document double_not) [] double_not at_root (num 1) double_not_result
