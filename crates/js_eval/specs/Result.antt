-- The result of evaluating an instance, as a predicate on a finished tree (JSON Schema Core, sections 12.3 and 12.4.4).
-- A schema's node has one child for each of its keywords, in their order; a keyword's node has one for each application
-- that it asks for, in their order.
use Rattle.std.specs.Prelude.{◌≡◌, ◌==◌, ℕ, suc, ◌≤◌, max, nat_lt, ◌||◌, if◌then◌else◌, List, [], ◌∷◌, ◌++◌, filter}
use Rattle.std.specs.Prelude.{Option, Some, None}
use Rattle.js_doc.specs.Pointer.{pointer_text}
use Rattle.js_doc.specs.Value.{Value}
use Rattle.js_tree.specs.Forest.{Forest, empty, tree, node_count}
use Rattle.js_tree.specs.Note.{Note}
pub use Rattle.js_tree.specs.OutputUnit.{OutputUnit}
pub use Rattle.js_tree.specs.Result.{ResultTree}
use Rattle.js_eval.specs.Applications.{Application}
use Rattle.js_eval.specs.Keywords.{Member, keywords}
use Rattle.js_keyword.specs.Keyword.{which_keyword}
use Rattle.js_eval.specs.Location.{Location, at_keyword_named, at_application}
use Rattle.js_eval.specs.Note.{keyword_note, schema_note}
use Rattle.js_eval.specs.SchemaSet.{SchemaSet}
use Rattle.js_eval.specs.Verdict.{within, siblings, matching, asks, passes, application_holds, Settled}
pub use Rattle.js_eval.specs.declared.evaluation.limits.Limits.{Limits}

-- ---- the units, by what is known within n

module _ {Place : Type 0} (S : SchemaSet Place) (n : ℕ) (above : List Place) (place : Place)
    (at : Location) (v : Value) where
  abbrev pub schema_unit : OutputUnit
  schema_unit = record {
    valid = (within S n).holds above place v;
    keyword = pointer_text at.keyword;
    absolute = S.absolute place None;
    instance = pointer_text at.instance;
    note = schema_note (S.schema place);
  }

  abbrev pub note_of_keyword : Member → Note
  note_of_keyword k =
      keyword_note (siblings S (within S n) above place v) v (matching S (within S n) above place v) k
      (asks S (within S n) above place v k)
      (filter (application_holds S (within S n) above place v) (asks S (within S n) above place v k))
      (passes S (within S n) above place v k) (which_keyword k.0)

  abbrev pub keyword_unit : Member → OutputUnit
  keyword_unit k = record {
    valid = passes S (within S n) above place v k;
    keyword = pointer_text (at_keyword_named at k.0).keyword;
    absolute = S.absolute place (Some k.0);
    instance = pointer_text at.instance;
    note = note_of_keyword k;
  }

-- ---- the tree, by what is known within n

module _ {Place : Type 0} (S : SchemaSet Place) (n : ℕ) where
  abbrev mutual
    -- these are the nodes of these keywords of a place, in order
    pub AreKeywordNodes : List Place → Place → Location → Value → List Member → Forest OutputUnit → Type 0
    AreKeywordNodes above place at v [] empty = Unit {0}
    AreKeywordNodes above place at v (k ∷ ks) (tree u below after) =
        (u ≡ keyword_unit S n above place at v k)
        × AreSchemaNodes (above ++ place ∷ []) (at_keyword_named at k.0) (asks S (within S n) above place v k) below
        × AreKeywordNodes above place at v ks after
    AreKeywordNodes above place at v _ _ = ⊥

    -- these are the nodes of these applications at the end of a path, in order
    pub AreSchemaNodes : List Place → Location → List (Application Place) → Forest OutputUnit → Type 0
    AreSchemaNodes above at [] empty = Unit {0}
    AreSchemaNodes above at (a ∷ apps) (tree u below after) =
        (u ≡ schema_unit S n above a.place (at_application at a) a.value)
        × AreKeywordNodes above a.place (at_application at a) a.value (keywords (S.schema a.place)) below
        × AreSchemaNodes above at apps after
    AreSchemaNodes above at _ _ = ⊥

  -- t is the node of the schema at a place, evaluated on a value
  abbrev pub IsNode : List Place → Place → Location → Value → ResultTree → Type 0
  IsNode above place at v t = (t.root ≡ schema_unit S n above place at v)
      × AreKeywordNodes above place at v (keywords (S.schema place)) t.below

-- t is the result of evaluating v at a place, at the end of these places
pub record IsResult {Place : Type 0} (S : SchemaSet Place) (above : List Place) (place : Place) (at : Location)
    (v : Value) (t : ResultTree) : Type 0 where
  pub bound : ℕ
  pub settled : Settled S bound above place v
  pub node : IsNode S bound above place at v t

-- ---- the limits: this project's own choice

abbrev mutual
  -- the largest number of schema nodes on a path down, below keywords and below schemas
  pub depth_below_schema : Forest OutputUnit → ℕ
  depth_below_schema empty = 0
  depth_below_schema (tree k below after) = max (depth_of_schemas below) (depth_below_schema after)

  pub depth_of_schemas : Forest OutputUnit → ℕ
  depth_of_schemas empty = 0
  depth_of_schemas (tree s below after) = max (suc (depth_below_schema below)) (depth_of_schemas after)

-- the largest number of schema nodes on a path from the root, the root included
abbrev pub depth : ResultTree → ℕ
depth t = suc (depth_below_schema t.below)

-- how many nodes the tree has
abbrev pub size : ResultTree → ℕ
size t = suc (node_count t.below)

pub record StandsWithin (deepest most : ℕ) (t : ResultTree) : Type 0 where
  pub deep : depth t ≤ deepest
  pub many : size t ≤ most

abbrev pub IsWithinLimits : Limits → ResultTree → Type 0
IsWithinLimits limits = StandsWithin limits.levels limits.nodes

abbrev pub most_levels : ℕ
most_levels = 512

abbrev pub most_nodes : ℕ
most_nodes = 1000000

abbrev pub standard_limits : Limits
standard_limits = record { levels = most_levels; nodes = most_nodes }

-- Those that may be set instead: at least one application, and neither number greater than the standard one.
abbrev pub limits_at_most : ℕ → ℕ → Option Limits
limits_at_most levels nodes =
    if levels == 0 || nat_lt most_levels levels || nat_lt most_nodes nodes then None
    else Some (record { levels = levels; nodes = nodes })

pub record AreAtMostStandard (limits : Limits) : Type 0 where
  pub levels : limits.levels ≤ most_levels
  pub nodes : limits.nodes ≤ most_nodes
