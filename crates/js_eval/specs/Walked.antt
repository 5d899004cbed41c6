-- What a walk over finished schemas returns (JSON Schema Core, sections 12.3 and 12.4). A place is given by its number.
use Rattle.std.specs.Prelude.{◌≡◌, ℕ, Bool, []}
use Rattle.js_doc.specs.Value.{Value}
use Rattle.js_tree.specs.Events.{Event, Passes, events}
use Rattle.js_tree.specs.Rows.RelativeState.{AreRowsOf}
use Rattle.js_tree.specs.Trimmed.{trimmed_tree}
use Rattle.js_tree.specs.declared.rows.relative_rows.RelativeRows.{RelativeRows}
use Rattle.js_bundle.specs.Document.{Documents}
use Rattle.js_eval.specs.Bundle.{schemas_of}
use Rattle.js_eval.specs.Location.{at_root}
use Rattle.js_eval.specs.Result.{ResultTree, IsResult, IsWithinLimits}
use Rattle.js_eval.specs.declared.evaluation.limits.Limits.{Limits}
use Rattle.js_eval.specs.Sited.{numbered_site}
pub use Rattle.js_eval.specs.Fault.{OnTooLarge}

-- ---- v is evaluated at the place with this number

module _ (documents : Documents) (place : ℕ) (v : Value) where
  abbrev pub IsResultThere : ResultTree → Type 0
  IsResultThere t = IsResult (schemas_of documents) [] (numbered_site documents place) at_root v t

-- ---- with these limits

module _ (limits : Limits) (documents : Documents) (place : ℕ) (v : Value) where
  abbrev pub NoneStands : Type 0
  NoneStands = (t : ResultTree) → IsResultThere documents place v t → IsWithinLimits limits t → ⊥

  -- t is the result, and is within the limits
  pub record IsResultWithin (t : ResultTree) : Type 0 where
    pub is : IsResultThere documents place v t
    pub stands : IsWithinLimits limits t

  -- the result is within the limits, and this is its verdict
  pub record IsVerdict (valid : Bool) : Type 0 where
    pub result : ResultTree
    pub within : IsResultWithin result
    pub verdict : valid ≡ result.root.valid

  -- the result is within the limits, and the rows are those of its tree
  abbrev pub AreResultRows : RelativeRows → Type 0
  AreResultRows rows = (t : ResultTree) × IsResultWithin t × AreRowsOf rows t

  -- the result is within the limits, and the rows are those of its trimmed tree: without nodes that have no note and
  -- below which none is left
  abbrev pub AreNotedRows : RelativeRows → Type 0
  AreNotedRows rows = (t : ResultTree) × IsResultWithin t × AreRowsOf rows (trimmed_tree t)

  -- the result is within the limits, and its events lead from c to d, one after another
  pub record LeadsTo {C : Type 0} (takes : C → Event → C → Type 0) (c d : C) : Type 0 where
    pub result : ResultTree
    pub within : IsResultWithin result
    pub passes : Passes takes (events result) c d
