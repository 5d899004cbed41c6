-- What is ready to be written of a result, for each format.
use Rattle.std.specs.Prelude.{◌≡◌, Bool, Option}
pub use Rattle.js_doc.specs.Value.{Value}
pub use Rattle.js_tree.specs.Form.{form}
pub use Rattle.js_tree.specs.Result.{ResultTree, kept, pruned}
pub use Rattle.js_tree.specs.declared.formats.Format.TheVariants.{Merged}
pub use Rattle.js_tree.specs.Rows.RelativeState.{AreRowsOf}
use Rattle.js_tree.specs.Form.{flag, verbose}
use Rattle.js_tree.specs.Rows.Locations.{HasRoomFor}
use Rattle.js_tree.specs.declared.formats.Format.{Format}
use Rattle.js_tree.specs.declared.formats.Format.TheVariants.{Basic}
use Rattle.js_bundle.specs.Document as bundle
use Rattle.js_bundle.specs.Resource.{Site}
use Rattle.js_eval.specs.Result.{IsWithinLimits}
use Rattle.js_eval.specs.declared.evaluation.limits.Limits.{Limits}
use Rattle.js_output.specs.Outcome.{IsResultOf}
use Rattle.js_output.specs.declared.prepared.Prepared.{Prepared}
use Rattle.js_output.specs.declared.prepared.Prepared.TheVariants as prepared

-- what is written of a tree's rows: basic lists the noted units, the others show all nodes
abbrev pub rows_form : Format → ResultTree → Value
rows_form Basic t = form Basic t
rows_form _ t = verbose t

-- it has this verdict, and what is written is this form
abbrev pub IsPrepared : Prepared → Bool → Value → Type 0
IsPrepared (prepared.Verdict v) valid value = (v ≡ valid) × (flag v ≡ value)
IsPrepared (prepared.Rows format rows locations) valid value =
    (t : ResultTree) × AreRowsOf rows t × HasRoomFor locations rows × (t.root.valid ≡ valid)
    × (rows_form format t ≡ value)
IsPrepared (prepared.Tree t) valid value = (t.root.valid ≡ valid) × (verbose t ≡ value)

abbrev pub ArePrepared : Prepared → Type 0
ArePrepared s = (valid : Bool) × (value : Value) × IsPrepared s valid value

-- it is what the format shows of the result within the limits
abbrev pub IsPreparedFor : Limits → bundle.Documents → Option Site → Value → Format → Prepared → Type 0
IsPreparedFor limits documents entry v format s =
    (t : ResultTree) × IsResultOf documents entry v t × IsWithinLimits limits t
    × IsPrepared s t.root.valid (form format t)
