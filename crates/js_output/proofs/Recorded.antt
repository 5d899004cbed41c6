-- A format says of the tree whose rows it is written from what it says of the whole one.
use Rattle.std.proofs.Common.{◌≡◌, ℕ, [], ◌∷◌, map, codes, Bool, true, Option, Result, IfOk, refl, sym, ap, subst}
use Rattle.std.proofs.lemmas.Result.{IfOk-weaker}
use Rattle.js_doc.specs.Value.{Value, truth, list, object, items, members}
use Rattle.js_bundle.specs.Document.{Documents}
use Rattle.js_bundle.specs.Resource.{Site}
use Rattle.js_bundle.specs.Schemas.{is_place, place_at}
use Rattle.js_eval.specs.declared.evaluation.limits.Limits.{Limits}
use Rattle.js_eval.specs.Walked.{AreNotedRows, AreResultRows, IsVerdict}
use Rattle.js_tree.specs.Rows.RelativeState.{AreRowsOf}
use Rattle.js_tree.specs.declared.rows.relative_rows.RelativeRows.{RelativeRows}
use Rattle.js_tree.specs.Form.{flag, form, list_name, node_value}
use Rattle.js_tree.specs.OutputUnit.{noted}
use Rattle.js_tree.specs.Result.{Normal, ResultTree, kept, pruned}
use Rattle.js_tree.specs.Trimmed.{trimmed_tree}
use Rattle.js_tree.specs.declared.formats.Format.{Format}
use Rattle.js_tree.specs.declared.formats.Format.TheVariants.{Flag, Basic, Detailed, Merged, Verbose}
use Rattle.js_tree.proofs.KeptTree.{kept_is_normal}
use Rattle.js_tree.proofs.Trimming.{same_units}
use Rattle.js_output.specs.code.Prepared.{IsPrepared, IsPreparedFor, rows_form}
use Rattle.js_output.specs.declared.fault.Fault.{Fault}
use Rattle.js_output.specs.declared.prepared.Prepared.{Prepared}
use Rattle.js_output.specs.declared.prepared.Prepared.TheVariants as prepared
use Rattle.js_output.proofs.RowsThere.{AreRowsBy, all_there, noted_there, kept_there}
use Rattle.js_output.proofs.Sites.{judged-there}

-- what is written of the rows of this tree of a result is the format's form of the result
abbrev HasForm : (ResultTree → ResultTree) → Format → Type 0
HasForm tree format = (t : ResultTree)
    → ((tree t).root.valid ≡ t.root.valid) × (rows_form format (tree t) ≡ form format t)

basic_form : HasForm trimmed_tree Basic
basic_form t = (
  refl,
  ap (λ us. object (members ((list_name t.root.valid, list (items (map (λ u. node_value u []) us)))
      ∷ (codes "valid", truth t.root.valid) ∷ []))) (same_units t),
)

detailed_form : HasForm (λ t. kept (pruned t)) Detailed
detailed_form t = (refl, refl)

verbose_form : HasForm (λ t. t) Verbose
verbose_form t = (refl, refl)

-- no rule of condensing is possible in what it leaves
pub kept_normal : (t : ResultTree) → Normal (kept (pruned t))
kept_normal t = kept_is_normal noted (pruned t).below

module _ (limits : Limits) (docs : Documents) (entry : Option Site) (v : Value) (rows : RelativeRows)
    (result : Result Prepared Fault) (tree : ResultTree → ResultTree) (format : Format)
    (there : AreRowsBy tree limits docs entry v rows) where
  -- what is prepared from such rows is what the format shows of the result
  shown : ((t : ResultTree) → AreRowsOf rows (tree t) → IfOk result (λ s. IsPrepared s t.root.valid (form format t)))
      → IfOk result (IsPreparedFor limits docs entry v format)
  shown reported =
      let (t, is, stands, are) = there in
      IfOk-weaker result (λ s. IsPrepared s t.root.valid (form format t)) (IsPreparedFor limits docs entry v format)
      (λ s h. (t, is, stands, h)) (reported t are)

  shown_of_rows : HasForm tree format
      → ((t : ResultTree) → AreRowsOf rows t → IfOk result (λ s. IsPrepared s t.root.valid (rows_form format t)))
      → IfOk result (IsPreparedFor limits docs entry v format)
  shown_of_rows has reported =
      shown (λ t are. subst (λ valid. IfOk result (λ s. IsPrepared s valid (form format t))) (has t).0
      (subst (λ value. IfOk result (λ s. IsPrepared s (tree t).root.valid value)) (has t).1 (reported (tree t) are)))

-- ---- what each format shows

module _ (limits : Limits) (docs : Documents) (n : ℕ) (v : Value) (there : is_place docs n ≡ true)
    (format : Format) where
  pub flag_shown : (valid : Bool) → format ≡ Flag → IsVerdict limits docs n v valid
      → IsPreparedFor limits docs (place_at docs n) v format (prepared.Verdict valid)
  flag_shown valid e h =
      let (t, is, stands, same) = judged-there limits docs n v there valid h in
      rw e (t, is, stands, (sym same, ap flag (sym same)))

  module _ (rows : RelativeRows) (result : Result Prepared Fault) (reported : (t : ResultTree) → AreRowsOf rows t
      → IfOk result (λ s. IsPrepared s t.root.valid (rows_form format t))) where
    pub basic_shown : format ≡ Basic → AreNotedRows limits docs n v rows
        → IfOk result (IsPreparedFor limits docs (place_at docs n) v format)
    basic_shown e are =
        shown_of_rows limits docs (place_at docs n) v rows result trimmed_tree format
        (noted_there limits docs n v there rows are)
        (subst (HasForm trimmed_tree) (sym e) basic_form) reported

    pub detailed_shown : (noted_rows : RelativeRows) → format ≡ Detailed → ((t : ResultTree) → AreRowsOf noted_rows t
        → AreRowsOf rows (kept (pruned t))) → AreNotedRows limits docs n v noted_rows
        → IfOk result (IsPreparedFor limits docs (place_at docs n) v format)
    detailed_shown noted_rows e keeps are =
        shown_of_rows limits docs (place_at docs n) v rows result (λ t. kept (pruned t)) format
        (kept_there limits docs n v there noted_rows rows keeps are)
        (subst (HasForm (λ t. kept (pruned t))) (sym e) detailed_form) reported

    pub verbose_shown : format ≡ Verbose → AreResultRows limits docs n v rows
        → IfOk result (IsPreparedFor limits docs (place_at docs n) v format)
    verbose_shown e are =
        shown_of_rows limits docs (place_at docs n) v rows result (λ t. t) format
        (all_there limits docs n v there rows are)
        (subst (HasForm (λ t. t)) (sym e) verbose_form) reported

  pub merged_shown : (noted_rows rows : RelativeRows) (result : Result Prepared Fault) → format ≡ Merged
      → ((t : ResultTree) → AreRowsOf noted_rows t → AreRowsOf rows (kept (pruned t)))
      → AreNotedRows limits docs n v noted_rows
      → ((t : ResultTree) → AreRowsOf rows (kept (pruned t))
      → IfOk result (λ s. IsPrepared s t.root.valid (form Merged t)))
      → IfOk result (IsPreparedFor limits docs (place_at docs n) v format)
  merged_shown noted_rows rows result e keeps are reported =
      rw e (shown limits docs (place_at docs n) v rows result (λ t. kept (pruned t)) Merged
      (kept_there limits docs n v there noted_rows rows keeps are) reported)
