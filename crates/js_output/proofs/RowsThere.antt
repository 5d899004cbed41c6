-- The rows that a format is written from: those of the result of the walk, or of what is left of it.
use Rattle.std.proofs.Common.{◌≡◌, ℕ, true, Option, subst}
use Rattle.js_doc.specs.Value.{Value}
use Rattle.js_tree.specs.Rows.RelativeState.{AreRowsOf}
use Rattle.js_tree.specs.Result.{ResultTree, kept, pruned}
use Rattle.js_tree.specs.Trimmed.{trimmed_tree}
use Rattle.js_tree.specs.declared.rows.relative_rows.RelativeRows.{RelativeRows}
use Rattle.js_tree.proofs.Trimming.{same_kept}
use Rattle.js_bundle.specs.Document.{Documents}
use Rattle.js_bundle.specs.Resource.{Site}
use Rattle.js_bundle.specs.Schemas.{is_place, place_at}
use Rattle.js_eval.specs.Result.{IsWithinLimits}
use Rattle.js_eval.specs.declared.evaluation.limits.Limits.{Limits}
use Rattle.js_eval.specs.Walked as walked
use Rattle.js_output.specs.Outcome.{IsResultOf}
use Rattle.js_output.proofs.Sites.{result-there}

-- the rows are those of this tree of the result within the limits
abbrev pub AreRowsBy : (ResultTree → ResultTree) → Limits → Documents → Option Site → Value → RelativeRows → Type 0
AreRowsBy tree limits docs entry v rows = (t : ResultTree) × IsResultOf docs entry v t × IsWithinLimits limits t
    × AreRowsOf rows (tree t)

module _ (limits : Limits) (docs : Documents) (n : ℕ) (v : Value) (there : is_place docs n ≡ true)
    (rows : RelativeRows) where
  pub all_there : walked.AreResultRows limits docs n v rows → AreRowsBy (λ t. t) limits docs (place_at docs n) v rows
  all_there (t, within, are) = (t, result-there docs n v there t within.is, within.stands, are)

  pub noted_there : walked.AreNotedRows limits docs n v rows
      → AreRowsBy trimmed_tree limits docs (place_at docs n) v rows
  noted_there (t, within, are) = (t, result-there docs n v there t within.is, within.stands, are)

  -- what condensing keeps of them
  pub kept_there : (left : RelativeRows) → ((t : ResultTree) → AreRowsOf rows t → AreRowsOf left (kept (pruned t)))
      → walked.AreNotedRows limits docs n v rows
      → AreRowsBy (λ t. kept (pruned t)) limits docs (place_at docs n) v left
  kept_there left keeps (t, within, are) = (
    t,
    result-there docs n v there t within.is,
    within.stands,
    subst (AreRowsOf left) (same_kept t)
        (keeps (trimmed_tree t) are),
  )
