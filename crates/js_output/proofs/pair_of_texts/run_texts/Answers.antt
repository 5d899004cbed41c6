use Rattle.std.proofs.Common.{[], ◌∷◌}
use Rattle.std.proofs.lemmas.Result.{err_from_is_err_and}
use Rattle.js_eval.specs.Result.{standard_limits}
use Rattle.js_tree.specs.declared.formats.Format.TheVariants.{Flag}
use Rattle.js_output.specs.Documents.{DocumentTexts, bundle_of, documents_causes}
use Rattle.js_output.specs.Entry.{entry_causes, entry_place}
use Rattle.js_output.specs.Outcome.{beginning_causes, FinishedOutcome, InstanceOutcome, OutcomeOfTexts, output_report}
use Rattle.js_output.specs.Outcome.{pair_uri}
use Rattle.js_output.proofs.Answering.{reports-early, reports-map}
use Rattle.js_output.proofs.CauseLists.{fails-append}
use Rattle.js_output.proofs.FinishedSchemas.{outcome_over}
use Rattle.js_output.proofs.pair_of_texts.run_texts.Goals as goal

pub returns-in_err-schemas-clause-answer : goal.returns-in_err-schemas-clause-answer
returns-in_err-schemas-clause-answer g c =
    let p = err_from_is_err_and c.from_residual.result c.from_residual.ensures.1 in
    let docs : DocumentTexts = (pair_uri, c.args.document.now) ∷ [] in
    let e = c.in_err-schemas.field-0.0 in
    rw (p.1, p.2) (reports-early output_report g.W.Write.contents c.args.out.now c.args.out.now
    (beginning_causes docs pair_uri)
    (InstanceOutcome (bundle_of docs) (entry_place (bundle_of docs) pair_uri) Flag c.args.instance.now) e
    (fails-append (documents_causes docs) (entry_causes (bundle_of docs) pair_uri) e c.in_err-schemas.ensures.err))

pub returns-clause-answer : goal.returns-clause-answer
returns-clause-answer g c =
    let docs : DocumentTexts = (pair_uri, c.args.document.now) ∷ [] in
    let schemas = c.in_ok-schemas.schemas in
    let instance = c.args.instance.now in
    reports-map output_report g.W.Write.contents c.args.out.now c.run_text.new.out
    (FinishedOutcome schemas pair_uri Flag instance) (OutcomeOfTexts c.args.document.now instance) c.run_text.result
    (λ outcome. outcome_over standard_limits docs pair_uri Flag instance outcome schemas
    c.in_ok-schemas.ensures.ok c.in_ok-schemas.ensures.clear) c.run_text.ensures.answer
