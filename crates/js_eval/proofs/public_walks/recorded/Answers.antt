use Rattle.js_tree.proofs.EventSequences.{passes-inside}
use Rattle.js_tree.specs.Events.{events}
use Rattle.js_tree.specs.declared.rows.relative_rows.RelativeRows.{RelativeRows}
use Rattle.js_eval.specs.code.Recorded.{AddsRow}
use Rattle.js_eval.specs.declared.reporters.recording.Recording.{Recording}
use Rattle.js_eval.proofs.public_walks.recorded.Goals as goal

pub returns-in-Ok : goal.returns-in-Ok
returns-in-Ok c =
    let h = c.in-Ok.ensures in
    let rows_of : Recording → RelativeRows = λ r. r.rows in
    let start : Recording = record { rows = c.args.rows; token = c.new.result } in
    record {
      result = h.result;
      is = h.is;
      stands = h.stands;
      verdict = h.verdict;
      passes = passes-inside rows_of AddsRow (events h.result) start c.walk_to-done.new.reporter h.passes;
    }
