use Rattle.std.specs.Prelude.{[]}
use Rattle.js_doc.specs.Seen.{value_of}
use Rattle.js_tree.proofs.RowsOfTrees.TrimmedRowsCollected.{trimmed_held}
use Rattle.js_tree.specs.Rows.RelativeState.{AreTrimmedOf}
use Rattle.js_eval.specs.Bundle.{schemas_of}
use Rattle.js_eval.specs.Location.{at_root}
use Rattle.js_eval.specs.Sited.{numbered_site}
use Rattle.js_eval.proofs.Located.{result_is_located, root_is_at}
use Rattle.js_eval.proofs.Paths.{location_is}
use Rattle.js_eval.proofs.public_walks.walk_noted_rows_within.Goals as goal

pub returns-in_ok-put_root_back-in-Ok-clause-ok : goal.returns-in_ok-put_root_back-in-Ok-clause-ok
returns-in_ok-put_root_back-in-Ok-clause-ok c =
    let h = c.in-Ok.ensures in
    let schemas = c.args.schemas.now in
    let trimmed : AreTrimmedOf c.in-Ok.rows h.result = record {
      trimmed_are = trimmed_held h.result c.trimming.result c.in-Ok.rows c.trimming.ensures h.passes;
      located = result_is_located (schemas_of schemas) [] (numbered_site schemas c.args.place)
          (value_of c.args.value.now) at_root h.result h.is;
    } in
    let absolute = location_is schemas c.args.place c.in_ok-absolute-in-Ok.absolute.now
    c.in_ok-absolute-in-Ok.ensures in
    let root = root_is_at (schemas_of schemas) (numbered_site schemas c.args.place) (value_of c.args.value.now) h.result
    c.in_ok-absolute-in-Ok.absolute.now c.in-Ok.valid h.is absolute h.verdict in
    (h.result, record { is = h.is; stands = h.stands }, c.in_ok-put_root_back-in-Ok.ensures h.result trimmed root)
