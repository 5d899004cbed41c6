use Rattle.std.specs.Prelude.{[]}
use Rattle.js_doc.specs.Seen.{value_of}
use Rattle.js_tree.proofs.RowsOfTrees.RelativeRowsCollected.{relative_held}
use Rattle.js_eval.specs.Bundle.{schemas_of}
use Rattle.js_eval.specs.Location.{at_root}
use Rattle.js_eval.specs.Sited.{numbered_site}
use Rattle.js_eval.proofs.Located.{result_is_located}
use Rattle.js_eval.proofs.public_walks.walk_rows_within.Goals as goal

pub returns-in-Ok-clause-ok : goal.returns-in-Ok-clause-ok
returns-in-Ok-clause-ok c =
    let h = c.in-Ok.ensures in
    let schemas = c.args.schemas.now in (
      h.result,
      record { is = h.is; stands = h.stands },
      record {
        rows_are = relative_held h.result c.new.result c.in-Ok.rows c.new.ensures h.passes;
        located = result_is_located (schemas_of schemas) [] (numbered_site schemas c.args.place)
            (value_of c.args.value.now) at_root h.result h.is;
      },
    )
