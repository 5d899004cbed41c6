use Rattle.std.proofs.Common.{[], drop, false, map}
use Rattle.js_doc.specs.Compact.{compact_items}
use Rattle.js_doc.specs.Value.{items}
use Rattle.js_doc.proofs.BytesGone.{Wrote}
use Rattle.js_tree.specs.FlatState.{noted_of, row_of}
use Rattle.js_tree.specs.Form.{node_value}
use Rattle.js_tree.proofs.formats.flat_text.put_noted.Given as goal

abbrev pub invariant-loop-row : goal.invariant-loop-row
invariant-loop-row g l =
    Wrote (g.O.Out.progress l.fn.out) (g.O.Out.progress l.out)
    (compact_items l.later (items (map (λ u. node_value u []) (noted_of (map row_of (drop l.row-index l.rows))))))
    (compact_items false (items (map (λ u. node_value u []) (noted_of (map row_of l.rows)))))
