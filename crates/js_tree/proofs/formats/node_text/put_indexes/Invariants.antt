use Rattle.std.proofs.Common.{◌++◌, drop, map, false, pos}
use Rattle.js_doc.specs.Compact.{compact_items}
use Rattle.js_doc.specs.Value.{items, whole}
use Rattle.js_doc.proofs.BytesGone.{Wrote}
use Rattle.js_tree.proofs.formats.node_text.put_indexes.Given as goal

abbrev pub invariant-loop-index : goal.invariant-loop-index
invariant-loop-index g l =
    Wrote (g.O.Out.progress l.fn.out) (g.O.Out.progress l.out)
    (compact_items l.later (items (map (λ index. whole (pos index)) (drop l.index-index l.indexes))))
    (l.start ++ compact_items false (items (map (λ index. whole (pos index)) l.indexes)))
