use Rattle.std.proofs.Common.{◌++◌, drop, map, false}
use Rattle.js_doc.specs.Compact.{compact_items}
use Rattle.js_doc.specs.Value.{items, text}
use Rattle.js_doc.proofs.BytesGone.{Wrote}
use Rattle.js_tree.proofs.formats.node_text.put_names.Given as goal

abbrev pub invariant-loop-name : goal.invariant-loop-name
invariant-loop-name g l =
    Wrote (g.O.Out.progress l.fn.out) (g.O.Out.progress l.out)
    (compact_items l.later (items (map text (map (λ name. name.now) (drop l.name-index l.names)))))
    (l.start ++ compact_items false (items (map text (map (λ name. name.now) l.names))))
