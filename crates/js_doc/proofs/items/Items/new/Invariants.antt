use Rattle.std.proofs.Common.{take}
use Rattle.js_doc.specs.Members.{NamesAscendInItems}
use Rattle.js_doc.specs.Short.{AreShortItems}
use Rattle.js_doc.specs.Seen.{items_seen}
use Rattle.js_doc.proofs.items.Items.new.Given as goal

abbrev pub invariant-loop-doc : goal.invariant-loop-doc
invariant-loop-doc l =
    NamesAscendInItems (items_seen (take l.doc-index l.doc-items))
    × AreShortItems (items_seen (take l.doc-index l.doc-items))
