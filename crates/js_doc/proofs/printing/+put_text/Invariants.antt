use Rattle.std.proofs.Common.{◌∷◌, drop, false}
use Rattle.js_doc.specs.Seen.{items_seen, members_seen}
use Rattle.js_doc.specs.Compact.{compact_items, compact_members}
use Rattle.js_doc.proofs.BytesGone.{Wrote}
use Rattle.js_doc.proofs.printing.+put_text.Given as goal

abbrev pub invariant-put_items-loop-doc : goal.invariant-put_items-loop-doc
invariant-put_items-loop-doc g l =
    Wrote (g.O.Out.progress l.fn.out) (g.O.Out.progress l.out)
    (compact_items l.later (items_seen (drop l.doc-index l.docs))) (91 ∷ compact_items false (items_seen l.docs))

abbrev pub invariant-put_members-loop-name : goal.invariant-put_members-loop-name
invariant-put_members-loop-name g l =
    Wrote (g.O.Out.progress l.fn.out) (g.O.Out.progress l.out) (compact_members l.later
    (members_seen (drop l.name-index l.entries))) (123 ∷ compact_members false (members_seen l.entries))
