use Rattle.std.proofs.Common.{◌≡◌, ◌≤◌, map, take, length, vec_capacity}
use Rattle.js_doc.specs.Seen.{pair_of}
use Rattle.js_doc.proofs.copying.+copy.Given as goal

abbrev pub invariant-copy_items-loop-doc : goal.invariant-copy_items-loop-doc
invariant-copy_items-loop-doc l =
    (l.copies.items ≡ take l.doc-index l.docs) × (length l.docs ≤ vec_capacity l.copies)

abbrev pub invariant-copy_entries-loop-name : goal.invariant-copy_entries-loop-name
invariant-copy_entries-loop-name l =
    (map pair_of l.copies.items ≡ map pair_of (take l.name-index l.entries))
    × (length l.entries ≤ vec_capacity l.copies)
