use Rattle.std.proofs.Common.{◌≡◌, ◌≤◌, Ok, List, ◌++◌, length, vec_capacity}
use Rattle.serde_json.specs.View.{items_view, members_view}
use Rattle.serde_json.specs.declared.value.Value.{Value}
use Rattle.js_doc.specs.Value.{members}
use Rattle.js_doc.specs.Seen.{items_seen}
use Rattle.js_doc.specs.WholeNumbers.{items_in, members_in}
use Rattle.js_doc.proofs.Finding.{Entry}
use Rattle.js_doc.proofs.conversion.+convert.Given as goal

abbrev pub invariant-convert_items-loop-value : goal.invariant-convert_items-loop-value
invariant-convert_items-loop-value l =
    (done : List Value) × (l.fn.values.items ≡ done ++ l.value-iterator.rest.items)
    × (items_in 0 (items_view done) ≡ Ok (items_seen l.docs.items)) × (length l.docs.items ≡ length done)
    × (length l.fn.values.items ≤ vec_capacity l.docs)

abbrev pub invariant-convert_members-loop-name : goal.invariant-convert_members-loop-name
invariant-convert_members-loop-name l =
    (done : List Entry) × (l.fn.map.entries ≡ done ++ l.name-iterator)
    × (members_in (members_view done) ≡ Ok (members l.members))
