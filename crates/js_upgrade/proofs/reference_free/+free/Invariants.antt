use Rattle.std.proofs.Common.{◌+◌, ◌*◌, map, drop}
use Rattle.js_doc.specs.Nesting.{depth}
use Rattle.js_doc.specs.Value.{list, object, items, members}
use Rattle.js_doc.specs.Seen.{value_of, pair_of}
use Rattle.js_upgrade.specs.code.ReferenceFree.{AreFreeItems, AreFreeMembers}
use Rattle.js_upgrade.proofs.Loops.{IsSplit}
use Rattle.js_upgrade.proofs.reference_free.+free.Given as goal

abbrev pub decreases-is_reference_free : goal.decreases-is_reference_free
decreases-is_reference_free l = 5 * depth (value_of l.value.now) + 3

abbrev pub decreases-is_free_object : goal.decreases-is_free_object
decreases-is_free_object l = 5 * depth (object (members l.siblings.now)) + 2

abbrev pub decreases-are_free_members : goal.decreases-are_free_members
decreases-are_free_members l = 5 * depth (object (members l.siblings.now))

abbrev pub decreases-are_free_items : goal.decreases-are_free_items
decreases-are_free_items l = 5 * depth (list (items l.values.now))

-- those left decide
abbrev pub invariant-are_free_members-loop-value : goal.invariant-are_free_members-loop-value
invariant-are_free_members-loop-value l =
    let entries = l.initial.value-iterator in
    IsSplit entries l.value-iterator
    × (AreFreeMembers (members (map pair_of l.value-iterator)) → AreFreeMembers (members (map pair_of entries)))

abbrev pub invariant-are_free_items-loop-i : goal.invariant-are_free_items-loop-i
invariant-are_free_items-loop-i l =
    AreFreeItems (items (map value_of (drop l.i l.docs))) → AreFreeItems (items (map value_of l.docs))
