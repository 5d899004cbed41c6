use Rattle.std.proofs.Common.{◌≡◌, ◌+◌, ◌*◌, map, drop}
use Rattle.js_doc.specs.Nesting.{depth}
use Rattle.js_doc.specs.Value.{list, object, items, members}
use Rattle.js_doc.specs.Seen.{value_of, pair_of}
use Rattle.js_upgrade.specs.Copies.{items_copied, members_copied}
use Rattle.js_upgrade.specs.code.Table.{all_of}
use Rattle.js_upgrade.proofs.Loops.{IsSplit}
use Rattle.js_upgrade.proofs.copies.+copies.Given as goal

abbrev pub decreases-copy_all : goal.decreases-copy_all
decreases-copy_all l = 5 * depth (value_of l.value.now) + 3

abbrev pub decreases-copy_in_object : goal.decreases-copy_in_object
decreases-copy_in_object l = 5 * depth (object (members l.siblings.now)) + 2

abbrev pub decreases-copy_below : goal.decreases-copy_below
decreases-copy_below l = 5 * depth (object (members l.siblings.now)) + 1

abbrev pub decreases-copy_in_members : goal.decreases-copy_in_members
decreases-copy_in_members l = 5 * depth (object (members l.siblings.now))

abbrev pub decreases-copy_in_items : goal.decreases-copy_in_items
decreases-copy_in_items l = 5 * depth (list (items l.values.now))

-- those left decide
abbrev pub invariant-copy_in_members-loop-value : goal.invariant-copy_in_members-loop-value
invariant-copy_in_members-loop-value l =
    let entries = l.initial.value-iterator in
    let roots = all_of l.scope.resources.now in
    let base = l.scope.base.now in
    IsSplit entries l.value-iterator
    × (members_copied roots l.dialect base (members (map pair_of l.value-iterator)) l.copies.items
    ≡ members_copied roots l.dialect base (members (map pair_of entries)) l.initial.copies.items)

abbrev pub invariant-copy_in_items-loop-i : goal.invariant-copy_in_items-loop-i
invariant-copy_in_items-loop-i l =
    let roots = all_of l.scope.resources.now in
    let base = l.scope.base.now in
    items_copied roots l.dialect base (items (map value_of (drop l.i l.docs))) l.copies.items
    ≡ items_copied roots l.dialect base (items (map value_of l.docs)) l.initial.copies.items
