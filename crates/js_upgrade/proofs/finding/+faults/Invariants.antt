use Rattle.std.proofs.Common.{◌≡◌, ◌+◌, ◌*◌, map, drop}
use Rattle.js_doc.specs.Nesting.{depth}
use Rattle.js_doc.specs.Value.{list, object, items, members}
use Rattle.js_doc.specs.Seen.{value_of, pair_of}
use Rattle.js_upgrade.specs.Fault.{item_fault, member_fault}
use Rattle.js_upgrade.specs.code.Table.{all_of}
use Rattle.js_upgrade.specs.Upgrade.{holding_in}
use Rattle.js_upgrade.specs.declared.holding.SchemaHolding.TheVariants.{One}
use Rattle.js_upgrade.proofs.Loops.{IsSplit}
use Rattle.js_upgrade.proofs.finding.+faults.Given as goal

abbrev pub decreases-fault_in : goal.decreases-fault_in
decreases-fault_in l = 5 * depth (value_of l.value.now) + 3

abbrev pub decreases-fault_in_schema : goal.decreases-fault_in_schema
decreases-fault_in_schema l = 5 * depth (object (members l.siblings.now)) + 2

abbrev pub decreases-fault_below : goal.decreases-fault_below
decreases-fault_below l = 5 * depth (object (members l.siblings.now)) + 1

abbrev pub decreases-fault_in_keywords : goal.decreases-fault_in_keywords
decreases-fault_in_keywords l = 5 * depth (object (members l.siblings.now))

abbrev pub decreases-fault_in_members : goal.decreases-fault_in_members
decreases-fault_in_members l = 5 * depth (object (members l.schemas.now))

abbrev pub decreases-fault_in_items : goal.decreases-fault_in_items
decreases-fault_in_items l = 5 * depth (list (items l.schemas.now))

-- those left decide
abbrev pub invariant-fault_in_keywords-loop-name : goal.invariant-fault_in_keywords-loop-name
invariant-fault_in_keywords-loop-name l =
    let entries = l.initial.name-iterator in
    let all = all_of l.scope.resources.now in
    let held = holding_in l.dialect l.siblings in
    IsSplit entries l.name-iterator
    × (member_fault l.pass all held l.dialect l.scope.base.now (members (map pair_of l.name-iterator))
    ≡ member_fault l.pass all held l.dialect l.scope.base.now (members (map pair_of entries)))

abbrev pub invariant-fault_in_members-loop-name : goal.invariant-fault_in_members-loop-name
invariant-fault_in_members-loop-name l =
    let entries = l.initial.name-iterator in
    let all = all_of l.scope.resources.now in
    IsSplit entries l.name-iterator
    × (member_fault l.pass all (λ name. One) l.dialect l.scope.base.now (members (map pair_of l.name-iterator))
    ≡ member_fault l.pass all (λ name. One) l.dialect l.scope.base.now (members (map pair_of entries)))

abbrev pub invariant-fault_in_items-loop-i : goal.invariant-fault_in_items-loop-i
invariant-fault_in_items-loop-i l =
    let all = all_of l.scope.resources.now in
    item_fault l.pass all l.dialect l.scope.base.now l.i (items (map value_of (drop l.i l.docs)))
    ≡ item_fault l.pass all l.dialect l.scope.base.now 0 (items (map value_of l.docs))
