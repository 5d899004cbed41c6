use Rattle.std.proofs.Common.{◌+◌, ◌*◌, map, drop}
use Rattle.js_doc.specs.Nesting.{depth}
use Rattle.js_doc.specs.Value.{list, object, items, members}
use Rattle.js_doc.specs.Seen.{value_of, pair_of}
use Rattle.js_upgrade.specs.Upgrade.{holding_in}
use Rattle.js_upgrade.specs.code.Clear.{AreClearItems, AreClearMembers}
use Rattle.js_upgrade.specs.code.Table.{all_of}
use Rattle.js_upgrade.specs.declared.holding.SchemaHolding.TheVariants.{One}
use Rattle.js_upgrade.proofs.Loops.{IsSplit}
use Rattle.js_upgrade.proofs.clear.+clear.Given as goal

abbrev pub decreases-is_clear : goal.decreases-is_clear
decreases-is_clear l = 5 * depth (value_of l.value.now) + 3

abbrev pub decreases-is_clear_schema : goal.decreases-is_clear_schema
decreases-is_clear_schema l = 5 * depth (object (members l.siblings.now)) + 2

abbrev pub decreases-is_clear_object : goal.decreases-is_clear_object
decreases-is_clear_object l = 5 * depth (object (members l.schemas.now)) + 2

abbrev pub decreases-are_clear_keywords : goal.decreases-are_clear_keywords
decreases-are_clear_keywords l = 5 * depth (object (members l.siblings.now))

abbrev pub decreases-are_clear_members : goal.decreases-are_clear_members
decreases-are_clear_members l = 5 * depth (object (members l.schemas.now))

abbrev pub decreases-are_clear_items : goal.decreases-are_clear_items
decreases-are_clear_items l = 5 * depth (list (items l.schemas.now))

-- those left decide
abbrev pub invariant-are_clear_keywords-loop-name : goal.invariant-are_clear_keywords-loop-name
invariant-are_clear_keywords-loop-name l =
    let entries = l.initial.name-iterator in
    let roots = all_of l.scopes.roots.resources.now in
    let all = all_of l.scopes.all.resources.now in
    let held = holding_in l.dialect l.siblings in
    IsSplit entries l.name-iterator
    × (AreClearMembers roots all held l.dialect l.scopes.all.base.now (members (map pair_of l.name-iterator))
    → AreClearMembers roots all held l.dialect l.scopes.all.base.now (members (map pair_of entries)))

abbrev pub invariant-are_clear_members-loop-schema : goal.invariant-are_clear_members-loop-schema
invariant-are_clear_members-loop-schema l =
    let entries = l.initial.schema-iterator in
    let roots = all_of l.scopes.roots.resources.now in
    let all = all_of l.scopes.all.resources.now in
    IsSplit entries l.schema-iterator
    × (AreClearMembers roots all (λ name. One) l.dialect l.scopes.all.base.now (members (map pair_of l.schema-iterator))
    → AreClearMembers roots all (λ name. One) l.dialect l.scopes.all.base.now (members (map pair_of entries)))

abbrev pub invariant-are_clear_items-loop-i : goal.invariant-are_clear_items-loop-i
invariant-are_clear_items-loop-i l =
    let roots = all_of l.scopes.roots.resources.now in
    let all = all_of l.scopes.all.resources.now in
    AreClearItems roots all l.dialect l.scopes.all.base.now l.i (items (map value_of (drop l.i l.docs)))
    → AreClearItems roots all l.dialect l.scopes.all.base.now 0 (items (map value_of l.docs))
