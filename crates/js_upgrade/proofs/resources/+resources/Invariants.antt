use Rattle.std.proofs.Common.{◌≡◌, ◌+◌, ◌*◌, ◌++◌, map, drop}
use Rattle.js_doc.specs.Nesting.{depth}
use Rattle.js_doc.specs.Value.{list, object, items, members}
use Rattle.js_doc.specs.Seen.{value_of, pair_of}
use Rattle.js_upgrade.specs.Resource.{item_resources, member_resources}
use Rattle.js_upgrade.specs.Seen.{resource_seen}
use Rattle.js_upgrade.specs.Upgrade.{holding_in}
use Rattle.js_upgrade.specs.declared.holding.SchemaHolding.TheVariants.{One}
use Rattle.js_upgrade.proofs.Loops.{IsSplit}
use Rattle.js_upgrade.proofs.resources.+resources.Given as goal

abbrev pub decreases-push_resources : goal.decreases-push_resources
decreases-push_resources l = 5 * depth (value_of l.value.now) + 2

abbrev pub decreases-push_schema_resources : goal.decreases-push_schema_resources
decreases-push_schema_resources l = 5 * depth (object (members l.siblings.now)) + 1

abbrev pub decreases-push_keyword_resources : goal.decreases-push_keyword_resources
decreases-push_keyword_resources l = 5 * depth (object (members l.siblings.now))

abbrev pub decreases-push_member_resources : goal.decreases-push_member_resources
decreases-push_member_resources l = 5 * depth (object (members l.schemas.now))

abbrev pub decreases-push_item_resources : goal.decreases-push_item_resources
decreases-push_item_resources l = 5 * depth (list (items l.schemas.now))

-- what was found and what the rest has make the whole
abbrev pub invariant-push_keyword_resources-loop-name : goal.invariant-push_keyword_resources-loop-name
invariant-push_keyword_resources-loop-name l =
    let entries = l.initial.name-iterator in
    let held = holding_in l.dialect l.siblings in
    IsSplit entries l.name-iterator
    × (map resource_seen l.out.items
    ++ member_resources held l.dialect l.base (members (map pair_of l.name-iterator))
    ≡ map resource_seen l.initial.out.items
    ++ member_resources held l.dialect l.base (members (map pair_of entries)))

abbrev pub invariant-push_member_resources-loop-schema : goal.invariant-push_member_resources-loop-schema
invariant-push_member_resources-loop-schema l =
    let entries = l.initial.schema-iterator in
    IsSplit entries l.schema-iterator
    × (map resource_seen l.out.items
    ++ member_resources (λ name. One) l.dialect l.base (members (map pair_of l.schema-iterator))
    ≡ map resource_seen l.initial.out.items
    ++ member_resources (λ name. One) l.dialect l.base (members (map pair_of entries)))

abbrev pub invariant-push_item_resources-loop-i : goal.invariant-push_item_resources-loop-i
invariant-push_item_resources-loop-i l =
    map resource_seen l.out.items ++ item_resources l.dialect l.base (items (map value_of (drop l.i l.docs)))
    ≡ map resource_seen l.initial.out.items ++ item_resources l.dialect l.base (items (map value_of l.docs))
