use Rattle.std.proofs.Common.{◌≡◌, ◌+◌, ◌*◌, ◌++◌, [], map, drop}
use Rattle.js_doc.specs.Nesting.{depth}
use Rattle.js_doc.specs.Value.{list, object, items, members}
use Rattle.js_doc.specs.Seen.{value_of, pair_of}
use Rattle.js_upgrade.specs.Reference.{as_it_is}
use Rattle.js_upgrade.specs.Schema.{gathered_members, one}
use Rattle.js_upgrade.specs.Upgrade.{becomes}
use Rattle.js_upgrade.specs.code.Placed.{items_placed, members_placed, scope_at}
use Rattle.js_upgrade.specs.declared.holding.SchemaHolding.TheVariants.{One}
use Rattle.js_upgrade.proofs.Loops.{IsSplit}
use Rattle.js_upgrade.proofs.Placing.{keywords_among}
use Rattle.js_upgrade.proofs.walking.+upgrade.Given as goal

abbrev pub decreases-placed : goal.decreases-placed
decreases-placed l = 5 * depth (value_of l.value.now) + 3

abbrev pub decreases-schema_placed : goal.decreases-schema_placed
decreases-schema_placed l = 5 * depth (object (members l.siblings.now)) + 2

abbrev pub decreases-schema_among : goal.decreases-schema_among
decreases-schema_among l = 5 * depth (object (members l.siblings.now)) + 1

abbrev pub decreases-keywords_placed : goal.decreases-keywords_placed
decreases-keywords_placed l = 5 * depth (object (members l.siblings.now))

abbrev pub decreases-argument_placed : goal.decreases-argument_placed
decreases-argument_placed l = 5 * depth (value_of l.argument.now) + 4

abbrev pub decreases-members_placed : goal.decreases-members_placed
decreases-members_placed l = 5 * depth (object (members l.schemas.now))

abbrev pub decreases-items_placed : goal.decreases-items_placed
decreases-items_placed l = 5 * depth (list (items l.schemas.now))

-- what there is and what the rest becomes make the whole
abbrev pub invariant-keywords_placed-loop-name : goal.invariant-keywords_placed-loop-name
invariant-keywords_placed-loop-name l =
    let entries = l.initial.name-iterator in
    let q = scope_at l.scope in
    IsSplit entries l.name-iterator
    × (gathered_members (becomes l.own l.siblings) (keywords_among l.own q l.siblings (members
    (map pair_of l.name-iterator))) l.keywords
    ≡ gathered_members (becomes l.own l.siblings) (keywords_among l.own q l.siblings (members
    (map pair_of entries))) [])

abbrev pub invariant-members_placed-loop-name : goal.invariant-members_placed-loop-name
invariant-members_placed-loop-name l =
    let entries = l.initial.name-iterator in
    let q = scope_at l.scope in
    IsSplit entries l.name-iterator
    × (gathered_members one (members_placed (λ name. One) as_it_is l.dialect q (members (map pair_of l.name-iterator)))
    l.out
    ≡ gathered_members one (members_placed (λ name. One) as_it_is l.dialect q (members (map pair_of entries))) [])

abbrev pub invariant-items_placed-loop-i : goal.invariant-items_placed-loop-i
invariant-items_placed-loop-i l =
    let q = scope_at l.scope in
    map value_of l.out.items ++ items_placed l.dialect q (items (map value_of (drop l.i l.docs)))
    ≡ items_placed l.dialect q (items (map value_of l.docs))
