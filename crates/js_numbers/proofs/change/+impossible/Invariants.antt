use Rattle.std.proofs.Common.{◌≡◌, drop}
use Rattle.json.specs.Value.{items_view, members_view}
use Rattle.js_numbers.specs.Change.{has_impossible, has_impossible_member}
use Rattle.js_numbers.proofs.change.+impossible.Given as goal

-- the rest decides
abbrev pub invariant-has_impossible-loop-item : goal.invariant-has_impossible-loop-item
invariant-has_impossible-loop-item l =
    has_impossible (items_view (drop l.item-index l.item-items)) ≡ has_impossible (items_view l.item-items)

abbrev pub invariant-has_impossible_member-loop-member : goal.invariant-has_impossible_member-loop-member
invariant-has_impossible_member-loop-member l =
    has_impossible_member (members_view (drop l.member-index l.member-items))
    ≡ has_impossible_member (members_view l.member-items)
