-- The parts of a value: an array's items and an object's members (RFC 8259, sections 4 and 5).
use Rattle.std.specs.Prelude.{[], ◌∷◌}
use Rattle.js_doc.specs.Value.{Value, list, object, Items, no_items, item, Members, no_members, member, Values, Named}

abbrev pub item_list : Items → Values
item_list no_items = []
item_list (item v vs) = v ∷ item_list vs

abbrev pub member_list : Members → Named
member_list no_members = []
member_list (member name v ms) = (name, v) ∷ member_list ms

-- a value that is no array has no items
abbrev pub items_of : Value → Values
items_of (list vs) = item_list vs
items_of _ = []

-- a value that is no object has no members
abbrev pub members_of : Value → Named
members_of (object ms) = member_list ms
members_of _ = []
