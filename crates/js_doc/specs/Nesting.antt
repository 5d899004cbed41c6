-- How deep a value nests: a value that holds no other nests 0 deep.
use Rattle.std.specs.Prelude.{ℕ, suc, max}
use Rattle.js_doc.specs.Value.{Value, list, object, Items, no_items, item, Members, no_members}
use Rattle.js_doc.specs.Value.{member, Values, Named, items, members}

abbrev mutual
  pub depth : Value → ℕ
  depth (list vs) = suc (items_depth vs)
  depth (object ms) = suc (members_depth ms)
  depth _ = 0

  pub items_depth : Items → ℕ
  items_depth no_items = 0
  items_depth (item v vs) = max (depth v) (items_depth vs)

  pub members_depth : Members → ℕ
  members_depth no_members = 0
  members_depth (member k v ms) = max (depth v) (members_depth ms)

abbrev pub values_depth : Values → ℕ
values_depth vs = items_depth (items vs)

abbrev pub named_depth : Named → ℕ
named_depth ms = members_depth (members ms)
