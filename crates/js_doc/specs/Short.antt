-- No list in the value has 2^64 items: so each value that was read, as its lists are held in memory.
use Rattle.std.specs.Prelude.{ℕ, suc, ◌<◌, ◌^◌}
use Rattle.js_doc.specs.Value.{Value, list, object, Items, no_items, item, Members, no_members, member}

abbrev pub item_count : Items → ℕ
item_count no_items = 0
item_count (item v vs) = suc (item_count vs)

abbrev mutual
  pub IsShort : Value → Type 0
  IsShort (list vs) = (item_count vs < 2 ^ 64) × AreShortItems vs
  IsShort (object ms) = AreShortMembers ms
  IsShort _ = Unit {0}

  pub AreShortItems : Items → Type 0
  AreShortItems no_items = Unit {0}
  AreShortItems (item v vs) = IsShort v × AreShortItems vs

  pub AreShortMembers : Members → Type 0
  AreShortMembers no_members = Unit {0}
  AreShortMembers (member k v ms) = IsShort v × AreShortMembers ms
