-- What stands at a pointer in a value (RFC 6901, section 4).
use Rattle.std.specs.Prelude.{ℕ, ◌+◌, List, [], ◌∷◌, Bool, if◌then◌else◌, nat_eq, decimal}
use Rattle.std.specs.Prelude.{Option, Some, None, option_and_then}
use Rattle.std.specs.Cmp.Lexicographic.{pointwise}
use Rattle.js_doc.specs.Value.{Value, list, object, Items, no_items, item, Members, no_members, member}
use Rattle.js_doc.specs.Pointer.{Tokens}

abbrev pub is_text : List ℕ → List ℕ → Bool
is_text = pointwise nat_eq

-- the item whose index the token is, in plain decimals without a leading zero; the first has the index n
abbrev pub item_named : List ℕ → ℕ → Items → Option Value
item_named token n no_items = None
item_named token n (item v vs) = if is_text token (decimal n) then Some v else item_named token (n + 1) vs

-- the member whose name the token is
abbrev pub member_named : List ℕ → Members → Option Value
member_named token no_members = None
member_named token (member k v ms) = if is_text token k then Some v else member_named token ms

-- the item or member that the token names
abbrev pub part_named : List ℕ → Value → Option Value
part_named token (list vs) = item_named token 0 vs
part_named token (object ms) = member_named token ms
part_named token _ = None

abbrev pub at : Tokens → Value → Option Value
at [] v = Some v
at (token ∷ tokens) v = option_and_then (at tokens) (part_named token v)
