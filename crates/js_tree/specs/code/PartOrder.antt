-- An order of what rows add to instance locations: in it the items of an array ascend by index, and members by the
-- bytes of their names (of private functions).
use Rattle.std.specs.Prelude.{ℕ, zero, suc, Bool, true, ◌&&◌, List, drop, nat_lt}
use Rattle.std.specs.Cmp.Lexicographic.{slice_cmp}
use Rattle.std.specs.List.{prefix_len}
use Rattle.std.specs.Ordering.{is_lt, nat_cmp, ordering_then}
use Rattle.std.specs.declared.cmp.Ordering.{Ordering}
use Rattle.js_tree.specs.Forest.{Forest, empty, tree}
use Rattle.js_tree.specs.OutputUnit.{OutputUnit}
use Rattle.js_tree.specs.code.Differing.{none_there, siblings_differ}

abbrev pub is_digit : ℕ → Bool
is_digit b = nat_lt 47 b && nat_lt b 58

-- of a number of digits; none rank behind all indexes
abbrev pub rank_of : ℕ → ℕ
rank_of zero = 100
rank_of (suc digits) = suc digits

-- how many digits stand behind the slash
abbrev pub part_rank : List ℕ → ℕ
part_rank part = rank_of (prefix_len is_digit (drop 1 part))

-- by rank, and then by bytes
abbrev pub part_order : ℕ × List ℕ → ℕ × List ℕ → Ordering
part_order p q = ordering_then (nat_cmp p.0 q.0) (slice_cmp nat_cmp p.1 q.1)

-- a unit's rank and what it adds
abbrev pub ranked : OutputUnit → ℕ × List ℕ
ranked u = (part_rank u.instance, u.instance)

-- the trees' roots ascend, all of them behind this
abbrev pub ascend_behind : ℕ × List ℕ → Forest OutputUnit → Bool
ascend_behind p empty = true
ascend_behind p (tree u below after) = is_lt (part_order p (ranked u)) && ascend_behind (ranked u) after

-- no two of the trees' roots stand at the same places
abbrev pub roots_differ : Forest OutputUnit → Bool
roots_differ empty = true
roots_differ (tree u below after) = none_there u after && roots_differ after

-- no two siblings below one of the trees' roots do
abbrev pub differ_below : Forest OutputUnit → Bool
differ_below empty = true
differ_below (tree u below after) = siblings_differ below && differ_below after
