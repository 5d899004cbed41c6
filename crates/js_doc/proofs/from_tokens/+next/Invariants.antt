use Rattle.std.proofs.Common.{◌≡◌, ℕ, ◌+◌, ◌*◌, ◌≤◌, List, Ok, length}
use Rattle.json.specs.Json.{items, members, value, parse_map}
use Rattle.serde_json.specs.Data as tree
use Rattle.serde_json.specs.Read.{of_items, of_members, converted}
use Rattle.js_doc.specs.Seen.{items_seen}
use Rattle.js_doc.specs.Value as doc
use Rattle.js_doc.specs.WholeNumbers.{items_in, members_in}
use Rattle.js_doc.proofs.FromTokens.{before}
use Rattle.js_doc.proofs.from_tokens.+next.Given as goal

abbrev pub decreases-next_value : goal.decreases-next_value
decreases-next_value l = 2 * l.depth

abbrev pub decreases-next_items : goal.decreases-next_items
decreases-next_items l = 2 * l.depth + 1

abbrev pub decreases-next_members : goal.decreases-next_members
decreases-next_members l = 2 * l.depth + 1

-- some items were read, and the rest comes behind them
abbrev pub invariant-next_items-items : goal.invariant-next_items-items
invariant-next_items-items l =
    (n : ℕ) × (length l.reader ≤ n) × (length l.reader ≤ length l.initial.reader) × ((ds : List tree.Data)
    × (converted of_items (items (value l.depth) (length l.initial.reader) l.initial.reader)
    ≡ parse_map (before ds) (converted of_items (items (value l.depth) n l.reader)))
    × (items_in 0 (before ds tree.no_items) ≡ Ok (items_seen l.docs.items)))

abbrev pub decreases-next_items-items : goal.decreases-next_items-items
decreases-next_items-items l = length l.reader

-- some members were read, and the rest is put to them
abbrev pub invariant-next_members-members : goal.invariant-next_members-members
invariant-next_members-members l =
    (n : ℕ) × (length l.reader ≤ n) × (length l.reader ≤ length l.initial.reader) × ((ds : tree.Members)
    × (converted (λ found. of_members found tree.no_members)
    (members (value l.depth) (length l.initial.reader) l.initial.reader)
    ≡ converted (λ found. of_members found ds) (members (value l.depth) n l.reader))
    × (members_in ds ≡ Ok (doc.members l.found)))

abbrev pub decreases-next_members-members : goal.decreases-next_members-members
decreases-next_members-members l = length l.reader
