-- Parts of instance locations that ascend, and some that don't.
use Rattle.std.proofs.Common.{◌≡◌, ℕ, Bool, true, ◌&&◌, List, [], ◌∷◌, codes, refl}
use Rattle.std.specs.Ordering.{is_lt}
use Rattle.std.specs.declared.cmp.Ordering.{Ordering}
use Rattle.std.specs.declared.cmp.Ordering.TheVariants.{Equal, Greater}
use Rattle.js_tree.specs.code.PartOrder.{part_order, part_rank}

abbrev order : List ℕ → List ℕ → Ordering
order a b = part_order (part_rank a, a) (part_rank b, b)

-- each comes before the next
abbrev ascend : List (List ℕ) → Bool
ascend (a ∷ b ∷ others) = is_lt (order a b) && ascend (b ∷ others)
ascend parts = true

-- indexes ascend as numbers do
pub indexes : ascend (codes "/9" ∷ codes "/10" ∷ codes "/10/name" ∷ codes "/11/a" ∷ []) ≡ true
indexes = refl

pub index_back : order (codes "/10") (codes "/9/a") ≡ Greater
index_back = refl

-- names come behind them, by their bytes, whatever their lengths
pub names : ascend (codes "/2" ∷ codes "/a" ∷ codes "/a/10" ∷ codes "/bb" ∷ codes "/c" ∷ []) ≡ true
names = refl

-- a part and itself are in no order
pub same_name : order (codes "/a") (codes "/a") ≡ Equal
same_name = refl

pub nothing_added : order (codes "") (codes "") ≡ Equal
nothing_added = refl
