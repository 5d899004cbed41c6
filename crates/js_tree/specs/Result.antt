-- Result trees: trees whose labels are output units (JSON Schema Core, section 12.4.4), and this crate's definitions
-- for them.
use Rattle.std.specs.Prelude.{Bool, true, false, not, List, Option}
use Rattle.js_tree.specs.Alike.{same_but_keyword}
use Rattle.js_tree.specs.Forest.{Rose}
use Rattle.js_tree.specs.Rewrite.{NormalForest, RunBelow, RewriteBelow}
use Rattle.js_tree.specs.Kept.{kept_by}
use Rattle.js_tree.specs.Units.{units_by}
use Rattle.js_tree.specs.Pruned.{pruned_below}
use Rattle.js_tree.specs.Moves.{moved_by, replayed_by}
use Rattle.js_tree.specs.declared.reducing.moves.Move.{Move}
use Rattle.js_tree.specs.OutputUnit.{OutputUnit, noted}

abbrev pub ResultTree : Type 0
ResultTree = Rose OutputUnit

-- ---- the two condensing rules

abbrev pub Rewrite : ResultTree → ResultTree → Type 0
Rewrite = RewriteBelow noted

abbrev pub Run : ResultTree → ResultTree → Type 0
Run = RunBelow noted

abbrev pub Normal : ResultTree → Type 0
Normal t = NormalForest noted t.below

abbrev pub kept : ResultTree → ResultTree
kept = kept_by noted

-- ---- units

abbrev pub units : ResultTree → List OutputUnit
units = units_by noted

-- ---- pruning

-- whether the unit has this verdict
abbrev pub has_verdict : Bool → OutputUnit → Bool
has_verdict true u = u.valid
has_verdict false u = not u.valid

-- the nodes for which every node from the root down to them has the root's verdict
abbrev pub pruned : ResultTree → ResultTree
pruned t = record { root = t.root; below = pruned_below (has_verdict t.root.valid) t.below }

-- ---- moves

abbrev pub moved : Move → ResultTree → Option (ResultTree)
moved = moved_by noted same_but_keyword

abbrev pub replayed : List Move → ResultTree → Option (ResultTree)
replayed = replayed_by noted same_but_keyword
