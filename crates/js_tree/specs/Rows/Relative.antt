-- Trees each of whose nodes has only what its locations add to those of the node above (JSON Schema Core,
-- section 12.3: the keyword location and the instance location of a node begin with those of the node above).
use Rattle.std.specs.Prelude.{◌≡◌, ℕ, List, ◌++◌, drop, length}
use Rattle.json.specs.Print.{escape}
use Rattle.js_tree.specs.Forest.{Forest, empty, tree}
use Rattle.js_tree.specs.OutputUnit.{OutputUnit}
use Rattle.js_tree.specs.Result.{ResultTree}

-- a text begins with the other
abbrev pub BeginsWith : List ℕ → List ℕ → Type 0
BeginsWith text above = (added : List ℕ) × (text ≡ above ++ added)

-- the locations of each node begin with those of the node above; these are the locations above the trees
abbrev pub AreLocated : List ℕ → List ℕ → Forest OutputUnit → Type 0
AreLocated keyword instance empty = Unit {0}
AreLocated keyword instance (tree u below after) =
    BeginsWith u.keyword keyword × BeginsWith u.instance instance × AreLocated u.keyword u.instance below
    × AreLocated keyword instance after

abbrev pub IsLocated : ResultTree → Type 0
IsLocated t = AreLocated t.root.keyword t.root.instance t.below

-- ---- without what is known from above

-- the unit, without so much of its locations
abbrev pub relative_unit : ℕ → ℕ → OutputUnit → OutputUnit
relative_unit keyword instance u =
    record {
      valid = u.valid;
      keyword = drop keyword u.keyword;
      absolute = u.absolute;
      instance = drop instance u.instance;
      note = u.note;
    }

-- the trees, below a node whose locations are so long
abbrev pub relative : ℕ → ℕ → Forest OutputUnit → Forest OutputUnit
relative keyword instance empty = empty
relative keyword instance (tree u below after) =
    tree (relative_unit keyword instance u) (relative (length u.keyword) (length u.instance) below)
    (relative keyword instance after)

-- the root has its whole locations
abbrev pub relative_tree : ResultTree → ResultTree
relative_tree t = record { root = t.root; below = relative (length t.root.keyword) (length t.root.instance) t.below }

-- ---- and with it again

abbrev pub placed_unit : List ℕ → List ℕ → OutputUnit → OutputUnit
placed_unit keyword instance u =
    record {
      valid = u.valid;
      keyword = keyword ++ u.keyword;
      absolute = u.absolute;
      instance = instance ++ u.instance;
      note = u.note;
    }

-- the trees, below a node with these locations
abbrev pub placed : List ℕ → List ℕ → Forest OutputUnit → Forest OutputUnit
placed keyword instance empty = empty
placed keyword instance (tree u below after) =
    tree (placed_unit keyword instance u) (placed (keyword ++ u.keyword) (instance ++ u.instance) below)
    (placed keyword instance after)

abbrev pub placed_tree : List ℕ → List ℕ → ResultTree → ResultTree
placed_tree keyword instance t =
    record {
      root = placed_unit keyword instance t.root;
      below = placed (keyword ++ t.root.keyword) (instance ++ t.root.instance) t.below;
    }

-- ---- as they stand in a text, with JSON escapes (RFC 8259, section 7)

abbrev pub escaped_unit : OutputUnit → OutputUnit
escaped_unit u =
    record {
      valid = u.valid;
      keyword = escape u.keyword;
      absolute = escape u.absolute;
      instance = escape u.instance;
      note = u.note;
    }

abbrev pub escaped : Forest OutputUnit → Forest OutputUnit
escaped empty = empty
escaped (tree u below after) = tree (escaped_unit u) (escaped below) (escaped after)

abbrev pub escaped_tree : ResultTree → ResultTree
escaped_tree t = record { root = escaped_unit t.root; below = escaped t.below }
