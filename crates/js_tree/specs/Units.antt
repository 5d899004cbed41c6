-- The labels with a note, in preorder.
use Rattle.std.specs.Prelude.{Bool, List, [], ◌∷◌, ◌++◌, if◌then◌else◌}
use Rattle.js_tree.specs.Forest.{Forest, empty, tree, Rose}

module _ {A : Type 0} (noted : A → Bool) where
  abbrev pub units_below : Forest A → List A
  units_below empty = []
  units_below (tree a below after) = (if noted a then a ∷ units_below below else units_below below) ++ units_below after

  -- the root's label is among them, if it has a note
  abbrev pub units_by : Rose A → List A
  units_by t = if noted t.root then t.root ∷ units_below t.below else units_below t.below
