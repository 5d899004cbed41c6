-- The text of the tree that rows of a flat form are of (of private functions).
use Rattle.std.specs.Prelude.{◌≡◌, List, Result, map}
use Rattle.js_doc.specs.BytesOut.{Progress, Puts}
use Rattle.js_doc.specs.Compact.{compact}
use Rattle.js_doc.specs.Value.{Value}
use Rattle.js_tree.specs.Flat.{flat_form}
use Rattle.js_tree.specs.FlatState.{row_of}
use Rattle.js_tree.specs.Result.{ResultTree}
use Rattle.js_tree.specs.declared.collecting.flat.Row.{Row}

-- the text of the tree, shown in this way, is put
abbrev pub PutsTree : {T E : Type 0} → List Row → (ResultTree → Value) → Progress → Progress → Result T E → Type 0
PutsTree rows shown old new result = (t : ResultTree) → map row_of rows ≡ flat_form t
    → Puts old new (compact (shown t)) result
