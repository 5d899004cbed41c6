-- What stands before the children of a node without a note.
use Rattle.std.proofs.Common.{◌≡◌, Bool, false, ◌∷◌, ◌++◌, Result}
use Rattle.js_doc.specs.BytesOut.{Progress, Puts}
use Rattle.js_tree.specs.Note.{Note, silent, error, value, names, index, indexes, truly, speaks}
use Rattle.js_tree.specs.NodeText.{annotation_part}
use Rattle.js_tree.specs.NodeText.{children_start}

pub silent_before_list : {T E : Type 0} (a b : Progress) (note : Note) (valid : Bool)
    (r : Result T E) → speaks note ≡ false
    → Puts a b (34 ∷ children_start silent valid) r
    → Puts a b ((34 ∷ annotation_part note) ++ children_start note valid) r
silent_before_list a b silent valid r e h = h
silent_before_list a b (error text) valid r e h = absurd cc
silent_before_list a b (value v) valid r e h = absurd cc
silent_before_list a b (names ns) valid r e h = absurd cc
silent_before_list a b (index i) valid r e h = absurd cc
silent_before_list a b (indexes is) valid r e h = absurd cc
silent_before_list a b truly valid r e h = absurd cc
