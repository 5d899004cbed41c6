-- The state of a collector of the whole tree.
use Rattle.std.specs.Prelude.{ℕ, Bool, List, [], ◌∷◌, Option, Some, None}
use Rattle.js_tree.specs.Events.{Event, opening, closing}
use Rattle.js_tree.specs.Forest.{Forest, empty, tree, forest_of, ◌⊹◌}
use Rattle.js_tree.specs.Note.{Note}
use Rattle.js_tree.specs.OutputUnit.{OutputUnit}
use Rattle.js_tree.specs.Result.{ResultTree}
use Rattle.js_tree.specs.declared.collecting.boxed.OpenTree.{OpenTree}
use Rattle.js_tree.specs.declared.collecting.boxed.Boxed.{Boxed}

-- an open node: its locations, and the closed trees below it
pub record Frame : Type 0 where
  pub keyword : List ℕ
  pub absolute : List ℕ
  pub instance : List ℕ
  pub below : Forest OutputUnit

-- the open nodes, the innermost first, and the whole tree, once its root has closed
pub record BoxedState : Type 0 where
  pub frames : List Frame
  pub found : Option ResultTree

abbrev pub boxed_start : BoxedState
boxed_start = record { frames = []; found = None }

abbrev pub unit_of : Frame → Bool → Note → OutputUnit
unit_of f valid note = record
    { valid = valid; keyword = f.keyword; absolute = f.absolute; instance = f.instance; note = note }

-- with one more tree below
abbrev pub with_tree : Frame → OutputUnit → Forest OutputUnit → Frame
with_tree f u below = record
    { keyword = f.keyword; absolute = f.absolute; instance = f.instance; below = f.below ⊹ tree u below empty }

-- no node opens after the root has closed
abbrev pub boxed_opened : Option ResultTree → List Frame → List ℕ → List ℕ → List ℕ → BoxedState
boxed_opened None frames keyword absolute instance = record {
  frames =
      record { keyword = keyword; absolute = absolute; instance = instance; below = empty } ∷ frames;
  found = None;
}
boxed_opened (Some t) frames keyword absolute instance = record { frames = frames; found = Some t }

-- without an open node nothing closes
abbrev pub boxed_closed : Option ResultTree → List Frame → Bool → Note → BoxedState
boxed_closed found [] valid note = record { frames = []; found = found }
boxed_closed found (f ∷ []) valid note =
    record { frames = []; found = Some (record { root = unit_of f valid note; below = f.below }) }
boxed_closed found (f ∷ g ∷ frames) valid note =
    record { frames = with_tree g (unit_of f valid note) f.below ∷ frames; found = found }

abbrev pub boxed_after : BoxedState → Event → BoxedState
boxed_after s (opening keyword absolute instance) = boxed_opened s.found s.frames keyword absolute instance
boxed_after s (closing valid note) = boxed_closed s.found s.frames valid note

abbrev pub frame_of : OpenTree → Frame
frame_of o = record {
  keyword = o.head.keyword;
  absolute = o.head.absolute;
  instance = o.head.instance;
  below = forest_of o.children.items;
}

-- the last of the list comes first
abbrev pub frames_of : List OpenTree → List Frame → List Frame
frames_of [] frames = frames
frames_of (o ∷ os) frames = frames_of os (frame_of o ∷ frames)

abbrev pub boxed_state : Boxed → BoxedState
boxed_state b = record { frames = frames_of b.nodes.items []; found = b.found }
