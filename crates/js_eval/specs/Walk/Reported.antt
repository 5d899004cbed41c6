-- What a whole walk reports, and what it may leave out.
use Rattle.std.specs.Prelude.{◌≡◌, ℕ, List, [], ◌∷◌, Bool, true}
use Rattle.js_doc.specs.Value.{Value}
use Rattle.js_eval.specs.Location.{at_root}
use Rattle.js_eval.specs.Result.{Limits, ResultTree, IsResult, IsWithinLimits}
use Rattle.js_eval.specs.SchemaSet.{SchemaSet}
use Rattle.js_tree.specs.Events.{Event, Passes, opening, closing, events}
use Rattle.js_tree.specs.Note.{silent}

-- the result is within the limits, and its events lead from c to d
pub record Reported {C P : Type 0} (limits : Limits) (S : SchemaSet P) (place : P) (v : Value) (takes : C → Event → C
    → Type 0) (valid : Bool) (c d : C) : Type 0 where
  pub result : ResultTree
  pub is : IsResult S [] place at_root v result
  pub stands : IsWithinLimits limits result
  pub verdict : valid ≡ result.root.valid
  pub passes : Passes takes (events result) c d

-- the events of a leaf that passes and has no note, wherever it is, lead from this state back to it
abbrev pub DropsSilent : {C : Type 0} → (C → Event → C → Type 0) → C → Type 0
DropsSilent takes c = (keyword absolute instance : List ℕ)
    → Passes takes (opening keyword absolute instance ∷ closing true silent ∷ []) c c
