-- A tree as events: each node opens, then its children's events follow in order, and then it closes.
use Rattle.std.specs.Prelude.{◌≡◌, ℕ, List, [], ◌∷◌, ◌++◌, Bool}
use Rattle.js_tree.specs.Forest.{Forest, empty, tree, Rose}
use Rattle.js_tree.specs.Note.{Note}
use Rattle.js_tree.specs.OutputUnit.{OutputUnit}

-- ---- over any label, with an event for a node that opens and one for a node that closes

module _ {A Event : Type 0} (opened closed : A → Event) where
  -- the events of sibling trees
  abbrev pub reported : Forest A → List Event
  reported empty = []
  reported (tree a below after) = opened a ∷ (reported below ++ (closed a ∷ reported after))

-- ---- of a result

pub data Event : Type 0 where
  -- a node opens: its keyword location, its absolute keyword location and its instance location
  opening : List ℕ → List ℕ → List ℕ → Event
  -- the innermost open node closes: its verdict and its note
  closing : Bool → Note → Event

abbrev pub opening_of : OutputUnit → Event
opening_of u = opening u.keyword u.absolute u.instance

abbrev pub closing_of : OutputUnit → Event
closing_of u = closing u.valid u.note

-- the events of sibling trees
abbrev pub events_of : Forest OutputUnit → List Event
events_of = reported opening_of closing_of

-- the events of a tree
abbrev pub events : Rose OutputUnit → List Event
events t = events_of (tree t.root t.below empty)

-- ---- states

-- `takes`, over the events one after another, leads from the state c to the state d.
abbrev pub Passes : {C E : Type 0} → (C → E → C → Type 0) → List E → C → C → Type 0
Passes takes [] c d = c ≡ d
Passes takes (e ∷ es) c d = (m : _) × takes c e m × Passes takes es m d

-- the state after the events, for a function `after` from a state and an event to the next state
abbrev pub after_all : {S E : Type 0} → (S → E → S) → S → List E → S
after_all after s [] = s
after_all after s (e ∷ es) = after_all after (after s e) es
