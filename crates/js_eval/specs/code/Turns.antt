-- When the keywords of a schema have their turns, in one pass over ascending members (of private functions).
use Rattle.std.specs.Prelude.{ℕ, List, [], ◌∷◌, ◌++◌, Bool, true, false, filter}
use Rattle.js_doc.specs.Value.{Named}
use Rattle.js_eval.specs.Keywords.{Member, has_node, is_else, is_after_if, comes_before_else, comes_after_else}
use Rattle.js_eval.specs.declared.order.turn.Turn.{Turn}
use Rattle.js_eval.specs.declared.order.turn.Turn.TheVariants.{Never, First, Second, Last}

-- by whether it has a node, comes after `if`, is `else`
abbrev pub turn_by : Bool → Bool → Bool → Turn
turn_by false after otherwise = Never
turn_by true true otherwise = Last
turn_by true false true = Second
turn_by true false false = First

unfoldable pub turn_of : List ℕ → Turn
turn_of name = turn_by (has_node name) (is_after_if name) (is_else name)

abbrev pub is_ever : Turn → Bool
is_ever Never = false
is_ever First = true
is_ever Second = true
is_ever Last = true

-- ---- a keyword before those after it

abbrev pub if_first : Turn → Member → List Member → List Member
if_first First k ks = k ∷ ks
if_first Never k ks = ks
if_first Second k ks = ks
if_first Last k ks = []

abbrev pub if_second : Turn → Member → List Member → List Member
if_second First k ks = ks
if_second Never k ks = ks
if_second Second k ks = k ∷ []
if_second Last k ks = []

abbrev pub if_last : Turn → Member → List Member → List Member → List Member
if_last First k after ks = ks
if_last Never k after ks = ks
if_last Second k after ks = ks
if_last Last k after ks = k ∷ after

-- ---- of ascending members

-- those that have a turn at all
abbrev pub ever : Named → List Member
ever ms = filter (λ k. is_ever (turn_of k.0)) ms

-- those that have the first turn: none after the first one that has the last turn
abbrev pub first_turn : Named → List Member
first_turn [] = []
first_turn (m ∷ ms) = if_first (turn_of m.0) m (first_turn ms)

-- the one that has the second turn
abbrev pub second_turn : Named → List Member
second_turn [] = []
second_turn (m ∷ ms) = if_second (turn_of m.0) m (second_turn ms)

-- those that have the last turn: all from the first of them on
abbrev pub last_turn : Named → List Member
last_turn [] = []
last_turn (m ∷ ms) = if_last (turn_of m.0) m (ever ms) (last_turn ms)

-- the keywords that have a node, in the order of their nodes
abbrev pub in_order : Named → List Member
in_order ms = filter (λ k. comes_before_else k.0) ms
    ++ (filter (λ k. is_else k.0) ms ++ filter (λ k. comes_after_else k.0) ms)
