-- A value: what a JSON text means, where its numbers are whole.
-- (RFC 8259, sections 3 to 7; JSON Schema Core, section 4.2.1)
use Rattle.std.specs.Prelude.{ℕ, ℤ, List, [], ◌∷◌, Bool}

mutual
  pub data Value : Type 0 where
    null : Value
    truth : Bool → Value
    -- from -2^63 to 2^64 - 1
    whole : ℤ → Value
    -- its code points, as the bytes of UTF-8
    text : List ℕ → Value
    list : Items → Value
    object : Members → Value

  pub data Items : Type 0 where
    no_items : Items
    item : Value → Items → Items

  -- each name once, in ascending order of its bytes
  pub data Members : Type 0 where
    no_members : Members
    member : List ℕ → Value → Members → Members

-- a text, as the bytes of its UTF-8
abbrev pub Text : Type 0
Text = List ℕ

-- ---- items and members as lists

abbrev pub Values : Type 0
Values = List Value

abbrev pub Named : Type 0
Named = List (List ℕ × Value)

abbrev pub items : Values → Items
items [] = no_items
items (v ∷ vs) = item v (items vs)

abbrev pub members : Named → Members
members [] = no_members
members (m ∷ ms) = member m.0 m.1 (members ms)
