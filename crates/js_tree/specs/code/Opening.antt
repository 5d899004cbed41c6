-- The beginning of a node's text, as it is kept from one node to the next (of private functions).
use Rattle.std.specs.Prelude.{ℕ, ◌-◌, Bool, List, [], ◌++◌, codes, drop, length, take}
use Rattle.js_doc.specs.Compact.{comma_if}
use Rattle.js_tree.specs.Rows.RelativeState.{part}

-- what stands before the absolute location of a schema, after another node
abbrev pub schema_start : List ℕ
schema_start = codes ",{\"absoluteKeywordLocation\":\""

-- the location that is kept, which a slash follows
abbrev pub schema_kept : List ℕ → List ℕ
schema_kept text = take (length text - 30) (drop 29 text)

-- what is written before the token of an absolute location
abbrev pub opening_front : Bool → List ℕ → Bool → List ℕ
opening_front later schema slash = comma_if later
    ++ (codes "{\"absoluteKeywordLocation\":\"" ++ (schema ++ part slash []))
