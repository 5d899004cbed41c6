-- The compact text of a value (RFC 8259, section 2): no space between tokens, an object's names ascending.
use Rattle.std.specs.Prelude.{ℕ, List, [], ◌++◌, Bool, true, false, codes}
use Rattle.std.specs.Fmt.{signed_decimal}
use Rattle.serde_json.specs.Data as json
use Rattle.serde_json.specs.Written.{compact_text}
use Rattle.js_doc.specs.Value.{Value, null, truth, whole, text, list, object, Items}
use Rattle.js_doc.specs.Value.{no_items, item, Members, no_members, member}

-- a text between quotation marks, escaped as `serde_json` escapes it (RFC 8259, section 7)
abbrev pub quoted : List ℕ → List ℕ
quoted s = compact_text (json.string s)

-- a comma, where something stands before
abbrev pub comma_if : Bool → List ℕ
comma_if true = codes ","
comma_if false = []

abbrev mutual
  pub compact : Value → List ℕ
  compact null = codes "null"
  compact (truth true) = codes "true"
  compact (truth false) = codes "false"
  compact (whole z) = signed_decimal z
  compact (text s) = quoted s
  compact (list vs) = codes "[" ++ compact_items false vs
  compact (object ms) = codes "{" ++ compact_members false ms

  -- the items from here on, and the closing bracket
  pub compact_items : Bool → Items → List ℕ
  compact_items later no_items = codes "]"
  compact_items later (item v vs) = comma_if later ++ (compact v ++ compact_items true vs)

  -- the members from here on, and the closing brace
  pub compact_members : Bool → Members → List ℕ
  compact_members later no_members = codes "}"
  compact_members later (member k v ms) = comma_if later
      ++ (quoted k ++ (codes ":" ++ (compact v ++ compact_members true ms)))
