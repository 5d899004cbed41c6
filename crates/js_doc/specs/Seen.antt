-- The value that a document is, and the parts of it.
use Rattle.std.specs.Prelude.{ℕ, List, map}
use Rattle.std.specs.declared.alloc.Global.{Global}
use Rattle.js_doc.specs.Value.{Value, null, truth, whole, text, list, object, Items, Members, items, members}
use Rattle.js_doc.specs.declared.doc.Doc.{Doc}
use Rattle.js_doc.specs.declared.doc.Doc.TheVariants as doc

abbrev pub value_of : Doc → Value
value_of doc.Null = null
value_of (doc.Truth b) = truth b
value_of (doc.Whole w) = whole w
value_of (doc.Text s) = text s
value_of (doc.List vs) = list (items vs)
value_of (doc.Members ms) = object (members ms)

abbrev pub pair_of : List ℕ × Doc → List ℕ × Value
pair_of e = (e.0, value_of e.1)

abbrev pub items_seen : List Doc → Items
items_seen ds = items (map value_of ds)

abbrev pub members_seen : List (List ℕ × Doc) → Members
members_seen es = members (map pair_of es)
