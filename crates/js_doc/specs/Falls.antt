-- What stands in a document nests less deep than the document.
use Rattle.std.specs.Prelude.{ℕ, ◌≤◌, max, List, [], ◌∷◌, map}
use Rattle.std.proofs.Common.{arith}
use Rattle.std.specs.declared.alloc.Global.{Global}
use denote.Param.Weighed.{most}
use Rattle.js_doc.specs.Nesting.{depth, values_depth, named_depth}
use Rattle.js_doc.specs.Seen.{value_of, pair_of}
use Rattle.js_doc.specs.declared.doc.Doc.{Doc}
use Rattle.js_doc.specs.declared.doc.Doc.TheVariants as doc
use Rattle.js_doc.specs.declared.members.Members.TheInside.{Inside}
use Rattle.js_doc.specs.declared.items.Items.TheDeep.{deep-Doc, deep-Members}

deep_le-depth : (d : Doc) → deep-Doc d ≤ depth (value_of d)
deep_le-depth doc.Null = omega arith
deep_le-depth (doc.Truth b) = omega arith
deep_le-depth (doc.Whole w) = omega arith
deep_le-depth (doc.Text s) = omega arith
deep_le-depth (doc.List vs) = omega arith
deep_le-depth (doc.Members ms) = omega arith

pub items_fall : (ds : List Doc) → max (most deep-Doc ds) 0 ≤ values_depth (map value_of ds)
items_fall [] = omega arith
items_fall (d ∷ ds) = omega (arith, deep_le-depth d, items_fall ds)

pairs_fall : (w : List ℕ × Doc → ℕ) → ((m : List ℕ × Doc) → w m ≤ depth (value_of m.1))
    → (ms : List (List ℕ × Doc)) → max (most w ms) 0 ≤ named_depth (map pair_of ms)
pairs_fall w h [] = omega arith
pairs_fall w h (m ∷ ms) = omega (arith, h m, pairs_fall w h ms)

pub members_fall : (m : Inside) → deep-Members m ≤ named_depth (map pair_of m.entries.items)
members_fall m = pairs_fall _ (λ e. omega (arith, deep_le-depth e.1)) m.entries.items
