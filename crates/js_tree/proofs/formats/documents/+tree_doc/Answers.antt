use Rattle.std.proofs.Common.{◌≡◌, ◌<◌, ◌∙◌, ap, refl, ℕ, List, [], ◌∷◌, ◌++◌, length}
use Rattle.std.proofs.Common.{get_or, arith, map, take, ◌+◌, add-one}
use Rattle.std.proofs.lemmas.List.{map-append}
use Rattle.std.proofs.Math.Seq.{take-suc}
use Rattle.js_doc.specs.Seen.{value_of}
use Rattle.js_doc.specs.declared.doc.Doc.{Doc}
use Rattle.js_tree.specs.Forest.{Forest, empty, tree, Rose, ◌⊹◌, forest_of, node_count}
use Rattle.js_tree.specs.Form.{node_value, node_values, verbose}
use Rattle.js_tree.specs.declared.unit.Unit.{Unit}
use Rattle.js_tree.proofs.Forests.{fewer_nodes, forest_of-append}
use Rattle.js_tree.proofs.formats.documents.+tree_doc.Goals as goal

pub tree_docs-tree_doc-requires : goal.tree_docs-tree_doc-requires
tree_docs-tree_doc-requires t c =
    let h : c.loop-tree.tree-index < length c.args.trees.now = omega arith in
    let e : node_count c.tree-item.result.below ≡ node_count (get_or c.args.trees.now c.loop-tree.tree-index
    c.tree-item.result).below = ap (λ t. node_count t.below) c.tree-item.is in
    (omega (arith, e, fewer_nodes c.args.trees.now c.loop-tree.tree-index c.tree-item.result h, c.decreases), tt)

nodes-append : (f g : Forest Unit) → node_values (f ⊹ g) ≡ node_values f ++ node_values g
nodes-append empty g = refl
nodes-append (tree u below after) g = ap (λ vs. node_value u (node_values below) ∷ vs) (nodes-append after g)

-- one document more
one_more : (docs : List Doc) (ts : List (Rose Unit)) (i : ℕ) (doc : Doc) (t : Rose Unit) → i < length ts
    → map value_of docs ≡ node_values (forest_of (take i ts)) → value_of doc ≡ verbose t → t ≡ get_or ts i t
    → map value_of (docs ++ (doc ∷ [])) ≡ node_values (forest_of (take (i + 1) ts))
one_more docs ts i doc t h d e g =
    rw (
      add-one,
      take-suc ts i t h,
      ← g,
      forest_of-append (take i ts) (t ∷ []),
      nodes-append (forest_of (take i ts))
          (forest_of (t ∷ [])),
      map-append value_of docs (doc ∷ []),
      d,
      e,
    ) refl

pub tree_docs-loop-tree-preserved : goal.tree_docs-loop-tree-preserved
tree_docs-loop-tree-preserved t c =
    let h : c.loop-tree.tree-index < length c.args.trees.now = omega arith in
    ap (map value_of) c.in_ok-push.ensures.items
    ∙ one_more c.loop-tree.docs.items c.args.trees.now c.loop-tree.tree-index c.in_ok-tree_doc.field-0
    c.tree-item.result h c.loop-tree.invariant c.in_ok-tree_doc.ensures c.tree-item.is
