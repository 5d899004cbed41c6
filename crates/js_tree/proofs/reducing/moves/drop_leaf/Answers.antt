use Rattle.std.proofs.Common.{◌≢◌, ◌∙◌, ◌<◌, sym, ap, inl, inr, length, arith, Some}
use Rattle.std.proofs.lemmas.List.{nil_from_length}
use Rattle.js_tree.specs.Alike.{same_but_keyword}
use Rattle.js_tree.specs.Forest.{forest_of}
use Rattle.js_tree.specs.OutputUnit.{noted}
use Rattle.js_tree.proofs.Siblings.{not_dropped, dropped}
use Rattle.js_tree.proofs.reducing.moves.drop_leaf.Goals as goal
use Rattle.js_tree.proofs.reducing.moves.drop_leaf.Goals.{then-is_noted-via-then-is_noted}
use Rattle.js_tree.proofs.reducing.moves.drop_leaf.Goals.{then-is_noted-via-else-is_noted+then-len-ne0}

pub returns-then-is_noted-clause-dropped : goal.returns-then-is_noted-clause-dropped
returns-then-is_noted-clause-dropped c =
    let h : c.args.i < length c.args.trees.now.items = omega (arith, c.args.trees.now.ok.0, c.requires) in
    let e = c.tree.view_is ∙ c.index-tree.ensures in
    elim c.then-is_noted.branch [
      | then-is_noted-via-then-is_noted w ↦
          not_dropped noted same_but_keyword c.args.trees.now.items c.args.i c.index-tree.result.now c.tree.inside.unit
          c.tree.inside.children h e (inl (sym c.is_noted.ensures ∙ w.if-is_noted.true))
      | then-is_noted-via-else-is_noted+then-len-ne0 w ↦
          let some : length c.tree.inside.children ≢ 0 = omega (arith, w.len.ensures, w.if-len-ne0.true) in
          not_dropped noted same_but_keyword c.args.trees.now.items c.args.i c.index-tree.result.now c.tree.inside.unit
          c.tree.inside.children h e (inr (λ z. some (ap length z)))
    ]

pub returns-clause-dropped : goal.returns-clause-dropped
returns-clause-dropped c =
    let h : c.args.i < length c.args.trees.now.items = omega (arith, c.args.trees.now.ok.0, c.requires) in
    let e = c.tree.view_is ∙ c.index-tree.ensures in
    dropped noted same_but_keyword c.args.trees.now.items c.args.i c.index-tree.result.now c.tree.inside.unit
    c.tree.inside.children h e (sym c.is_noted.ensures ∙ c.if-is_noted.false)
    (nil_from_length _ (omega (arith, c.len.ensures, c.if-len-ne0.false)))
    ∙ ap (λ ts. Some (forest_of ts)) (sym c.remove.ensures.by_index.2)
