use Rattle.std.proofs.Common.{◌∙◌, ◌≡◌, ◌≢◌, true, false, sym, inl, inr, length, arith}
use Rattle.js_tree.specs.OutputUnit.{noted}
use Rattle.js_tree.proofs.Siblings.{no_only_child, only_child_lifts}
use Rattle.js_tree.proofs.reducing.moves.lift_child.Goals as goal
use Rattle.js_tree.proofs.reducing.moves.lift_child.Goals.{then-is_noted-via-then-is_noted}
use Rattle.js_tree.proofs.reducing.moves.lift_child.Goals.{then-is_noted-via-else-is_noted+then-len-ne1}

pub returns-then-is_noted-clause-lifted : goal.returns-then-is_noted-clause-lifted
returns-then-is_noted-clause-lifted c = elim c.then-is_noted.branch [
  | then-is_noted-via-then-is_noted w ↦ no_only_child noted c.args.tree.now c.tree.inside.unit c.tree.inside.children
      c.tree.view_is (inl (sym c.is_noted.ensures ∙ w.if-is_noted.true))
  | then-is_noted-via-else-is_noted+then-len-ne1 w ↦
      let n : length c.tree.inside.children ≢ 1 = omega (arith, w.len.ensures, w.if-len-ne1.true) in
      no_only_child noted c.args.tree.now c.tree.inside.unit c.tree.inside.children c.tree.view_is (inr n)
]

pub returns-clause-lifted : goal.returns-clause-lifted
returns-clause-lifted c =
    (only_child_lifts noted c.args.tree.now c.lift.new.self c.tree.inside.unit c.tree.inside.children c.lift.result
    c.tree.view_is (sym c.is_noted.ensures ∙ c.if-is_noted.false)
    (omega (arith, c.len.ensures, c.if-len-ne1.false)) c.lift.ensures).0

pub returns-clause-unchanged : goal.returns-clause-unchanged
returns-clause-unchanged c =
    let made = (only_child_lifts noted c.args.tree.now c.lift.new.self c.tree.inside.unit c.tree.inside.children
    c.lift.result c.tree.view_is (sym c.is_noted.ensures ∙ c.if-is_noted.false)
    (omega (arith, c.len.ensures, c.if-len-ne1.false)) c.lift.ensures).1 in
    λ f. let e : true ≡ false = sym made ∙ f in absurd cc
