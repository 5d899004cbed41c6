use Rattle.std.proofs.Common.{◌≡◌, ◌∙◌, ◌<◌, sym, ap, length, get_or, set, arith, take, suc, ◌+◌, ◌-◌}
use Rattle.std.proofs.lemmas.List.{set-get_or}
use Rattle.js_tree.specs.Alike.{same_but_keyword}
use Rattle.js_tree.specs.Forest.{forest_of, node_count}
use Rattle.js_tree.specs.OutputUnit.{noted}
use Rattle.js_tree.proofs.Forests.{fewer_nodes, replaced_by_same, nodes_through, nodes_before_lt}
use Rattle.js_tree.proofs.Siblings.{lifted, not_lifted}
use Rattle.js_tree.proofs.Searching.{searched_child}
use Rattle.js_tree.proofs.reducing.moves.+moves.Goals as goal
use Rattle.js_tree.proofs.reducing.moves.+moves.Goals.{move_among-in-Drop, move_among-in-Lift, move_among-in-Merge}

pub move_among-returns-then-made : goal.move_among-returns-then-made
move_among-returns-then-made t c =
    let same = c.loop-i.invariant.same in
    let p : c.args.position ≡ node_count (forest_of (take c.loop-i.i c.loop-i.trees.items)) =
    omega (arith, rw (← same) at c.loop-i.invariant.passed, c.if-position-eq0.true) in
    elim c.match-rule.branch [
      | move_among-in-Drop w ↦ rw (w.in-Drop.is, ← same, p, w.trees-is)
          (rw (sym w.made-is ∙ c.if-made.true) at w.drop_leaf-made.ensures.dropped)
      | move_among-in-Merge w ↦ rw (w.in-Merge.is, ← same, p, w.trees-is)
          (rw (sym w.made-is ∙ c.if-made.true) at w.drop_alike-made.ensures.merged)
      | move_among-in-Lift w ↦
          let e = rw (sym w.made-is ∙ c.if-made.true) at w.lift_child-made.ensures.lifted in
          let h : c.loop-i.i < length c.loop-i.trees.items = rw same (omega (arith, c.args.trees.now.ok.0)) in
          rw (w.in-Lift.is, ← same, p, w.trees-is)
          (lifted noted same_but_keyword c.loop-i.trees.items c.loop-i.i w.index_mut.result.now
          w.lift_child-made.new.tree h (rw (← w.index_mut.ensures.value) e))
    ]

pub move_among-returns-else-made : goal.move_among-returns-else-made
move_among-returns-else-made t c =
    let same = c.loop-i.invariant.same in
    let p : c.args.position ≡ node_count (forest_of (take c.loop-i.i c.loop-i.trees.items)) =
    omega (arith, rw (← same) at c.loop-i.invariant.passed, c.if-position-eq0.true) in
    let h : c.loop-i.i < length c.loop-i.trees.items = rw same (omega (arith, c.args.trees.now.ok.0)) in
    let l : c.args.position < node_count (forest_of c.loop-i.trees.items) =
    omega (arith, p, nodes_before_lt c.loop-i.trees.items c.loop-i.i h) in
    elim c.match-rule.branch [
      | move_among-in-Drop w ↦
          let e = rw (sym w.made-is ∙ c.if-made.false) at w.drop_leaf-made.ensures.dropped in
          rw (w.in-Drop.is, ← same, w.trees-is)
          (l, rw p e, ap forest_of (w.drop_leaf-made.ensures.unchanged (sym w.made-is ∙ c.if-made.false)))
      | move_among-in-Merge w ↦
          let e = rw (sym w.made-is ∙ c.if-made.false) at w.drop_alike-made.ensures.merged in
          rw (w.in-Merge.is, ← same, w.trees-is)
          (l, rw p e, ap forest_of (w.drop_alike-made.ensures.unchanged (sym w.made-is ∙ c.if-made.false)))
      | move_among-in-Lift w ↦
          let e = rw (sym w.made-is ∙ c.if-made.false) at w.lift_child-made.ensures.lifted in
          let x = w.index_mut.result.now in
          rw (w.in-Lift.is, ← same, w.trees-is) (
            l,
            rw p (not_lifted noted same_but_keyword c.loop-i.trees.items c.loop-i.i x h
                (rw (← w.index_mut.ensures.value) e)),
            ap forest_of (ap (set c.loop-i.trees.items c.loop-i.i) (w.lift_child-made.ensures.unchanged (sym w.made-is
                ∙ c.if-made.false) ∙ w.index_mut.ensures.value) ∙ set-get_or c.loop-i.trees.items c.loop-i.i x),
          )
    ]

pub move_among-move_below-requires : goal.move_among-move_below-requires
move_among-move_below-requires t c =
    let same = c.loop-i.invariant.same in
    let x = c.index_mut-in-loop-i.result.now in
    let h : c.loop-i.i < length c.loop-i.trees.items = rw same (omega (arith, c.args.trees.now.ok.0)) in
    let b = rw same at (fewer_nodes c.loop-i.trees.items c.loop-i.i x h) in
    let e : node_count x.below ≡ node_count (get_or c.args.trees.now.items c.loop-i.i x).below =
    ap (λ t. node_count t.below) (c.index_mut-in-loop-i.ensures.value ∙ ap (λ ts. get_or ts c.loop-i.i x) same) in
    (omega (arith, b, e, c.decreases), tt)

pub move_among-returns-in_default : goal.move_among-returns-in_default
move_among-returns-in_default t c =
    let same = c.loop-i.invariant.same in
    let passed = rw (← same) at c.loop-i.invariant.passed in
    let x = c.index_mut-in-loop-i.result.now in
    let p : node_count (forest_of (take c.loop-i.i c.loop-i.trees.items)) + suc (c.loop-i.position - 1)
    ≡ c.args.position = omega (arith, passed, c.if-position-eq0.false) in
    let h : c.loop-i.i < length c.loop-i.trees.items = rw same (omega (arith, c.args.trees.now.ok.0)) in
    rw (← same) (searched_child c.move_below.result c.args.rule c.loop-i.trees.items c.loop-i.i (c.loop-i.position - 1)
    c.args.position x c.move_below.new.tree h
    c.index_mut-in-loop-i.ensures.value p c.move_below.ensures.root c.in_default.not-Further
    c.move_below.ensures.searched)

pub move_among-loop-i-preserved : goal.move_among-loop-i-preserved
move_among-loop-i-preserved t c =
    let same = c.loop-i.invariant.same in
    let x = c.index_mut-in-loop-i.result.now in
    let w = c.in-Further.ensures.searched in
    let v = c.index_mut-in-loop-i.ensures.value in
    let h : c.loop-i.i < length c.args.trees.now.items = omega (arith, c.args.trees.now.ok.0) in
    let b : node_count x.below ≡ node_count (get_or c.args.trees.now.items c.loop-i.i x).below =
    ap (λ t. node_count t.below) (v ∙ ap (λ ts. get_or ts c.loop-i.i x) same) in
    record {
      same = replaced_by_same c.loop-i.trees.items c.loop-i.i x c.move_below.new.tree
          (c.move_below.ensures.root ∙ ap (λ t. t.root) v) (w.1 ∙ ap (λ t. t.below) v) ∙ same;
      passed = omega (
        arith,
        nodes_through c.args.trees.now.items c.loop-i.i x h,
        b,
        w.0,
        c.loop-i.invariant.passed,
        c.if-position-eq0.false,
      );
    }
