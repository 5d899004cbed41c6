use Rattle.std.proofs.Common.{◌≡◌, ◌<◌, ◌+◌, ◌⊎◌, inl, inr, ap, arith}
use Rattle.js_tree.proofs.Marks.{remaining_more, remaining_all, remaining_fits}
use Rattle.js_tree.proofs.reducing.compacting.children.Goals as goal
use Rattle.js_tree.proofs.reducing.compacting.children.Goals.{then-row-gt0, else-row-gt0}

pub overflow_add-remaining : goal.overflow_add-remaining
overflow_add-remaining c =
    let w = remaining_fits _ _ _ _ _ _ _ c.requires.marked c.loop-next.invariant c.loop-next-test.true
    c.requires.within c.index-rows-next.is in
    omega (arith, w.3 c.if-row-gt0.true, c.ranges.end.fits)

pub overflow_add-remaining-in-loop-next : goal.overflow_add-remaining-in-loop-next
overflow_add-remaining-in-loop-next c =
    let w = remaining_fits _ _ _ _ _ _ _ c.requires.marked c.loop-next.invariant c.loop-next-test.true
    c.requires.within c.index-rows-next.is in
    let n : c.if-row-gt0.remaining.nodes ≡ c.loop-next.remaining.nodes =
    elim c.if-row-gt0.branch [
      | then-row-gt0 v ↦ ap (λ t. t.nodes) v.remaining-is
      | else-row-gt0 v ↦
          ap (λ t. t.nodes) v.remaining-is
    ] in
    omega (arith, w.2, n, c.ranges.end.fits)

pub overflow_add-next : goal.overflow_add-next
overflow_add-next c =
    let w = remaining_fits _ _ _ _ _ _ _ c.requires.marked c.loop-next.invariant c.loop-next-test.true
    c.requires.within c.index-rows-next.is in
    omega (arith, w.0, c.ranges.end.fits)

pub loop-next-smaller : goal.loop-next-smaller
loop-next-smaller c =
    let w = remaining_fits _ _ _ _ _ _ _ c.requires.marked c.loop-next.invariant c.loop-next-test.true
    c.requires.within c.index-rows-next.is in
    omega (arith, w.0, w.1, c.loop-next-test.true)

pub loop-next-preserved : goal.loop-next-preserved
loop-next-preserved c =
    let l = c.loop-next in let x = c.index-rows-next.result in
    let w : (c.if-row-gt0.remaining.nodes ≡ l.remaining.nodes)
    × (((0 < x.room) × (c.if-row-gt0.remaining.trees ≡ l.remaining.trees + 1))
    ⊎ ((x.room ≡ 0) × (c.if-row-gt0.remaining.trees ≡ l.remaining.trees))) =
    elim c.if-row-gt0.branch [
      | then-row-gt0 v ↦
          (ap (λ t. t.nodes) v.remaining-is, inl (v.if-row-gt0.true, ap (λ t. t.trees) v.remaining-is))
      | else-row-gt0 v ↦
          let none : x.room ≡ 0 = omega (arith, v.if-row-gt0.false) in
          (ap (λ t. t.nodes) v.remaining-is, inr (none, ap (λ t. t.trees) v.remaining-is))
    ] in
    rw w.0 (remaining_more c.args.rows.now c.args.first c.args.end l.next l.remaining.trees l.remaining.nodes
    c.if-row-gt0.remaining.trees x l.invariant c.loop-next-test.true c.requires.within c.index-rows-next.is w.1)

pub returns : goal.returns
returns c = λ k f rest d e. remaining_all c.args.rows.now c.args.first c.args.end c.loop-next.next
    c.loop-next.remaining.trees c.loop-next.remaining.nodes c.loop-next.invariant
    (omega (arith, c.loop-next-test.false)) k f rest d e
