use Rattle.std.proofs.Common.{◌∙◌, true, false, sym, arith}
use Rattle.js_tree.specs.Alike.{same_but_keyword}
use Rattle.js_tree.proofs.AlikeUnits.{same_but_keyword_equiv, some_tree}
use Rattle.js_tree.proofs.Compaction.{moved_next, passed_next}
use Rattle.js_tree.proofs.Differing.{AreFirsts, one_stays, some_gone}
use Rattle.js_tree.proofs.Giving.{first_stays, again_goes, still_found}
use Rattle.js_tree.proofs.reducing.merging.drop_found.Goals as goal
use Rattle.js_tree.proofs.reducing.merging.drop_found.Goals.{then-not-is_found_again, else-not-is_found_again}

pub loop-i-preserved : goal.loop-i-preserved
loop-i-preserved c =
    let l = c.loop-i in
    let ts = c.args.trees.now in
    elim c.if-not-is_found_again.branch [
      | then-not-is_found_again w ↦
          rw (w.trees-is, w.swap.ensures.after, w.count-is)
          (moved_next (AreFirsts c.args.by_marks) ts l.trees l.count l.i some_tree l.invariant
          (omega arith) (omega arith) (
            one_stays same_but_keyword same_but_keyword_equiv _ ts l.i some_tree (omega arith) l.invariant.front.0,
            λ exact.
                let none = sym (c.is_found_again.ensures.exact some_tree exact) ∙ w.if-not-is_found_again.true in
                first_stays same_but_keyword same_but_keyword_equiv _ ts l.i some_tree (omega arith)
                (l.invariant.front.1 exact)
                (still_found same_but_keyword _ l.trees ts l.i some_tree false l.invariant.rest none),
          ))
      | else-not-is_found_again w ↦
          let found = still_found same_but_keyword _ l.trees ts l.i some_tree true l.invariant.rest
          (c.is_found_again.ensures.sound some_tree w.if-not-is_found_again.false) in
          rw (w.trees-is, w.count-is)
          (passed_next (AreFirsts c.args.by_marks) ts l.trees l.count l.i some_tree l.invariant
          (omega arith) (omega arith) (
            some_gone same_but_keyword same_but_keyword_equiv _ ts l.i some_tree (omega arith)
                l.invariant.front.0 found,
            λ exact. again_goes same_but_keyword same_but_keyword_equiv _ ts l.i some_tree (omega arith)
                (l.invariant.front.1 exact) found,
          ))
    ]
