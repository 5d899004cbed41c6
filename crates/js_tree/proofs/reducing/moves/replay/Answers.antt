use Rattle.std.proofs.Common.{◌≡◌, ◌∙◌, ◌<◌, ◌≤◌, sym, ap, Some, length, arith}
use Rattle.std.proofs.lemmas.List.{take_all}
use Rattle.std.proofs.lemmas.Result.{err_from_is_err_and}
use Rattle.js_tree.specs.Alike.{same_but_keyword}
use Rattle.js_tree.specs.OutputUnit.{noted}
use Rattle.js_tree.specs.Result.{replayed}
use Rattle.js_tree.specs.declared.reducing.moves.Rule.TheVariants.{Drop}
use Rattle.js_tree.specs.declared.reducing.moves.Move.{Move}
use Rattle.js_tree.proofs.MergedLaws.{normal_end_of_three}
use Rattle.js_tree.proofs.MovesAreRewrites.{replayed_bound, replayed_merge_run, replayed_normal}
use Rattle.js_tree.proofs.MovesAreRewrites.{replayed_length, replayed_more}
use Rattle.js_tree.proofs.reducing.moves.replay.Goals as goal
use Rattle.js_tree.proofs.reducing.moves.replay.Goals.{After-loop-i}

-- the move that a goal names past the end of the moves
no_move : Move
no_move = record { rule = Drop; position = 0 }

pub returns-in_err-tree-clause-run : goal.returns-in_err-tree-clause-run
unfolding no_move
returns-in_err-tree-clause-run c =
    let p = err_from_is_err_and c.from_residual.result c.from_residual.ensures.1 in
    let h : c.loop-i.i < length c.args.moves.now = omega arith in
    let e = c.in_err-tree.ensures in
    let met = c.loop-i.invariant ∙ ap Some (sym e.2) in
    rw (p.1, p.2, e.0) (
      h,
      met,
      replayed_more noted same_but_keyword c.args.moves.now c.loop-i.i no_move c.args.tree
          c.loop-i.tree h c.loop-i.invariant ∙ e.1,
    )

pub loop-i-preserved : goal.loop-i-preserved
unfolding no_move
loop-i-preserved c =
    let h : c.loop-i.i < length c.args.moves.now = omega arith in
    replayed_more noted same_but_keyword c.args.moves.now c.loop-i.i no_move c.args.tree c.loop-i.tree h
    c.loop-i.invariant ∙ c.in_ok-tree.ensures

whole : (c : After-loop-i) → replayed c.args.moves.now c.args.tree ≡ Some c.loop-i.tree
whole c = let l : length c.args.moves.now ≤ c.loop-i.i = omega arith in
    rw (take_all c.loop-i.i c.args.moves.now l) at c.loop-i.invariant

pub returns-clause-one_normal_form : goal.returns-clause-one_normal_form
returns-clause-one_normal_form c = λ r n.
    replayed_normal noted same_but_keyword c.args.moves.now c.args.tree c.loop-i.tree r (whole c) n

pub returns-clause-length : goal.returns-clause-length
returns-clause-length c = λ r.
    replayed_length noted same_but_keyword c.args.moves.now c.args.tree c.loop-i.tree r (whole c)

pub returns-clause-at_most : goal.returns-clause-at_most
returns-clause-at_most c = replayed_bound noted same_but_keyword c.args.moves.now c.args.tree c.loop-i.tree (whole c)

pub returns-clause-one_merged_form : goal.returns-clause-one_merged_form
returns-clause-one_merged_form c =
    λ n. normal_end_of_three c.args.tree c.loop-i.tree
    (replayed_merge_run noted same_but_keyword c.args.moves.now c.args.tree c.loop-i.tree (whole c)) n
