use Rattle.std.proofs.Common.{◌∙◌, ◌<◌, sym, length, arith, refl}
use Rattle.js_tree.specs.Alike.{same_but_keyword}
use Rattle.js_tree.proofs.AlikeUnits.{some_tree}
use Rattle.js_tree.proofs.MergedTest.{none_alike_step}
use Rattle.js_tree.proofs.reducing.merging.few_differ.Goals as goal

pub returns-then-comes_again : goal.returns-then-comes_again
returns-then-comes_again c =
    let h : c.loop-i.i < length c.args.trees.now = omega arith in
    sym (c.loop-i.invariant ∙ none_alike_step same_but_keyword c.args.trees.now c.loop-i.i some_tree h
    ∙ rw (sym (c.comes_again.ensures some_tree) ∙ c.if-comes_again.true) refl)

pub loop-i-preserved : goal.loop-i-preserved
loop-i-preserved c =
    let h : c.loop-i.i < length c.args.trees.now = omega arith in
    c.loop-i.invariant ∙ none_alike_step same_but_keyword c.args.trees.now c.loop-i.i some_tree h
    ∙ rw (sym (c.comes_again.ensures some_tree) ∙ c.if-comes_again.false) refl
