use Rattle.std.proofs.Common.{◌∙◌, sym}
use Rattle.js_eval.proofs.ItemsLeft.{item_passed}
use Rattle.js_eval.proofs.cursors.item_cursor.next_item.Goals as goal

pub loop-index-preserved : goal.loop-index-preserved
loop-index-preserved c =
    c.loop-index.invariant
    ∙ item_passed c.args.passed_over.now c.args.items.now c.loop-index.index c.loop-index-test.true
    (sym c.is_marked.ensures ∙ c.if-not-is_marked.false)
