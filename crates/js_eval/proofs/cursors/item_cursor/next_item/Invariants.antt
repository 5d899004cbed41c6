use Rattle.std.proofs.Common.{◌≡◌}
use Rattle.js_eval.specs.code.Cursors.{items_left}
use Rattle.js_eval.proofs.cursors.item_cursor.next_item.Given as goal

abbrev pub invariant-loop-index : goal.invariant-loop-index
invariant-loop-index l = items_left l.passed_over l.fn.next l.items ≡ items_left l.passed_over l.index l.items
