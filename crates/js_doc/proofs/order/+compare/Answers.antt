use Rattle.std.proofs.Common.{sym, ◌∙◌, arith}
use Rattle.js_doc.proofs.Ordered.{items_ended, entries_ended}
use Rattle.js_doc.proofs.order.+compare.Goals as goal

pub compare_entries-returns : goal.compare_entries-returns
compare_entries-returns t c =
    c.cmp.ensures ∙ entries_ended c.args.a.now c.args.b.now c.loop-i.i (omega arith) (omega arith)
    (λ p q. omega (arith, p, q)) ∙ sym c.loop-i.invariant

pub compare_items-returns : goal.compare_items-returns
compare_items-returns t c =
    c.cmp.ensures ∙ items_ended c.args.a.now c.args.b.now c.loop-i.i (omega arith) (omega arith)
    (λ p q. omega (arith, p, q)) ∙ sym c.loop-i.invariant
