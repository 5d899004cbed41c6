use Rattle.std.proofs.Common.{arith}
use Rattle.js_tree.proofs.reducing.sorting.+list_in_order.Goals as goal

pub list_in_order-left-requires : goal.list_in_order-left-requires
list_in_order-left-requires t c = (omega (arith, c.decreases, c.if-count-lt2.false), omega (arith, c.requires))

pub list_in_order-right-requires : goal.list_in_order-right-requires
list_in_order-right-requires t c = (omega (arith, c.decreases, c.if-count-lt2.false), omega (arith, c.requires))
