use Rattle.js_tree.proofs.reducing.sorting.+list_in_order.Given as goal

abbrev pub decreases-list_in_order : goal.decreases-list_in_order
decreases-list_in_order l = l.count
