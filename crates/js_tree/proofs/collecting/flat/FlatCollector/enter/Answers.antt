use Rattle.std.proofs.Common.{arith, [], ◌∷◌, ◌++◌, ap, refl, ◌∙◌}
use Rattle.js_tree.specs.FlatState.{opening_row, row_of}
use Rattle.js_tree.proofs.FlatFormCollected.{made_in_time, opens}
use Rattle.js_tree.proofs.collecting.flat.FlatCollector.enter.Goals as goal

pub returns-in_ok-push-clause-takes : goal.returns-in_ok-push-clause-takes
returns-in_ok-push-clause-takes c =
    let room = c.in_ok-reserve.ensures.ok in
    let s = c.push-then-takes_node.ensures.succeeds (omega (arith, room)) in
    let rows_len = c.args.self.now.rows.ok in
    opens row_of c.args.self.now.rows.items c.push.new.self.items c.args.self.now.numbers.items
    c.push-then-takes_node.new.self.items _
    (opening_row c.args.head.keyword c.args.head.absolute c.args.head.instance) c.len-number.result
    (c.takes_node.ensures.opens c.if-takes_node.true)
    refl c.in_ok-push.ensures.items (rw s at c.push-then-takes_node.ensures.items ∙ ap (λ xs. xs ++ c.len-number.result
    ∷ []) c.in_ok-reserve.ensures.items) (let l = c.len-number.ensures in omega (arith, l, rows_len))

pub returns-in_err-reserve-clause-ok : goal.returns-in_err-reserve-clause-ok
returns-in_err-reserve-clause-ok c =
    λ there none. absurd (made_in_time row_of c.args.self.now.rows.items c.args.self.now.numbers.items
    (c.takes_node.ensures.opens c.if-takes_node.true) there none)

pub returns-in_err-push-clause-ok : goal.returns-in_err-push-clause-ok
returns-in_err-push-clause-ok c =
    λ there none. absurd (made_in_time row_of c.args.self.now.rows.items c.args.self.now.numbers.items
    (c.takes_node.ensures.opens c.if-takes_node.true) there none)
