use Rattle.std.proofs.Common.{arith}
use Rattle.std.proofs.lemmas.Bool.Decides.{nat_tests}
use Rattle.js_tree.proofs.RowsOfTrees.RootBack.{root_back, root_left}
use Rattle.js_tree.proofs.rows.relative_rows.RelativeRows.put_root_back.Goals as goal

pub returns-in_ok-enter : goal.returns-in_ok-enter
returns-in_ok-enter c = λ t h r.
    let l = c.args.self.now.rows.ok in
    let e = c.if-is_empty.ensures in
    root_back c.args.self.now c.enter.new.self c.leave.new.self c.args.absolute.now c.args.valid t
    (grind (arith, nat_tests, l, e)) h r c.in_ok-enter.ensures c.leave.ensures

pub returns-else-is_empty : goal.returns-else-is_empty
returns-else-is_empty c = λ t h r.
    let l = c.args.self.now.rows.ok in
    let e = c.if-is_empty.ensures in
    root_left c.args.self.now t (λ none. grind (arith, nat_tests, l, e, none)) h
