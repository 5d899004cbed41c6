use Rattle.std.proofs.Common.{arith}
use Rattle.std.proofs.lemmas.Bool.Decides.{nat_tests}
use Rattle.js_tree.proofs.RowsOfTrees.SilentLeaves.{drops_silent}
use Rattle.js_tree.proofs.rows.relative_rows.RelativeRows.drops_silent.Goals as goal
use Rattle.js_tree.proofs.rows.relative_rows.RelativeRows.drops_silent.Goals.{then-self, else-self}

pub returns-then-len-lt-MOST : goal.returns-then-len-lt-MOST
returns-then-len-lt-MOST c = λ shallow.
    let rows_len = c.args.self.now.rows.ok in
    let nodes_len = c.args.self.now.nodes.ok in
    let nodes = c.len-then-len-lt-MOST.ensures in
    let few = c.if-len-lt-MOST.true in
    elim c.if-self.branch [
      | then-self w ↦ (
          let is = w.value-is in
          let rows = w.len.ensures in
          drops_silent c.args.self.now w.if-self.true (grind (arith, nat_tests, rows_len, rows, is, few))
          (grind (arith, nat_tests, nodes_len, nodes, shallow)))
      | else-self w ↦ (
          let is = w.value-is in
          let keeps = w.if-self.false in
          absurd cc)
    ]
