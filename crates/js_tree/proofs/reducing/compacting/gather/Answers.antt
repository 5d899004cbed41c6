use Rattle.std.proofs.Common.{◌≡◌, ◌<◌, ◌+◌, ◌++◌, length, take, map, refl, ap, ◌∙◌, arith}
use Rattle.std.proofs.lemmas.List.{set-get_or}
use Rattle.js_tree.specs.FlatState.{row_of}
use Rattle.js_tree.proofs.Marks.{gathered_past, goes_with, goes, stays_here, a_row}
use Rattle.js_tree.proofs.reducing.compacting.gather.Goals as goal
use Rattle.js_tree.proofs.reducing.compacting.gather.Goals.{then-row, else-row}

pub loop-i-preserved-then-gone-gt0 : goal.loop-i-preserved-then-gone-gt0
loop-i-preserved-then-gone-gt0 c =
    let l = c.loop-i in
    let h : l.i < length l.rows = omega arith in
    record {
      root = l.invariant.root;
      at_most = omega arith;
      gathered = ap (λ xs. map row_of (take l.count l.rows) ++ xs)
          (goes_with c.args.keep l.rows l.i l.gone (a_row l.rows l.i h) c.if-gone-gt0.true h) ∙ l.invariant.gathered;
    }

pub loop-i-preserved : goal.loop-i-preserved
loop-i-preserved c =
    let k = c.args.keep in let l = c.loop-i in let d = c.index-rows-i.result in
    let h : l.i < length l.rows = omega arith in
    let none : l.gone ≡ 0 = omega (arith, c.if-gone-gt0.false) in let le = l.invariant.at_most in
    let given = rw none at l.invariant.gathered in elim c.if-row.branch [
      | then-row w ↦ record {
        root = omega (arith, w.count-is, l.invariant.root);
        at_most = omega (arith, w.count-is, le);
        gathered =
            ap (λ n. gathered_past k c.if-row.rows n c.if-row.gone (l.i + 1)) w.count-is
            ∙ (ap (λ n. gathered_past k c.if-row.rows (l.count + 1) n (l.i + 1)) (w.gone-is ∙ none)
            ∙ (ap (λ xs. gathered_past k xs (l.count + 1) 0 (l.i + 1)) (w.rows-is ∙ w.swap.ensures.after)
            ∙ (stays_here k l.rows l.count l.i d _ le h w.if-row.true refl ∙ given)));
      }
      | else-row w ↦ record {
        root = omega (arith, w.count-is, l.invariant.root);
        at_most = omega (arith, w.count-is, le);
        gathered =
            ap (λ n. gathered_past k c.if-row.rows n c.if-row.gone (l.i + 1)) w.count-is
            ∙ (ap (λ xs. gathered_past k xs l.count c.if-row.gone (l.i + 1)) (w.rows-is ∙ set-get_or l.rows l.i d)
            ∙ (ap (λ xs. map row_of (take l.count l.rows) ++ xs) (goes k l.rows l.i c.if-row.gone d h
            w.if-row.false (w.gone-is ∙ w.gone_with-gone.ensures)) ∙ given));
      }
    ]
