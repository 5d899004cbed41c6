use Rattle.std.proofs.Common.{◌+◌, ap, ◌∙◌, sym, arith}
use Rattle.std.proofs.lemmas.List.{get_or_default}
use Rattle.js_tree.proofs.FlatRows.{first_tree}
use Rattle.js_tree.specs.Rows.RelativeState.{relative_row}
use Rattle.js_tree.proofs.rows.trees.tree_end.Goals as goal

pub overflow_add-result : goal.overflow_add-result
overflow_add-result c =
    let t = first_tree relative_row c.args.rows.now c.args.first c.requires.trees.0 c.index-rows-first.result
    c.requires.trees.1 c.requires.more c.index-rows-first.is in
    omega (arith, t.fits)

pub returns : goal.returns
returns c =
    let rows = c.args.rows.now in
    let x = c.index-rows-first.result in
    let t = first_tree relative_row rows c.args.first c.requires.trees.0 x c.requires.trees.1 c.requires.more
    c.index-rows-first.is in
    record {
      further = omega (arith, t.size);
      fits = t.fits;
      rest = (t.after, t.more);
      size = λ y is. ap (λ r. c.args.first + r.size)
          (c.index-rows-first.is ∙ get_or_default rows c.args.first x y c.requires.more ∙ sym is);
    }
