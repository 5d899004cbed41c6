use Rattle.std.proofs.Common.{arith, sym, ◌∙◌}
use Rattle.js_tree.proofs.Nested.{is_root, root_sized, root_ends}
use Rattle.js_tree.proofs.collecting.nesting.is_root.Goals as goal

pub returns-then-row-eq0 : goal.returns-then-row-eq0
returns-then-row-eq0 c =
    let x = c.index-rows-number.result in (
      λ h. absurd cc,
      λ f. let s = root_sized c.args.rows.now c.args.number x f.0 f.1 c.requires.within
          c.index-rows-number.is in absurd (omega (arith, s, c.if-row-eq0.true)),
    )

pub returns : goal.returns
returns c =
    let x = c.index-rows-number.result in
    let f = c.requires.trees in (
      λ e. is_root c.args.rows.now c.args.number x f.0 f.1 c.requires.within c.index-rows-number.is
          (omega (arith, c.if-row-eq0.false)) (sym (c.ends_after.ensures f.0 f.1) ∙ e),
      λ f. root_ends c.args.rows.now c.args.number x f.0 c.ends_after.result f.1 c.requires.within
          c.index-rows-number.is c.ends_after.ensures,
    )
