use Rattle.std.proofs.Common.{◌≡◌, ◌++◌, length, take, drop, map, ap, ◌∙◌, arith}
use Rattle.js_tree.specs.code.Compacting.{gathered}
use Rattle.js_tree.specs.FlatState.{row_of}
use Rattle.js_tree.specs.Forest.{tree, empty}
use Rattle.js_tree.proofs.Marks.{keeps, flat_form-flat_of, whole_slice}
use Rattle.js_tree.proofs.reducing.compacting.keep_rows.Goals as goal

pub mark-requires : goal.mark-requires
mark-requires c = let t = c.requires.0 in
    (tree t.root t.below empty, ap (map row_of) c.deref_mut.ensures.value ∙ (c.requires.1 ∙ flat_form-flat_of t))

pub returns : goal.returns
returns c = λ t e.
    let old = c.args.rows.now.items in
    let ok = c.args.rows.now.ok in
    let first : c.deref_mut.result.now ≡ old = c.deref_mut.ensures.value in
    let marks = c.mark.new.rows in
    let all = c.gather-count.new.rows in
    let m : length marks ≡ length old = c.mark.auto.rows ∙ ap length first in
    let s : take c.args.rows.now.len (marks ++ drop (length marks) old)
    ≡ marks = whole_slice c.args.rows.now.len marks old m (omega (arith, ok)) in
    let second : c.deref_mut-2.result.now ≡ marks = c.deref_mut-2.ensures.value ∙ s in
    let n : length all ≡ length marks = c.gather-count.auto.rows ∙ ap length second in
    let w : take c.args.rows.now.len (all ++ drop (length all) marks)
    ≡ all = whole_slice c.args.rows.now.len all marks n (omega (arith, m, ok)) in
    let most = c.gather-count.ensures.at_most in
    let same = ap length second in
    keeps c.args.keep t marks all c.truncate.new.self.items c.gather-count.result c.index_mut.result.now _
    (c.mark.ensures.marked (tree t.root t.below empty) (ap (map row_of) first ∙ (e ∙ flat_form-flat_of t)))
    (c.gather-count.ensures.gathered ∙ ap (λ xs. map row_of (take 1 xs) ++ gathered c.args.keep 0 (drop 1 xs)) second)
    (omega (arith, most, same, n))
    (c.truncate.ensures.items ∙ (ap (λ xs. take c.gather-count.result
    (take c.args.rows.now.len (all ++ drop (length all) xs))) s ∙ ap (take c.gather-count.result) w))
    (ap (λ r. (r.unit, c.gather-count.result)) c.index_mut.ensures.value)
