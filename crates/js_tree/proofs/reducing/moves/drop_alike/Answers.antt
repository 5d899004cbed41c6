use Rattle.std.proofs.Common.{◌≡◌, ◌∙◌, ◌<◌, ℕ, Bool, List, sym, ap, length, arith, take, true, false, Some, get_or}
use Rattle.js_tree.specs.Alike.{same_but_keyword}
use Rattle.js_tree.specs.Forest.{forest_of}
use Rattle.js_tree.specs.Merged.{has_alike}
use Rattle.js_tree.specs.OutputUnit.{noted}
use Rattle.js_tree.specs.Result.{ResultTree}
use Rattle.js_tree.proofs.AlikeUnits.{some_tree}
use Rattle.js_tree.proofs.Siblings.{alike_gone, none_alike}
use Rattle.js_tree.proofs.reducing.moves.drop_alike.Goals as goal

-- what is found among the first trees of the slice is so among those of the list
found_there : (ts us : List ResultTree) (i : ℕ) (found v : Bool) → us ≡ ts
    → found ≡ has_alike same_but_keyword (forest_of (take i us)) (get_or us i some_tree).root
    (get_or us i some_tree).below → found ≡ v
    → has_alike same_but_keyword (forest_of (take i ts)) (get_or ts i some_tree).root (get_or ts i some_tree).below ≡ v
found_there ts us i found v e is v_is =
    ap (λ xs. has_alike same_but_keyword (forest_of (take i xs)) (get_or xs i some_tree).root
    (get_or xs i some_tree).below) (sym e) ∙ sym is ∙ v_is

pub returns-then-not-comes_again-clause-merged : goal.returns-then-not-comes_again-clause-merged
returns-then-not-comes_again-clause-merged c =
    let ts = c.args.trees.now.items in
    let h : c.args.i < length ts = omega (arith, c.args.trees.now.ok.0, c.requires) in
    none_alike noted same_but_keyword ts c.args.i some_tree h
    (found_there ts _ c.args.i _ false c.as_slice.ensures.value (c.comes_again.ensures some_tree)
    c.if-not-comes_again.true)

pub returns-clause-merged : goal.returns-clause-merged
returns-clause-merged c =
    let ts = c.args.trees.now.items in
    let h : c.args.i < length ts = omega (arith, c.args.trees.now.ok.0, c.requires) in
    let found = found_there ts _ c.args.i _ true c.as_slice.ensures.value (c.comes_again.ensures some_tree)
    c.if-not-comes_again.false in
    alike_gone noted same_but_keyword ts c.args.i some_tree h found
    ∙ ap (λ us. Some (forest_of us)) (sym c.remove.ensures.by_index.2)
