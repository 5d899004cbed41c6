use Rattle.std.proofs.Common.{◌≡◌, ◌∙◌, ◌<◌, ap, length, get_or, arith, sym}
use Rattle.js_tree.specs.Alike.{same_but_keyword}
use Rattle.js_tree.specs.Forest.{forest_of, node_count}
use Rattle.js_tree.proofs.Forests.{fewer_nodes}
use Rattle.js_tree.proofs.AlikeTrees.{other_length}
use Rattle.js_tree.proofs.reducing.likeness.+alike.Goals as goal

pub all_alike-returns-then-count-b : goal.all_alike-returns-then-count-b
all_alike-returns-then-count-b t c = sym (other_length same_but_keyword c.args.a.now c.args.b.now c.if-count-b.true)

pub are_alike-all_alike-requires : goal.are_alike-all_alike-requires
are_alike-all_alike-requires t c =
    let e : node_count (forest_of c.as_slice.result.now) ≡ node_count c.args.a.now.below =
    ap (λ ts. node_count (forest_of ts)) c.as_slice.ensures ∙ ap (λ t. node_count t.below) c.a.view_is in
    (omega (arith, e, c.decreases), tt)

pub all_alike-are_alike-requires : goal.all_alike-are_alike-requires
all_alike-are_alike-requires t c =
    let h : c.loop-i.i < length c.args.a.now = omega arith in
    let e : node_count c.index-a-i.result.below ≡ node_count (get_or c.args.a.now c.loop-i.i c.index-a-i.result).below =
    ap (λ t. node_count t.below) c.index-a-i.is in
    (omega (arith, e, fewer_nodes c.args.a.now c.loop-i.i c.index-a-i.result h, c.decreases), tt)
