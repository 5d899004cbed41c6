use Rattle.std.proofs.Common.{[], ◌∷◌, ap, ◌∙◌}
use Rattle.js_tree.specs.Forest.{forest_of, ◌⊹◌}
use Rattle.js_tree.specs.Seen.{note_of}
use Rattle.js_tree.proofs.Forests.{forest_of-append}
use Rattle.js_tree.proofs.RowsOfTrees.PlacedRows.{with_head}
use Rattle.js_tree.proofs.rows.whole_tree.add_node.Goals as goal

pub returns-clause-trees : goal.returns-clause-trees
returns-clause-trees c =
    λ k a i at is.
    let old = c.args.trees.now.items in
    let h = c.in_ok-head.ensures k a i at is in
    let moved = with_head c.args.row.now k a i _ _ _ (forest_of c.args.below.items) _ h.0 h.1 h.2
    (ap note_of c.replace-note.ensures.value) in
    ap forest_of c.in_ok-push.ensures.items
    ∙ (forest_of-append old (c.of_node.result ∷ [])
    ∙ ap (λ s. forest_of old ⊹ forest_of (s ∷ [])) (c.of_node.ensures ∙ moved))

pub returns-clause-up : goal.returns-clause-up
returns-clause-up c = record {
  shorter_keyword = c.go_back.ensures.shorter_keyword;
  shorter_instance = c.go_back.ensures.shorter_instance;
  keyword_room = c.go_back.ensures.keyword_room;
  instance_room = c.go_back.ensures.instance_room;
}
