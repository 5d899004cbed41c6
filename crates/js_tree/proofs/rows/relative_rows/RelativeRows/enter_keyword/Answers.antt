use Rattle.std.proofs.Common.{[], ◌∷◌, ◌++◌, ap, sym, ◌∙◌}
use Rattle.std.proofs.lemmas.Grind.{flat_map-append}
use Rattle.json.specs.Print.{escape, escape_byte}
use Rattle.js_tree.specs.Rows.RelativeState.{node_above, open_nodes}
use Rattle.js_tree.proofs.RowsOfTrees.RelativeRowsCollected.{opening_is, opens, token_stands}
use Rattle.js_tree.proofs.rows.relative_rows.RelativeRows.enter_keyword.Goals as goal

pub returns-in_ok-in_arena : goal.returns-in_ok-in_arena
returns-in_ok-in_arena c =
    let found = c.innermost-above.ensures
    ∙ ap (λ xs. node_above (open_nodes xs [])) (c.as_slice.ensures.value ∙ c.in_ok-make_room.ensures.nodes) in
    let token = ap (λ n. 47 ∷ n) c.as_bytes-name.ensures.value ∙ sym (token_stands c.args.name.now c.requires) in
    let absolute = ap (λ z. escape c.args.schema.now ++ z) token
    ∙ sym (flat_map-append escape_byte c.args.schema.now (47 ∷ c.args.name.now)) in
    let k = c.as_bytes-keyword.ensures.value in
    let i = c.as_bytes-instance.ensures.value in
    opens c.args.self.now.rows.items _ c.open.new.self.rows.items c.args.self.now.nodes.items _
    c.open.new.self.nodes.items _ c.args.keyword.now (c.args.schema.now ++ 47 ∷ c.args.name.now)
    c.args.instance.now _ _
    (sym c.if-may_open.ensures) c.in_ok-make_room.ensures.rows c.in_ok-make_room.ensures.nodes k i
    (opening_is _ _ _ _ _ _ _ _ _ _ found k i (c.in_ok-slash.ensures ∙ ap escape c.behind-added.ensures) absolute
    (c.in_ok-in_arena.ensures ∙ ap escape c.behind.ensures))
    c.open.ensures.rows c.open.ensures.nodes (c.open.ensures.trims ∙ c.in_ok-make_room.ensures.trims)
