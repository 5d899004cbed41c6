use Rattle.std.proofs.Common.{◌≡◌, Some, option_map, slice_get, sym, ap, ◌∙◌}
use Rattle.std.proofs.lemmas.Option.{slice_get-get_or, slice_get-map}
use Rattle.js_assert.specs.Argument.{values}
use Rattle.js_doc.specs.Seen.{value_of}
use Rattle.js_eval.specs.Seen.{keyword_of}
use Rattle.js_eval.proofs.Holding.{item_ranked}
use Rattle.js_eval.proofs.cursors.list_cursor.ListCursor.next_in_list.Goals as goal

pub apply_at_rank-requires-clause-held : goal.apply_at_rank-requires-clause-held
apply_at_rank-requires-clause-held c =
    let k = c.args.self.now.at.keyword in
    let list = c.args.self.now.list.now in
    let i = c.args.self.now.next in
    let held = c.index-list-index.result in
    let there : slice_get list i ≡ Some held = slice_get-get_or list i held c.if-index-list.false
    ∙ ap Some (sym c.index-list-index.is) in
    let item : slice_get (values (value_of k.argument.now)) i ≡ Some (value_of held) =
    sym (ap (λ vs. slice_get vs i) c.requires.3) ∙ slice_get-map value_of list i ∙ ap (option_map value_of) there in
    item_ranked k.which (value_of c.args.self.now.at.schema.now) (keyword_of k) i (value_of held) k.known
    c.requires.1 c.requires.2 item
