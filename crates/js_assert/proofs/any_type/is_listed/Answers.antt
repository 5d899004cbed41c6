use Rattle.js_doc.proofs.PartLists.{item_list-items}
use Rattle.js_assert.proofs.any_type.is_listed.Goals as goal

pub returns : goal.returns
returns c = rw (item_list-items c.args.choices.now) c.contains.ensures
