use Rattle.js_doc.proofs.PartLists.{item_list-items}
use Rattle.js_assert.proofs.argument_shape.name_list.Goals as goal

pub returns-in-List-clause-shape : goal.returns-in-List-clause-shape
returns-in-List-clause-shape c =
    rw (c.in-List.is, item_list-items c.in-List.items) (rw c.as_slice.ensures at c.distinct_strings.ensures.shape)

pub returns-in-List-clause-refused : goal.returns-in-List-clause-refused
returns-in-List-clause-refused c =
    rw (c.in-List.is, item_list-items c.in-List.items) (rw c.as_slice.ensures at c.distinct_strings.ensures.refused)
