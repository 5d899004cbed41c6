use Rattle.js_assert.proofs.ListedValues.{listed_items}
use Rattle.js_eval.proofs.instance.array_in.Goals as goal

pub returns-in-List : goal.returns-in-List
returns-in-List c = rw (c.in-List.is, listed_items c.in-List.items) c.as_slice.ensures
