use Rattle.std.proofs.Common.{slice_get, sym, ap, ◌∙◌}
use Rattle.js_doc.specs.Seen.{value_of}
use Rattle.js_bundle.specs.Place.{items_in}
use Rattle.js_bundle.proofs.SchemaBelow.{item_at, values_are}
use Rattle.js_bundle.proofs.finished.place_below.item_in_list.Goals as goal

pub returns-in-List : goal.returns-in-List
returns-in-List c =
    item_at c.as_slice.result.now c.in-List.items c.args.index c.get.result c.as_slice.ensures
    c.get.ensures.lookup.0 c.get.ensures.lookup.1
    ∙ ap (λ vs. slice_get vs c.args.index)
    (sym (values_are c.in-List.items) ∙ ap (λ d. items_in (value_of d)) (sym c.in-List.is))
