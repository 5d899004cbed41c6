use Rattle.std.proofs.Common.{map, sym, ◌∙◌, ap}
use Rattle.std.specs.List.{list_any}
use Rattle.js_doc.specs.Seen.{value_of}
use Rattle.js_assert.specs.AnyType.{any_type_argument, any_type_keyword, any_type_says, is_type_of}
use Rattle.js_assert.specs.Types.{type_name}
use Rattle.js_assert.proofs.ListedValues.{strings_names, list_any-map}
use Rattle.js_assert.proofs.any_type.AnyTypeTest.holds.Goals as goal

pub returns-in-Types : goal.returns-in-Types
returns-in-Types c =
    let ts = c.in-Types.several.items in
    let v = value_of c.args.value.now in
    c.is_of_any.ensures ∙ ap (list_any (λ t. is_type_of v (type_name t))) c.as_slice.ensures.value
    ∙ sym (list_any-map type_name (is_type_of v) ts)
    ∙ sym (ap (list_any (is_type_of v)) (strings_names (map type_name ts)))
    ∙ ap (λ t. any_type_says (any_type_argument t) (any_type_keyword t) v) (sym c.in-Types.is)
