use Rattle.std.proofs.Common.{◌≡◌, [], sym, ap, ◌∙◌, rules}
use Rattle.std.proofs.lemmas.Result.{err_from_is_err_and}
use Rattle.js_doc.specs.Seen.{value_of}
use Rattle.js_assert.specs.ArgumentShape.{are_new_types, is_type}
use Rattle.js_assert.proofs.TypeShapes.{list_type}
use Rattle.js_assert.proofs.argument_shape.types.Goals as goal

pub returns-in_err-distinct_types-in-List-clause-refused :
    goal.returns-in_err-distinct_types-in-List-clause-refused
returns-in_err-distinct_types-in-List-clause-refused c =
    let some : c.in-List.items ≡ [] → ⊥ = search rules in
    let shape = ap is_type (ap value_of c.in-List.is) ∙ list_type c.in-List.items some in
    let p = err_from_is_err_and c.from_residual.result c.from_residual.ensures.1 in
    rw (p.1, p.2, shape) (rw c.as_slice.ensures at c.in_err-distinct_types-in-List.ensures.refused)

pub returns-in_ok-distinct_types-in-List-clause-shape :
    goal.returns-in_ok-distinct_types-in-List-clause-shape
returns-in_ok-distinct_types-in-List-clause-shape c =
    let some : c.in-List.items ≡ [] → ⊥ = search rules in
    ap is_type (ap value_of c.in-List.is) ∙ list_type c.in-List.items some
    ∙ sym (ap (are_new_types []) c.as_slice.ensures) ∙ c.in_ok-distinct_types-in-List.ensures.shape
