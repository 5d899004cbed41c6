use Rattle.std.proofs.Common.{map, sym, ap, ◌∙◌, subst₂, rules}
use Rattle.std.proofs.lemmas.Fn.{always_returns_same}
use Rattle.js_doc.specs.Order.{order}
use Rattle.js_doc.specs.Seen.{value_of}
use Rattle.js_assert.specs.code.Choices.{is_among, value_in, IsIndex}
use Rattle.js_assert.proofs.Halves.{halves}
use Rattle.js_assert.proofs.choices.Choices.contains.Goals as goal

pub returns : goal.returns
returns c =
    let v = value_of c.args.value.now in
    let docs = c.as_slice-docs in
    let ds = docs.result.now in
    let s = c.binary_search_by in
    let index : IsIndex ds c.deref.result.now =
    subst₂ IsIndex (sym docs.ensures.value) (sym c.deref.ensures.value) c.self.invariant in
    c.is_ok.ensures.value ∙ halves (value_in ds) v c.deref.result.now s.result index.0 s.ensures.bound
    (s.ensures.position (λ y. order (value_in ds y) v) (always_returns_same _ _ _ (λ a r f' k. search rules)))
    ∙ index.1 v ∙ ap (λ xs. is_among v (map value_of xs)) docs.ensures.value ∙ ap (is_among v) c.self.view_is
