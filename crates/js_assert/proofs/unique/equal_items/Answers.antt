use Rattle.std.proofs.Common.{◌≡◌, Some, None, string_bytes, sym, ap, ◌∙◌}
use Rattle.std.proofs.lemmas.Result.{IfOk-weaker}
use Rattle.js_doc.specs.Seen.{value_of}
use Rattle.js_doc.specs.Parts.{items_of}
use Rattle.js_assert.specs.Arrays.{equal_pair, pair_text}
use Rattle.js_doc.proofs.PartLists.{item_list-items}
use Rattle.js_assert.proofs.unique.equal_items.Goals as goal

pub returns-in-Some : goal.returns-in-Some
returns-in-Some c =
    let found : Some c.in-Some.pair ≡ equal_pair 0 c.in-List.items = sym c.in-Some.is ∙ c.in_ok-pair.ensures
    ∙ ap (equal_pair 0) c.as_slice.ensures in
    let all = sym (item_list-items c.in-List.items) ∙ ap (λ d. items_of (value_of d)) (sym c.in-List.is) in
    IfOk-weaker c.equal_text.result _ (λ s. string_bytes s ≡ pair_text (equal_pair 0 (items_of
    (value_of c.args.value.now)))) (λ s e. e ∙ ap pair_text (found ∙ ap (equal_pair 0) all)) c.equal_text.ensures

pub returns-in-None : goal.returns-in-None
returns-in-None c =
    let found : None ≡ equal_pair 0 c.in-List.items = sym c.in-None.is ∙ c.in_ok-pair.ensures
    ∙ ap (equal_pair 0) c.as_slice.ensures in
    let all = sym (item_list-items c.in-List.items) ∙ ap (λ d. items_of (value_of d)) (sym c.in-List.is) in
    c.new-in-None.ensures.bytes ∙ ap pair_text (found ∙ ap (equal_pair 0) all)
