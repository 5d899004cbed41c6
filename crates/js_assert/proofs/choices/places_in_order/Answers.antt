use Rattle.std.proofs.Common.{◌≡◌, map, take, ap, ◌∙◌, rules, is_lt}
use Rattle.std.proofs.lemmas.Fn.{always_returns_same}
use Rattle.std.proofs.lemmas.List.{take_all}
use Rattle.std.proofs.lemmas.List.Sorted.{ranks_by}
use Rattle.js_doc.specs.Order.{order, order-total}
use Rattle.js_doc.specs.Seen.{value_of}
use Rattle.js_assert.specs.code.Choices.{is_among, value_in}
use Rattle.js_assert.proofs.Halves.{among_permutation}
use Rattle.js_assert.proofs.choices.places_in_order.Goals as goal

pub returns : goal.returns
returns c =
    let l = c.loop-i in
    let ds = c.args.docs.now in
    let s = c.sort_unstable_by in
    let all : take l.i ds ≡ ds = take_all l.i ds (search rules) in (
      s.ensures.sorted (λ i j. is_lt (order (value_in ds i) (value_in ds j))) (ranks_by order-total (value_in ds))
          (always_returns_same _ _ _ (λ a r f' k. search rules)),
      λ v. among_permutation (value_in ds) v l.places.items s.new.self.items s.ensures.permutation
          ∙ ap (is_among v) (l.invariant.listed ∙ ap (map value_of) all),
    )
