use Rattle.std.proofs.Common.{◌≡◌, ◌+◌, sym, ap, ◌∙◌, arith}
use Rattle.js_bundle.proofs.Indexing.SharedTokens.{shared_ends}
use Rattle.js_bundle.proofs.index.text_prefix.tokens_alike.Goals as goal

pub returns : goal.returns
returns c =
    let i = c.loop-i.i in
    let low = c.loop-i-test.false in
    let high = c.loop-i.auto.i-end in
    let most = c.min-most.ensures in
    let end : i ≡ c.min-most.result = omega (arith, low, high) in
    let none : i + 0 ≡ c.min-most.result = omega (arith, end) in
    sym (c.loop-i.invariant ∙ ap (λ n. i + n) (shared_ends c.args.tokens.now c.args.others.now i (end ∙ most)) ∙ none)
