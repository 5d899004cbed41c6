use Rattle.std.proofs.Common.{◌≡◌, ◌+◌, ◌∷◌, [], drop, option_and_then, ap, ◌∙◌, arith}
use Rattle.std.proofs.lemmas.List.{drop_all, drop_more}
use Rattle.js_doc.specs.Positions.{value_placed}
use Rattle.js_doc.proofs.positions.nodes.value_placed.Goals as goal

pub returns-in-None : goal.returns-in-None
returns-in-None c j begins =
    let l = c.loop-token.invariant j begins in let at = c.loop-token.at in let i = c.loop-token.token-index in
    let first : drop i c.args.pointer.now
    ≡ c.as_str.result.now ∷ drop (i + 1) c.args.pointer.now = grind (arith, drop_more) in
    l.2 ∙ ap (λ p. value_placed p at l.0) first
    ∙ ap (option_and_then (λ p. value_placed (drop (i + 1) c.args.pointer.now) p.0 p.1)) (c.in-None.ensures l.0 l.1)

pub loop-token-preserved : goal.loop-token-preserved
loop-token-preserved c j begins =
    let l = c.loop-token.invariant j begins in let at = c.loop-token.at in let i = c.loop-token.token-index in
    let first : drop i c.args.pointer.now
    ≡ c.as_str.result.now ∷ drop (i + 1) c.args.pointer.now = grind (arith, drop_more) in
    let found = c.in-Some.ensures l.0 l.1 in (
      found.0,
      found.2,
      l.2 ∙ ap (λ p. value_placed p at l.0) first
          ∙ ap (option_and_then (λ p. value_placed (drop (i + 1) c.args.pointer.now) p.0 p.1)) found.1,
    )

pub returns : goal.returns
returns c j begins =
    let l = c.loop-token.invariant j begins in let i = c.loop-token.token-index in
    let over : drop i c.args.pointer.now ≡ [] = drop_all i c.args.pointer.now (omega arith) in
    (l.0, l.2 ∙ ap (λ p. value_placed p c.loop-token.at l.0) over, l.1)
