use Rattle.std.proofs.Common.{◌≡◌, map, drop, option_and_then, sym, ap, ◌∙◌, subst, arith}
use Rattle.std.proofs.lemmas.List.{length-map}
use Rattle.json.specs.Find.{BeginsWith}
use Rattle.json.specs.Lex.{tokens}
use Rattle.json.specs.Tape.{Linked, node_token}
use Rattle.js_doc.specs.Positions.{value_placed, token_start}
use Rattle.js_doc.proofs.PositionsFound.{some_of, within}
use Rattle.js_doc.proofs.TokenStarts.{begins_there}
use Rattle.js_doc.proofs.positions.position_in.Goals as goal

pub value_end-requires : goal.value_end-requires
value_end-requires c =
    let ns = c.nodes-nodes.result.now in let all = map node_token ns in let at = c.in-Some.at in
    let d = some_of _ c.in-Ok.ensures.ok.1 in
    let begins = subst (λ ts. BeginsWith ts d.0) (sym c.nodes-nodes.ensures.tokens) (c.in-Ok.ensures.value d.0 d.1) in
    let p = c.in-Some.ensures d.0 begins in (
      omega (arith, within all at p.0 p.2, length-map ns node_token),
      subst (λ ts. Linked ts 0 ns) (sym c.nodes-nodes.ensures.tokens) c.nodes-nodes.ensures.links,
    )

pub name_start-requires : goal.name_start-requires
name_start-requires c =
    let ns = c.nodes-nodes.result.now in let all = map node_token ns in let at = c.in-Some.at in
    let d = some_of _ c.in-Ok.ensures.ok.1 in
    let begins = subst (λ ts. BeginsWith ts d.0) (sym c.nodes-nodes.ensures.tokens) (c.in-Ok.ensures.value d.0 d.1) in
    let p = c.in-Some.ensures d.0 begins in (
      c.nodes-nodes.ensures.tokens ∙ c.in-Ok.ensures.ok.0,
      omega (arith, within all at p.0 p.2, length-map ns node_token),
    )

pub returns-in-Some-clause-begins : goal.returns-in-Some-clause-begins
returns-in-Some-clause-begins c =
    let text = c.args.text.now in let pointer = c.args.pointer.now in let at = c.in-Some.at in
    let d = some_of _ c.in-Ok.ensures.ok.1 in
    let begins = subst (λ ts. BeginsWith ts d.0) (sym c.nodes-nodes.ensures.tokens) (c.in-Ok.ensures.value d.0 d.1) in
    let p = c.in-Some.ensures d.0 begins in
    let same = c.nodes-nodes.ensures.tokens ∙ c.in-Ok.ensures.ok.0 in
    let start : c.token_start.result ≡ token_start at text = c.token_start.ensures
    ∙ ap (token_start at) c.as_bytes.ensures.value in
    let there = begins_there text c.nodes-nodes.result.now at p.0 same p.2 in (
      at,
      p.0,
      ap (option_and_then (value_placed pointer 0)) d.1 ∙ ap (λ q. value_placed q 0 d.0) (sym c.tokens.ensures) ∙ p.1,
      subst (λ o. BeginsWith (tokens (drop o text)) p.0) (sym start) there,
    )
