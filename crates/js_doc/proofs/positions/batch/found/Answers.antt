use Rattle.std.proofs.Common.{◌≡◌, None, Some, map, option_and_then, option_map, sym, ap, ap₂, ◌∙◌, arith}
use Rattle.std.proofs.lemmas.List.{length-map}
use Rattle.json.specs.Json.{document}
use Rattle.json.specs.Tape.{node_token}
use Rattle.js_doc.specs.Positions.{name_start, value_placed, spot_at, token_start}
use Rattle.js_doc.proofs.PositionsFound.{spots_nowhere, spots_there, within}
use Rattle.js_doc.proofs.positions.batch.found.Goals as goal

pub name_spot-requires : goal.name_spot-requires
name_spot-requires c =
    let ns = c.args.nodes.now in let at = c.in-Some.at in let t = c.requires.0 in
    let p = c.in-Some.ensures t.2 t.4 in
    (t.0, omega (arith, within (map node_token ns) at p.0 p.2, length-map ns node_token), c.requires.1)

pub value_end-requires : goal.value_end-requires
value_end-requires c =
    let ns = c.args.nodes.now in let at = c.in-Some.at in let t = c.requires.0 in
    let p = c.in-Some.ensures t.2 t.4 in
    (omega (arith, within (map node_token ns) at p.0 p.2, length-map ns node_token), t.1, c.requires.1)

pub returns-in-Some : goal.returns-in-Some
returns-in-Some c =
    let text = c.args.text.now in let pointer = c.args.pointer.now in let at = c.in-Some.at in
    let t = c.requires.0 in let p = c.in-Some.ensures t.2 t.4 in
    let there : option_and_then (value_placed pointer 0) (document text) ≡ Some (at, p.0) =
    ap (option_and_then (value_placed pointer 0)) t.3 ∙ ap (λ q. value_placed q 0 t.2) (sym c.tokens.ensures) ∙ p.1 in
    ap₂ (λ a b. Some (a, (c.value_end.result, b))) c.spot_of.ensures c.name_spot.ensures
    ∙ ap (λ e. Some (spot_at text (token_start at text), (e, option_map (spot_at text) (name_start at text))))
    (c.value_end.ensures p.0 p.2)
    ∙ sym (spots_there text pointer at p.0 there)

pub returns-in-None : goal.returns-in-None
returns-in-None c =
    let text = c.args.text.now in let pointer = c.args.pointer.now in let t = c.requires.0 in
    let nowhere : option_and_then (value_placed pointer 0) (document text) ≡ None =
    ap (option_and_then (value_placed pointer 0)) t.3 ∙ ap (λ q. value_placed q 0 t.2) (sym c.tokens.ensures)
    ∙ c.in-None.ensures t.2 t.4 in
    sym (spots_nowhere text pointer nowhere)
