use Rattle.std.proofs.Common.{◌≡◌, ◌+◌, ◌∷◌, drop, get_or, map, sym, ap, ◌∙◌, subst, arith}
use Rattle.std.proofs.lemmas.List.{drop_all, length-map}
use Rattle.json.specs.Find.{BeginsWith}
use Rattle.json.specs.Json.{array, object}
use Rattle.json.specs.Tape.{node_token}
use Rattle.json.specs.declared.tape.Node.TheVariants.{Array, Object}
use Rattle.json.proofs.Found.{not_empty, opened}
use Rattle.js_doc.specs.Positions.{part_placed}
use Rattle.js_doc.specs.code.Nodes.{IsPlaced}
use Rattle.js_doc.proofs.TapeNodes.{an_array, an_object, here, no_part}
use Rattle.js_doc.proofs.positions.nodes.part.Goals as goal

pub returns-then-at-nodes : goal.returns-then-at-nodes
returns-then-at-nodes c j begins =
    let ns = c.args.nodes.now in let all = map node_token ns in
    absurd (not_empty j (subst (λ ts. BeginsWith ts j)
    (drop_all c.args.at all (omega (arith, length-map ns node_token, c.if-at-nodes.true))) begins))

pub returns-in-Array : goal.returns-in-Array
returns-in-Array c j begins =
    let ns = c.args.nodes.now in let all = map node_token ns in let at = c.args.at in
    let rest = drop (at + 1) all in let end = c.in-Array.field-0 in
    let first : drop at all ≡ node_token (Array end) ∷ rest = here ns at (Object 0) (omega arith)
    ∙ ap (λ n. node_token n ∷ rest) c.in-Array.is in
    let now = subst (λ ts. BeginsWith ts j) first begins in
    let shape = an_array end rest j now in
    let inside = opened (node_token (Array end) ∷ rest) (array shape.0)
    (subst (BeginsWith (node_token (Array end) ∷ rest)) shape.1 now) in
    subst (λ v. IsPlaced ns c.item.result (part_placed c.args.token.now at v)) (sym shape.1)
    (c.item.ensures shape.0 inside)

pub returns-in-Object : goal.returns-in-Object
returns-in-Object c j begins =
    let ns = c.args.nodes.now in let all = map node_token ns in let at = c.args.at in
    let rest = drop (at + 1) all in let end = c.in-Object.field-0 in
    let first : drop at all ≡ node_token (Object end) ∷ rest = here ns at (Object 0) (omega arith)
    ∙ ap (λ n. node_token n ∷ rest) c.in-Object.is in
    let now = subst (λ ts. BeginsWith ts j) first begins in
    let shape = an_object end rest j now in
    let inside = opened (node_token (Object end) ∷ rest) (object shape.0)
    (subst (BeginsWith (node_token (Object end) ∷ rest)) shape.1 now) in
    subst (λ v. IsPlaced ns c.member.result (part_placed c.args.token.now at v)) (sym shape.1)
    (c.member.ensures shape.0 inside)

pub returns-in_default : goal.returns-in_default
returns-in_default c j begins =
    let ns = c.args.nodes.now in let at = c.args.at in
    no_part c.args.token.now at (get_or ns at (Object 0)) _ j c.in_default.not-Object c.in_default.not-Array
    (subst (λ ts. BeginsWith ts j) (here ns at (Object 0) (omega arith)) begins)
