use Rattle.std.proofs.Common.{◌+◌, ◌≤◌, map, drop, get_or, length, sym, ap, ◌∙◌, subst, arith, ⊎_elim}
use Rattle.std.proofs.lemmas.List.{get_or_default, length-map}
use Rattle.json.specs.Json.{value}
use Rattle.json.specs.Tape.{node_token, LinkAt, Passes}
use Rattle.json.specs.declared.tape.Node.TheVariants.{Object, Null}
use Rattle.js_doc.proofs.TapeNodes.{here, one_token, by_link, goes_to}
use Rattle.js_doc.proofs.positions.nodes.after.Goals as goal

pub returns-in_default : goal.returns-in_default
returns-in_default c =
    let ns = c.args.nodes.now in let all = map node_token ns in let i = c.args.at in
    let n = get_or ns i (Object 0) in
    record {
      value = λ depth j rest e.
          let is = one_token n (drop (i + 1) all) j depth rest (λ a z. grind arith) (λ a z. grind arith)
          (ap (value depth) (sym (here ns i (Object 0) c.requires.0)) ∙ e) in
          let within : i + 1 ≤ length all = omega (arith, length-map ns node_token, c.requires.0) in
          (is, goes_to all i (i + 1) depth j rest (omega arith) within e is);
      later = omega arith;
    }

pub returns-in-Object-clause-value : goal.returns-in-Object-clause-value
returns-in-Object-clause-value c depth j rest e =
    let ns = c.args.nodes.now in let all = map node_token ns in let i = c.args.at in
    let end = c.in-Object.end in
    let linked = subst (LinkAt all i) (get_or_default ns i Null (Object 0) c.requires.0)
    (c.requires.1 i (omega arith) c.requires.0) in
    let link : Passes all i end = ⊎_elim (λ is. subst (LinkAt all i) is linked) (λ is. subst (LinkAt all i) is linked)
    c.in-Object.is in
    let is = by_link all i end depth j rest link e in
    (is, goes_to all i end depth j rest (omega (arith, link.2)) link.3 e is)

pub returns-in-Object-clause-later : goal.returns-in-Object-clause-later
returns-in-Object-clause-later c =
    let ns = c.args.nodes.now in let all = map node_token ns in let i = c.args.at in
    let linked = subst (LinkAt all i) (get_or_default ns i Null (Object 0) c.requires.0)
    (c.requires.1 i (omega arith) c.requires.0) in
    let link : Passes all i c.in-Object.end = ⊎_elim (λ is. subst (LinkAt all i) is linked)
    (λ is. subst (LinkAt all i) is linked) c.in-Object.is in link.2

pub returns-in-Object-2-clause-value : goal.returns-in-Object-2-clause-value
returns-in-Object-2-clause-value c depth j rest e =
    let ns = c.args.nodes.now in let all = map node_token ns in let i = c.args.at in
    let end = c.in-Object.end in
    let linked = subst (LinkAt all i) (get_or_default ns i Null (Object 0) c.requires.0)
    (c.requires.1 i (omega arith) c.requires.0) in
    let link : Passes all i end = ⊎_elim (λ is. subst (LinkAt all i) is linked) (λ is. subst (LinkAt all i) is linked)
    c.in-Object.is in
    let is = by_link all i end depth j rest link e in
    (is, goes_to all i end depth j rest (omega (arith, link.2)) link.3 e is)

pub returns-in-Object-2-clause-later : goal.returns-in-Object-2-clause-later
returns-in-Object-2-clause-later c =
    let ns = c.args.nodes.now in let all = map node_token ns in let i = c.args.at in
    let linked = subst (LinkAt all i) (get_or_default ns i Null (Object 0) c.requires.0)
    (c.requires.1 i (omega arith) c.requires.0) in
    let link : Passes all i c.in-Object.end = ⊎_elim (λ is. subst (LinkAt all i) is linked)
    (λ is. subst (LinkAt all i) is linked) c.in-Object.is in link.2
