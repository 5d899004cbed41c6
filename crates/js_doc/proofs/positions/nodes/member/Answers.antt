use Rattle.std.proofs.Common.{◌≡◌, ◌+◌, ◌∷◌, None, Some, if◌then◌else◌, drop, get_or, map}
use Rattle.std.proofs.Common.{refl, sym, ap, ◌∙◌, subst, arith}
use Rattle.std.proofs.lemmas.List.{length-drop, length-map}
use Rattle.json.specs.Find.{InMembers}
use Rattle.json.specs.Json.{no_members}
use Rattle.json.specs.Tape.{node_token}
use Rattle.json.specs.Token.{key}
use Rattle.json.specs.declared.tape.Node.TheVariants.{Object}
use Rattle.json.proofs.Found.{members_close, members_go_on, members_short}
use Rattle.js_doc.specs.Lookup.{is_text}
use Rattle.js_doc.specs.Positions.{member_placed}
use Rattle.js_doc.specs.code.Nodes.{IsPlaced}
use Rattle.js_doc.proofs.TapeNodes.{here, no_key}
use Rattle.js_doc.proofs.TokenNumbers.{newer, older}
use Rattle.js_doc.proofs.positions.nodes.member.Goals as goal
use Rattle.js_doc.proofs.positions.nodes.member.Goals.{then-eq, else-eq}

pub loop-at-init : goal.loop-at-init
loop-at-init c ms given = (ms, None, given, refl, refl)

pub returns-in_default : goal.returns-in_default
returns-in_default c ms given =
    let ns = c.args.nodes.now in let all = map node_token ns in let at = c.loop-at.at in
    let l = c.loop-at.invariant ms given in
    let n = get_or ns at (Object 0) in
    let done = members_close (node_token n) _ l.0 (no_key n (λ s e. grind arith))
    (subst (λ ts. InMembers ts l.0) (here ns at (Object 0) (omega arith)) l.2) in
    subst (IsPlaced ns c.loop-at.found) (sym (l.4 ∙ ap (member_placed c.args.name.now l.1 at) done)) l.3

pub loop-at-preserved : goal.loop-at-preserved
loop-at-preserved c ms given =
    let ns = c.args.nodes.now in let all = map node_token ns in let at = c.loop-at.at in
    let name = c.args.name.now in let k = c.in-Key.key.now in
    let l = c.loop-at.invariant ms given in
    let named : drop at all ≡ key k ∷ drop (at + 1) all = here ns at (Object 0) (omega arith)
    ∙ ap (λ n. node_token n ∷ drop (at + 1) all) c.in-Key.is in
    let f = members_go_on k (drop (at + 1) all) l.0 (subst (λ ts. InMembers ts l.0) named l.2) in
    let past = c.after-at.ensures.value f.0 f.1 f.2 f.4 in
    let now = if is_text k name then Some (at + 1, f.1) else l.1 in
    let found : IsPlaced ns c.if-eq.found now = elim c.if-eq.branch [
      | then-eq w ↦ newer ns c.if-eq.found l.1 (at + 1) f.1 (is_text k name)
          (sym c.eq.ensures ∙ w.if-eq.true) w.found-is (f.0, f.2, f.4)
      | else-eq w ↦ older ns c.if-eq.found c.loop-at.found l.1 (at + 1) f.1 (is_text k name)
          (sym c.eq.ensures ∙ w.if-eq.false) w.found-is l.3
    ] in (
      f.3,
      now,
      subst (λ ts. InMembers ts f.3) past.0 f.6,
      found,
      l.4 ∙ ap (member_placed name l.1 at) f.5 ∙ ap (λ n. member_placed name now n f.3) (sym past.1),
    )

pub returns : goal.returns
returns c ms given =
    let ns = c.args.nodes.now in let all = map node_token ns in let at = c.loop-at.at in
    let l = c.loop-at.invariant ms given in
    let done : l.0 ≡ no_members = members_short (drop at all) l.0
    (omega (arith, length-drop at all, length-map ns node_token)) l.2 in
    subst (IsPlaced ns c.loop-at.found) (sym (l.4 ∙ ap (member_placed c.args.name.now l.1 at) done)) l.3
