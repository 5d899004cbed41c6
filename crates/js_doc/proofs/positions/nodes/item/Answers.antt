use Rattle.std.proofs.Common.{◌≡◌, ◌+◌, ◌∷◌, decimal, drop, get_or, map, refl, sym, ap, ◌∙◌, subst, arith}
use Rattle.std.proofs.lemmas.Fmt.{decimal_injective}
use Rattle.std.proofs.lemmas.List.{drop_all, length-drop, length-map}
use Rattle.json.specs.Find.{InItems}
use Rattle.json.specs.Json.{after_end_array, no_items}
use Rattle.json.specs.Tape.{node_token}
use Rattle.json.specs.Token.{end_array}
use Rattle.json.specs.declared.tape.Node.TheVariants.{Object}
use Rattle.json.proofs.Found.{items_close, items_go_on, items_need_tokens}
use Rattle.js_doc.specs.Positions.{item_placed}
use Rattle.js_doc.proofs.TapeNodes.{here, no_close}
use Rattle.js_doc.proofs.TokenNumbers.{later_item, none_named, this_item}
use Rattle.js_doc.proofs.positions.nodes.item.Goals as goal
use Rattle.js_doc.proofs.positions.nodes.item.Goals.{then-at-nodes-via-then-at-nodes}
use Rattle.js_doc.proofs.positions.nodes.item.Goals.{then-at-nodes-via-else-at-nodes+then-is_end}

pub returns-in_default : goal.returns-in_default
returns-in_default c js given =
    let ns = c.args.nodes.now in let all = map node_token ns in
    none_named c.args.token.now js (drop c.args.first all) 0 c.args.first given
    (λ k l is. c.in_default.ensures.none refl k
    (omega (arith, l, length-drop c.args.first all, length-map ns node_token)) is)

pub loop-at-init : goal.loop-at-init
loop-at-init c js given = (js, 0, given, refl, omega arith)

pub returns-then-at-nodes : goal.returns-then-at-nodes
returns-then-at-nodes c js given =
    let ns = c.args.nodes.now in let all = map node_token ns in let at = c.loop-at.at in
    let l = c.loop-at.invariant js given in
    let done : l.0 ≡ no_items = elim c.then-at-nodes.branch [
      | then-at-nodes-via-then-at-nodes w ↦ absurd (items_need_tokens l.0 (subst (λ ts. InItems ts l.0)
          (drop_all at all (omega (arith, length-map ns node_token, w.if-at-nodes.true))) l.2))
      | then-at-nodes-via-else-at-nodes+then-is_end w ↦
          let closing : drop at all ≡ end_array ∷ drop (at + 1) all = here ns at (Object 0)
          (omega (arith, w.if-at-nodes.false)) ∙ ap (λ n. node_token n ∷ drop (at + 1) all) w.if-is_end.ensures in
          items_close _ l.0 (subst (λ ts. InItems ts l.0) closing l.2)
    ] in
    l.3 ∙ ap (item_placed c.args.token.now l.1 at) done

pub returns-then-left-eq0 : goal.returns-then-left-eq0
returns-then-left-eq0 c js given =
    let ns = c.args.nodes.now in let all = map node_token ns in let at = c.loop-at.at in
    let l = c.loop-at.invariant js given in
    let going = ap after_end_array (here ns at (Object 0) (omega arith))
    ∙ no_close (get_or ns at (Object 0)) _ c.if-is_end.ensures in
    let f = items_go_on (drop at all) l.0 going l.2 in
    let same : c.in-Some.wanted ≡ l.1 = omega (arith, l.4) in
    let this = this_item c.args.token.now l.1 at f.1 f.3 (c.in-Some.ensures.some ∙ ap decimal same) in
    (f.1, l.3 ∙ ap (item_placed c.args.token.now l.1 at) f.5 ∙ this, (f.0, f.2, f.4))

pub loop-at-preserved : goal.loop-at-preserved
loop-at-preserved c js given =
    let ns = c.args.nodes.now in let all = map node_token ns in let at = c.loop-at.at in
    let name = c.args.token.now in
    let l = c.loop-at.invariant js given in
    let going = ap after_end_array (here ns at (Object 0) (omega arith))
    ∙ no_close (get_or ns at (Object 0)) _ c.if-is_end.ensures in
    let f = items_go_on (drop at all) l.0 going l.2 in
    let past = c.after-at.ensures.value f.0 f.1 f.2 f.4 in
    let later = later_item name l.1 at f.1 f.3 (λ e. let same : c.in-Some.wanted
    ≡ l.1 = decimal_injective c.in-Some.wanted l.1 (omega arith) (omega (arith, l.4))
    (sym c.in-Some.ensures.some ∙ e) in
    omega (arith, l.4, same)) in (
      f.3,
      l.1 + 1,
      subst (λ ts. InItems ts f.3) past.0 f.6,
      l.3 ∙ ap (item_placed name l.1 at) f.5 ∙ later ∙ ap (λ n. item_placed name (l.1 + 1) n f.3) (sym past.1),
      omega (arith, l.4),
    )
