use Rattle.std.proofs.Common.{map, get_or, sym, ap, ◌∙◌}
use Rattle.js_doc.specs.Seen.{pair_of}
use Rattle.js_doc.proofs.Ascending.{members_ascend-list}
use Rattle.js_doc.proofs.Placing.{get_found, named_stands}
use Rattle.js_doc.proofs.members.Members.get_with_hint.Goals as goal

pub returns-in-Some : goal.returns-in-Some
returns-in-Some c =
    let es = c.self.inside.entries.items in
    let seen = c.deref.result.now in
    let name = c.args.name.now in
    let hint = c.args.hint in
    let entry = c.in-Some.field-0.now in
    let same = c.deref.ensures.value in
    let ascends = members_ascend-list (map pair_of es) c.self.invariant.0 in
    let at = c.in-Some.ensures.lookup.1 in
    let stands = named_stands name seen hint entry c.as_str.result.now c.in-Some.ensures.lookup.3.0 at
    c.as_str.ensures (sym c.eq.ensures ∙ c.if-eq.true) in
    rw (← c.self.view_is)
    (get_found name seen es hint entry same ascends stands (at ∙ ap (λ ys. get_or ys hint entry) same))
