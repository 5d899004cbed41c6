use Rattle.std.proofs.Common.{◌≤◌, map, length, set, sym, ap, ◌∙◌, subst, arith}
use Rattle.js_doc.specs.Members.{IsAscending}
use Rattle.js_doc.specs.Seen.{pair_of}
use Rattle.js_doc.specs.code.Places.{GoesTo}
use Rattle.js_doc.proofs.Ascending.{members_ascend-list}
use Rattle.js_doc.proofs.Placing.{goes_within, put_over, put_new, lawful_put}
use Rattle.js_doc.proofs.members.Members.put.Goals as goal

pub place-requires : goal.place-requires
place-requires c =
    let ascends = members_ascend-list (map pair_of c.self.inside.entries.items) c.self.invariant.0 in
    subst (λ es. IsAscending (map pair_of es)) (sym c.as_slice.ensures.value) ascends

pub invariant_of-self : goal.invariant_of-self
invariant_of-self c =
    let es = c.self.inside.entries.items in
    let ascends = members_ascend-list (map pair_of es) c.self.invariant.0 in
    let is = put_over _ c.args.name c.args.doc _ es c.in-Ok.rank c.as_str.ensures c.as_slice.ensures.value
    ascends c.in-Ok.ensures.ok in
    let placed = ap (λ e. map pair_of (set es c.in-Ok.rank e)) c.replace.ensures.after in
    lawful_put c.args.name c.args.doc es _ (placed ∙ is) c.self.invariant c.lawful.ensures

pub insert-requires : goal.insert-requires
insert-requires c =
    let es = c.self.inside.entries in
    let k = c.as_str.result.now in
    let at = c.in-Err.rank in
    let there : GoesTo k (map pair_of es.items) at =
    subst (λ ys. GoesTo k (map pair_of ys) at) c.as_slice.ensures.value c.in-Err.ensures.err in
    let fits : at ≤ length es.items = goes_within k es.items at there in
    omega (arith, fits, es.ok.0)

pub invariant_of-self-in-Continue-1 : goal.invariant_of-self-in-Continue-1
invariant_of-self-in-Continue-1 c =
    let items = c.in_ok-insert-in-Err.ensures.items in
    let is = put_new _ c.args.name c.args.doc _ _ _ c.in-Err.rank c.as_str.ensures c.as_slice.ensures.value items
    c.in-Err.ensures.err in
    lawful_put c.args.name c.args.doc _ _ is c.self.invariant c.lawful.ensures

pub returns-in-Ok-clause-ok : goal.returns-in-Ok-clause-ok
returns-in-Ok-clause-ok c =
    let es = c.self.inside.entries.items in
    let ascends = members_ascend-list (map pair_of es) c.self.invariant.0 in
    let is = put_over _ c.args.name c.args.doc _ es c.in-Ok.rank c.as_str.ensures c.as_slice.ensures.value
    ascends c.in-Ok.ensures.ok in
    rw (← c.self.view_is) (ap (λ e. map pair_of (set es c.in-Ok.rank e)) c.replace.ensures.after ∙ is)

pub returns-in_ok-insert-in-Err-clause-ok : goal.returns-in_ok-insert-in-Err-clause-ok
returns-in_ok-insert-in-Err-clause-ok c =
    let items = c.in_ok-insert-in-Err.ensures.items in
    rw (← c.self.view_is)
    (put_new _ c.args.name c.args.doc _ _ _ c.in-Err.rank c.as_str.ensures c.as_slice.ensures.value
    items c.in-Err.ensures.err)
