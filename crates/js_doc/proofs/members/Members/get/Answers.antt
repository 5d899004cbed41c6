use Rattle.std.proofs.Common.{map, sym, subst}
use Rattle.js_doc.specs.Members.{IsAscending}
use Rattle.js_doc.specs.Seen.{pair_of}
use Rattle.js_doc.proofs.Ascending.{members_ascend-list}
use Rattle.js_doc.proofs.Placing.{get_found, get_none}
use Rattle.js_doc.proofs.members.Members.get.Goals as goal

pub search-requires : goal.search-requires
search-requires c =
    let ascends = members_ascend-list (map pair_of c.self.inside.entries.items) c.self.invariant.0 in
    subst (λ es. IsAscending (map pair_of es)) (sym c.as_slice.ensures.value) ascends

pub returns-in-Ok : goal.returns-in-Ok
returns-in-Ok c =
    let es = c.self.inside.entries.items in
    let seen = c.as_slice.result.now in
    let ascends = members_ascend-list (map pair_of es) c.self.invariant.0 in
    let found = c.in-Ok.ensures.ok in
    let same = c.as_slice.ensures.value in
    rw (← c.self.view_is)
    (get_found c.args.name.now seen es c.in-Ok.rank c.index.result.now same ascends found c.index.ensures)

pub returns-in-Err : goal.returns-in-Err
returns-in-Err c =
    let es = c.self.inside.entries.items in
    let seen = c.as_slice.result.now in
    let ascends = members_ascend-list (map pair_of es) c.self.invariant.0 in
    rw (← c.self.view_is)
    (get_none c.args.name.now seen es c.in-Err.field-0 c.as_slice.ensures.value ascends c.in-Err.ensures.err)
