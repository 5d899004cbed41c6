use Rattle.std.proofs.Common.{◌≡◌, map, true, false, sym, subst}
use Rattle.js_doc.specs.Members.{IsAscending}
use Rattle.js_doc.specs.Seen.{pair_of}
use Rattle.js_doc.proofs.Ascending.{members_ascend-list}
use Rattle.js_doc.proofs.Placing.{stands_or_goes}
use Rattle.js_doc.proofs.members.Members.goes_last.Goals as goal

pub place-requires : goal.place-requires
place-requires c =
    let ascends = members_ascend-list (map pair_of c.self.inside.entries.items) c.self.invariant.0 in
    subst (λ es. IsAscending (map pair_of es)) (sym c.as_slice.ensures.value) ascends

pub returns-in-Ok : goal.returns-in-Ok
returns-in-Ok c =
    let es = c.self.inside.entries.items in
    let ascends = members_ascend-list (map pair_of es) c.self.invariant.0 in
    let stands = stands_or_goes _ _ es _ _ c.as_slice.ensures.value ascends c.in-Ok.ensures.ok in
    rw (← c.self.view_is) (λ no. absurd (let x : false ≡ true = no in cc), λ goes. absurd (stands goes))
