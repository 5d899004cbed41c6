use Rattle.std.proofs.Common.{map, subst}
use Rattle.js_bundle.specs.Schemas.{step_of}
use Rattle.js_bundle.specs.code.PlaceBelow.{IsNumberAt}
use Rattle.js_bundle.specs.code.CheckedSite.{checked_site_of}
use Rattle.js_bundle.proofs.Finding.HeldByNumber.{name_rank}
use Rattle.js_bundle.proofs.finished.place_below.rank_in.Goals as goal

pub returns-in-Name : goal.returns-in-Name
returns-in-Name c = λ n h.
    let checked_sites = map checked_site_of c.args.sites.now in
    let places = c.args.places.now in
    name_rank checked_sites places c.in-Name.name.now c.rank_by_name.result n c.rank_by_name.ensures
    (subst (λ s. IsNumberAt checked_sites places (step_of s) n) c.in-Name.is h)
