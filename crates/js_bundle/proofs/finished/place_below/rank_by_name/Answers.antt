use Rattle.std.proofs.Common.{map, rules, of_calls}
use Rattle.std.proofs.lemmas.Fn.{always_returns_same}
use Rattle.js_bundle.specs.code.PlaceBelow.{stands_before}
use Rattle.js_bundle.specs.code.CheckedSite.{checked_site_of}
use Rattle.js_bundle.proofs.Finding.RankOfName.{one_point, parted}
use Rattle.js_bundle.proofs.finished.place_below.rank_by_name.Goals as goal

pub returns : goal.returns
returns c = λ n h.
    let places = c.args.places.now in
    let test = stands_before (map checked_site_of c.args.sites.now) c.args.name.now in
    let point = c.partition_point.ensures.partitioned test
    (always_returns_same _ _ _ (λ a r f k. search (rules, of_calls))) (parted test places n h.1) in
    one_point test places c.partition_point.result n c.partition_point.ensures.bound h.0 point h.1
