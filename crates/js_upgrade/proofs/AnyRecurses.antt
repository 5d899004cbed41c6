-- Whether one of the resources recurses.
use Rattle.std.proofs.Common.{◌≡◌, List, [], ◌∷◌, ◌||◌, map, refl, ap}
use Rattle.std.specs.List.{list_any}
use Rattle.js_upgrade.specs.Resource.{recurses}
use Rattle.js_upgrade.specs.Seen.{resource_seen}
use Rattle.js_upgrade.specs.declared.resource.Resource.{Resource}

pub any_recurses : (all : List Resource)
    → list_any recurses (map resource_seen all) ≡ list_any (λ r. recurses (resource_seen r)) all
any_recurses [] = refl
any_recurses (r ∷ all) = ap (λ b. recurses (resource_seen r) || b) (any_recurses all)
