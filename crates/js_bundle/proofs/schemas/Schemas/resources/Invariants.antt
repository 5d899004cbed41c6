use Rattle.std.proofs.Common.{◌≡◌, ◌++◌, map, drop}
use Rattle.js_bundle.specs.Resource.{sites}
use Rattle.js_bundle.specs.Schemas.{numbered, resources_at, lent}
use Rattle.js_bundle.proofs.schemas.Schemas.resources.Given as goal

abbrev pub invariant-loop-number : goal.invariant-loop-number
invariant-loop-number l =
    map lent l.resources.items ++ numbered resources_at l.number (drop l.number (sites l.self))
    ≡ numbered resources_at 0 (sites l.self)
