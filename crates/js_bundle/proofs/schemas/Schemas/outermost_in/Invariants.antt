use Rattle.std.proofs.Common.{◌≡◌, drop}
use Rattle.js_bundle.specs.Resource.{sites}
use Rattle.js_bundle.specs.ResourceNumber.{roots_at}
use Rattle.js_bundle.specs.Target.{outermost}
use Rattle.js_bundle.proofs.schemas.Schemas.outermost_in.Given as goal

abbrev pub invariant-loop-resource : goal.invariant-loop-resource
invariant-loop-resource l =
    outermost (sites l.self) l.name (roots_at (sites l.self) l.resources)
    ≡ outermost (sites l.self) l.name (roots_at (sites l.self) (drop l.resource-index l.resources))
