use Rattle.std.proofs.Common.{◌≡◌, drop}
use Rattle.js_bundle.specs.Resource.{sites}
use Rattle.js_bundle.specs.Schemas.{path_at}
use Rattle.js_bundle.specs.Target.{outermost}
use Rattle.js_bundle.proofs.schemas.Schemas.outermost.Given as goal

abbrev pub invariant-loop-place : goal.invariant-loop-place
invariant-loop-place l = outermost (sites l.self) l.name (path_at l.self l.path)
    ≡ outermost (sites l.self) l.name (path_at l.self (drop l.place-index l.path))
