use Rattle.std.proofs.Common.{option_copied, ap}
use Rattle.js_bundle.specs.PlaceNumber.{path_at}
use Rattle.js_bundle.proofs.Finding.DynamicTargets.{leads_by_name, leads_first}
use Rattle.js_bundle.proofs.schemas.Schemas.dynamic_target.Goals as goal

pub returns-in-Some : goal.returns-in-Some
returns-in-Some c =
    leads_by_name c.args.self.now (path_at c.args.self.now c.args.path.now) c.args.place _ _ _ c.in-Some.name.now
    c.outermost.result c.find_first_target-first.ensures (ap option_copied c.in-Some.is)
    c.outermost.ensures c.unwrap_or.ensures

pub returns-in-None : goal.returns-in-None
returns-in-None c = leads_first c.args.self.now (path_at c.args.self.now c.args.path.now) c.args.place _ _
    c.find_first_target-first.ensures (ap option_copied c.in-None.is)
