use Rattle.std.proofs.Common.{option_copied, ap}
use Rattle.js_bundle.specs.Resource.{sites}
use Rattle.js_bundle.specs.ResourceNumber.{roots_at}
use Rattle.js_bundle.proofs.Finding.DynamicTargets.{leads_by_name, leads_first}
use Rattle.js_bundle.proofs.schemas.Schemas.dynamic_target_in.Goals as goal

pub returns-in-Some : goal.returns-in-Some
returns-in-Some c =
    leads_by_name c.args.self.now (roots_at (sites c.args.self.now) c.args.resources.now) c.args.place _ _ _
    c.in-Some.name.now c.outermost_in.result c.find_first_target-first.ensures (ap option_copied c.in-Some.is)
    c.outermost_in.ensures c.unwrap_or.ensures

pub returns-in-None : goal.returns-in-None
returns-in-None c = leads_first c.args.self.now (roots_at (sites c.args.self.now) c.args.resources.now) c.args.place _ _
    c.find_first_target-first.ensures (ap option_copied c.in-None.is)
