use Rattle.js_bundle.proofs.Finding.ResourceTableRead.{anchored_by}
use Rattle.js_bundle.proofs.schemas.Schemas.dynamic_anchor.Goals as goal

pub returns : goal.returns
returns c = anchored_by c.args.self.now c.args.name.now c.resource_number.result c.args.place c.anchor_in.result
    c.resource_number.ensures c.anchor_in.ensures
