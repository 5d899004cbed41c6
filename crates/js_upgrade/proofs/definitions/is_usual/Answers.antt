use Rattle.std.proofs.Common.{◌∙◌, sym}
use Rattle.js_upgrade.specs.Seen.{resource_seen}
use Rattle.js_upgrade.specs.code.Table.{all_of}
use Rattle.js_upgrade.specs.code.Usual.{usual_name}
use Rattle.js_upgrade.proofs.UsualTargets.{some_named, usual_copied}
use Rattle.js_upgrade.proofs.definitions.is_usual.Goals as goal

pub returns-then-root : goal.returns-then-root
returns-then-root c = λ is copies.
    let scope = c.args.scope.now in
    let t = c.args.reference.now in
    let root = c.in-Some.root.now in
    let r = resource_seen root in
    let named = some_named c.usual_name.result (usual_name r.dialect t) c.usual_name.ensures
    (sym c.is_some.ensures ∙ is) in
    usual_copied (all_of scope.resources.now) r (sym root.usual_by ∙ c.if-root.true) named.0 scope.base.now t scope.here
    scope.local (sym c.in-Some.ensures) named.1 copies
