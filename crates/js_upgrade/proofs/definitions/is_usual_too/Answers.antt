use Rattle.std.proofs.Common.{◌∙◌, ap, sym}
use Rattle.js_upgrade.specs.Seen.{resource_seen}
use Rattle.js_upgrade.specs.code.Table.{all_of}
use Rattle.js_upgrade.specs.code.Usual.{usual_name}
use Rattle.js_upgrade.proofs.UsualTargets.{same_dialect, usual_copied}
use Rattle.js_upgrade.proofs.definitions.is_usual_too.Goals as goal

pub returns-then-root : goal.returns-then-root
returns-then-root c = λ t named is copies.
    let scope = c.args.scope.now in
    let root = c.in-Some.root.now in
    let target = c.args.target in
    usual_copied (all_of scope.resources.now) (resource_seen root) (sym root.usual_by ∙ c.if-root.true)
    target.name.now scope.base.now t scope.here scope.local (sym c.in-Some.ensures)
    (ap (λ d. usual_name d t) (same_dialect root.dialect target.dialect (sym c.is_draft.ensures ∙ is)) ∙ named) copies
