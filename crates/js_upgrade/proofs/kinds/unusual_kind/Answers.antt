use Rattle.std.proofs.Common.{◌∙◌, None, Some, ap, option_map, if◌then◌else◌}
use Rattle.js_upgrade.specs.Seen.{resource_seen}
use Rattle.js_upgrade.specs.code.Table.{all_of}
use Rattle.js_upgrade.specs.declared.fault.UpgradeFaultKind.TheVariants.{Unresolved}
use Rattle.js_upgrade.proofs.LocalFragments.{local_kind}
use Rattle.js_upgrade.proofs.kinds.unusual_kind.Goals as goal

pub returns-in_ok-has_no_part-in-Some : goal.returns-in_ok-has_no_part-in-Some
returns-in_ok-has_no_part-in-Some c =
    let scope = c.args.scope.now in
    c.unresolved.ensures
    ∙ ap (λ nowhere. if nowhere then Some Unresolved else None) c.in_ok-has_no_part-in-Some.ensures
    ∙ local_kind (all_of scope.resources.now) scope.base.now c.args.reference.now c.in-Some.fragment.now
    c.in_ok-pointer-in-Some.pointer (option_map (λ r. resource_seen r.now) c.resource_numbered-here.result)
    c.in-Some.ensures c.in_ok-pointer-in-Some.ensures scope.here c.resource_numbered-here.ensures scope.local
