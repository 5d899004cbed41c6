use Rattle.std.proofs.Common.{sym}
use Rattle.js_upgrade.specs.Seen.{resource_seen}
use Rattle.js_upgrade.specs.code.Table.{all_of}
use Rattle.js_upgrade.proofs.CopiedTargets.{copy_followed, copy_leads}
use Rattle.js_upgrade.proofs.copied_target.copied_target.Goals as goal

pub returns-then-is_copied_target-clause-follows : goal.returns-then-is_copied_target-clause-follows
returns-then-is_copied_target-clause-follows c =
    let scope = c.args.scope.now in
    copy_followed (resource_seen c.in-Some.resource.now) c.in_ok-fragment-in-Some.fragment.now
    (c.is_copied_target.ensures c.if-is_copied_target.true) c.args.reference.now
    (sym c.in_ok-fragment-in-Some.ensures) (all_of scope.resources.now) scope.base.now scope.here scope.local
    c.in-Some.ensures

pub returns-then-is_copied_target-clause-leads : goal.returns-then-is_copied_target-clause-leads
returns-then-is_copied_target-clause-leads c =
    let scope = c.args.scope.now in
    copy_leads (resource_seen c.in-Some.resource.now) c.in_ok-fragment-in-Some.fragment.now
    (c.is_copied_target.ensures c.if-is_copied_target.true) c.args.reference.now
    (sym c.in_ok-fragment-in-Some.ensures) (all_of scope.resources.now) scope.base.now scope.here scope.local
    c.in-Some.ensures
