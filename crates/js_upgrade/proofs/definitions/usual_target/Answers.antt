use Rattle.std.proofs.Common.{◌≡◌, None, Some, ap, ◌∙◌}
use Rattle.js_upgrade.specs.Fault.{target_kind}
use Rattle.js_upgrade.specs.Reference.{followed}
use Rattle.js_upgrade.specs.Seen.{resource_seen}
use Rattle.js_upgrade.specs.Url.{uri_joined}
use Rattle.js_upgrade.specs.code.Table.{all_of}
use Rattle.js_upgrade.specs.code.Usual.{IsUsualTarget, usual_name, usual_text}
use Rattle.js_upgrade.proofs.UsualTargets.{some_weaker, usual_followed, usual_leads}
use Rattle.js_upgrade.proofs.definitions.usual_target.Goals as goal

pub returns-in-Some-clause-follows : goal.returns-in-Some-clause-follows
returns-in-Some-clause-follows c =
    let scope = c.args.scope.now in
    let all = all_of scope.resources.now in
    let base = scope.base.now in
    let t = c.args.reference.now in
    let r = resource_seen c.in-Some.resource.now in
    some_weaker (IsUsualTarget r t) (λ target. followed all t (uri_joined base t)
    ≡ usual_text target.dialect t target.name.now)
    (λ target known. usual_followed r t target known all base scope.here scope.local c.in-Some.ensures)
    c.target_in.result c.target_in.ensures

pub returns-in-Some-clause-leads : goal.returns-in-Some-clause-leads
returns-in-Some-clause-leads c =
    let scope = c.args.scope.now in
    let all = all_of scope.resources.now in
    let base = scope.base.now in
    let t = c.args.reference.now in
    let r = resource_seen c.in-Some.resource.now in
    some_weaker (IsUsualTarget r t) (λ target. target_kind all (uri_joined base t) ≡ None)
    (λ target known. usual_leads r t target known all base scope.here scope.local c.in-Some.ensures)
    c.target_in.result c.target_in.ensures

pub returns-in-Some-clause-named : goal.returns-in-Some-clause-named
returns-in-Some-clause-named c =
    let t = c.args.reference.now in
    let r = resource_seen c.in-Some.resource.now in
    some_weaker (IsUsualTarget r t) (λ target. usual_name target.dialect t ≡ Some target.name.now)
    (λ target known. ap (λ d. usual_name d t) known.4 ∙ known.2) c.target_in.result c.target_in.ensures
