use Rattle.std.proofs.Common.{codes, sym, ◌∙◌}
use Rattle.js_doc.proofs.TokenLookup.{is_text-sound}
use Rattle.js_upgrade.specs.Seen.{resource_seen}
use Rattle.js_upgrade.specs.code.Table.{all_of}
use Rattle.js_upgrade.proofs.UsualTargets.{not_so, root_leads}
use Rattle.js_upgrade.proofs.definitions.leads_to_root.Goals as goal

pub returns-then-eq-clause-leads : goal.returns-then-eq-clause-leads
returns-then-eq-clause-leads c = λ none.
    let scope = c.args.scope.now in
    root_leads c.args.reference.now (resource_seen c.in-Some.resource.now) (all_of scope.resources.now) scope.base.now
    scope.here (is_text-sound c.args.reference.now (codes "#") (sym c.eq.ensures ∙ c.if-eq.true))
    (c.has_copies.ensures (not_so c.has_copies.result none)) scope.local c.in-Some.ensures
