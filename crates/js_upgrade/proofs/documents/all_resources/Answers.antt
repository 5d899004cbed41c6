use Rattle.std.proofs.Common.{[], ap, arith, map, unwrap_or}
use Rattle.js_upgrade.specs.Seen.{copies_seen, resource_seen}
use Rattle.js_upgrade.proofs.CopyLoops.{resources_pushed}
use Rattle.js_upgrade.proofs.documents.all_resources.Goals as goal

pub loop-i-preserved : goal.loop-i-preserved
loop-i-preserved c =
    let l = c.loop-i in
    let found = copies_seen c.copies_at.result in
    resources_pushed c.args.copies.now l.i found (ap (λ o. unwrap_or o []) c.copies_at.ensures)
    c.args.sources.now c.index-sources-i.result (omega arith) c.index-sources-i.is (map resource_seen l.found.items)
    (map resource_seen c.push_source_resources.new.out.items) _ c.in_ok-push_source_resources.ensures l.invariant
