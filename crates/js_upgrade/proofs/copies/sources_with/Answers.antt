use Rattle.std.proofs.Common.{[], ap, arith, unwrap_or}
use Rattle.js_upgrade.specs.Seen.{copies_seen}
use Rattle.js_upgrade.proofs.CopyLoops.{sources_pushed}
use Rattle.js_upgrade.proofs.copies.sources_with.Goals as goal

pub loop-i-preserved : goal.loop-i-preserved
loop-i-preserved c =
    let l = c.loop-i in
    let found = copies_seen c.copies_at.result in
    sources_pushed c.args.copies.now l.i found (ap (λ o. unwrap_or o []) c.copies_at.ensures)
    c.args.sources.now c.index-sources-i.result (omega arith) c.index-sources-i.is l.out.items
    c.push.new.self.items c.in_ok-source_with.field-0 _ c.in_ok-push.ensures.items c.in_ok-source_with.ensures
    l.invariant
