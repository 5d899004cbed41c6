use Rattle.std.proofs.Common.{sym, ◌∙◌}
use Rattle.js_doc.specs.Seen.{value_of}
use Rattle.js_doc.specs.Parts.{members_of}
use Rattle.js_assert.proofs.Sorted.{absent_more}
use Rattle.js_assert.proofs.missing.put_absent.Goals as goal

pub loop-need-preserved : goal.loop-need-preserved
loop-need-preserved c =
    absent_more (members_of (value_of c.args.value.now)) c.args.needs.now c.loop-need.need-index c.need-item.result
    c.loop-need.absent.keys c.insert.new.self.keys c.as_str.result c.loop-need-test.true c.need-item.is
    (sym c.is_member.ensures ∙ c.if-is_member.false) c.as_str.ensures c.in_ok-insert.ensures.keys
    ∙ c.loop-need.invariant
