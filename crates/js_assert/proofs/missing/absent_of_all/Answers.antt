use Rattle.std.proofs.Common.{sym, ap, ◌∙◌}
use Rattle.js_doc.specs.Seen.{value_of}
use Rattle.js_doc.specs.Parts.{members_of}
use Rattle.js_assert.specs.Objects.{without, sorted_with}
use Rattle.js_assert.specs.Names.{names_seen}
use Rattle.js_assert.proofs.Dependent.{asked_more}
use Rattle.js_assert.proofs.missing.absent_of_all.Goals as goal

pub loop-dependence-preserved : goal.loop-dependence-preserved
loop-dependence-preserved c =
    let l = c.loop-dependence in
    let ms = members_of (value_of c.args.value.now) in
    let old = names_seen l.absent.keys in
    asked_more ms c.args.dependences.now l.dependence-index c.dependence-item.result old
    (names_seen c.put_absent.new.absent.keys) c.loop-dependence-test.true c.dependence-item.is
    (sym c.is_member.ensures ∙ c.if-not-is_member.false)
    (c.in_ok-put_absent.ensures ∙ ap (λ ns. sorted_with old (without ms ns)) c.as_slice.ensures.value)
    ∙ l.invariant
