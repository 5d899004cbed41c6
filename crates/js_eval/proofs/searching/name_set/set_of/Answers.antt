use Rattle.std.proofs.Common.{[], sym, subst}
use Rattle.js_eval.specs.code.Cursors.{HasNames}
use Rattle.js_eval.proofs.MembersLeft.{none_seen, texts_more}
use Rattle.js_eval.proofs.searching.name_set.set_of.Goals as goal

pub loop-name-init : goal.loop-name-init
loop-name-init c = subst (λ keys. HasNames keys []) (sym c.new-set.ensures.empty) none_seen

pub loop-name-preserved : goal.loop-name-preserved
loop-name-preserved c =
    subst (HasNames c.insert.new.set.keys)
    (sym (texts_more c.args.names.now c.loop-name.name-index _ c.loop-name-test.true))
    (c.in_ok-insert.ensures _ c.loop-name.invariant)
