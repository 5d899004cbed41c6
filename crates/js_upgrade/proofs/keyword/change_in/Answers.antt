use Rattle.std.proofs.Common.{arith}
use Rattle.js_upgrade.specs.code.Initials.{is_d, is_dollar, is_early, is_late, is_m, is_p}
use Rattle.js_upgrade.proofs.KeywordInitials.{answered, begins, early, late}
use Rattle.js_upgrade.proofs.keyword.change_in.Goals as goal

pub returns-then-first-eq36 : goal.returns-then-first-eq36
returns-then-first-eq36 c =
    answered is_dollar _ _ _ _ c.unwrap_or.ensures c.with_dollar.ensures
    (begins _ c.args.name.now c.initial-first.ensures 36 c.if-first-eq36.true)

pub returns-then-first-eq100 : goal.returns-then-first-eq100
returns-then-first-eq100 c =
    answered is_d _ _ _ _ c.unwrap_or-then-first-eq100.ensures c.with_d.ensures
    (begins _ c.args.name.now c.initial-first.ensures 100 c.if-first-eq100.true)

pub returns-then-first-eq109 : goal.returns-then-first-eq109
returns-then-first-eq109 c =
    answered is_m _ _ _ _ c.unwrap_or-then-first-eq109.ensures c.with_m.ensures
    (begins _ c.args.name.now c.initial-first.ensures 109 c.if-first-eq109.true)

pub returns-then-first-eq112 : goal.returns-then-first-eq112
returns-then-first-eq112 c =
    answered is_p _ _ _ _ c.unwrap_or-then-first-eq112.ensures c.with_p.ensures
    (begins _ c.args.name.now c.initial-first.ensures 112 c.if-first-eq112.true)

pub returns-then-first-lt105 : goal.returns-then-first-lt105
returns-then-first-lt105 c =
    answered is_early _ _ _ _ c.unwrap_or-then-first-lt105.ensures c.with_early.ensures
    (early _ c.args.name.now c.initial-first.ensures c.if-first-eq36.false c.if-first-eq100.false (omega arith))

pub returns : goal.returns
returns c =
    answered is_late _ _ _ _ c.unwrap_or-2.ensures c.with_late.ensures
    (late _ c.args.name.now c.initial-first.ensures c.if-first-eq109.false c.if-first-eq112.false (omega arith))
