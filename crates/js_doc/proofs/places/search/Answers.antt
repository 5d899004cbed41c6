use Rattle.std.proofs.Common.{◌+◌, ◌-◌, ◌/◌, length, get_or, Less, Greater, arith}
use Rattle.js_doc.proofs.Placing.{middle_within, compared, goes_below, goes_above, goes_between, ranks_fit}
use Rattle.js_doc.proofs.places.search.Goals as goal

pub loop-low-init : goal.loop-low-init
loop-low-init c = (omega arith, (ranks_fit c.args.name.now c.args.entries.now).1, omega arith)

pub loop-low-preserved-in-Less : goal.loop-low-preserved-in-Less
loop-low-preserved-in-Less c =
    let l = c.loop-low in
    let within = middle_within l.low l.high (length c.args.entries.now) c.loop-low-test.true l.invariant.2 in
    let is = compared c.args.name.now _ (get_or c.args.entries.now (l.low + (l.high - l.low) / 2)
    c.index-entries-middle.result) Less _ c.name_order.ensures c.as_str.ensures c.in-Less.is in
    (l.invariant.0, goes_below c.args.name.now c.args.entries.now _ _ within.1 is, omega (arith, within.1))

pub loop-low-preserved : goal.loop-low-preserved
loop-low-preserved c =
    let l = c.loop-low in
    let within = middle_within l.low l.high (length c.args.entries.now) c.loop-low-test.true l.invariant.2 in
    let is = compared c.args.name.now _ (get_or c.args.entries.now (l.low + (l.high - l.low) / 2)
    c.index-entries-middle.result) Greater _ c.name_order.ensures c.as_str.ensures c.in-Greater.is in
    let past = goes_above c.args.name.now c.args.entries.now _ _ c.requires within.1 is in
    (omega (arith, past), l.invariant.1, l.invariant.2)

pub returns-clause-err : goal.returns-clause-err
returns-clause-err c =
    let l = c.loop-low in
    goes_between c.args.name.now c.args.entries.now l.low l.high l.invariant.0 l.invariant.1 c.loop-low-test.false
