use Rattle.std.proofs.Common.{◌≡◌, drop}
use Rattle.std.specs.List.{list_all}
use Rattle.js_assert.specs.Assertion.{Asserted, says}
use Rattle.js_eval.specs.Seen.{instance_of}
use Rattle.js_eval.proofs.keywords.others.holds_each.Given as goal

abbrev pub invariant-loop-assertion : goal.invariant-loop-assertion
invariant-loop-assertion l =
    let test = λ (a : Asserted). says a (instance_of l.value) l.matching in
    list_all test (drop l.assertion-index l.assertions) ≡ list_all test l.assertions
