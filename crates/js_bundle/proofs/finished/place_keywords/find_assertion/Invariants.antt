use Rattle.std.proofs.Common.{◌≡◌, find, bytes_eq, drop}
use Rattle.js_assert.specs.Assertion.{Asserted}
use Rattle.js_keyword.specs.AssertionKeyword.{name_of}
use Rattle.js_bundle.proofs.finished.place_keywords.find_assertion.Given as goal

abbrev pub invariant-loop-one : goal.invariant-loop-one
invariant-loop-one l =
    let test = λ (a : Asserted). bytes_eq l.keyword (name_of a.keyword) in
    find test l.built ≡ find test (drop l.one-index l.built)
