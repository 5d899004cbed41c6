use Rattle.std.proofs.Common.{◌≡◌, Some, sym, ap, ◌∙◌}
use Rattle.std.proofs.lemmas.Result.{err_from_is_err_and}
use Rattle.js_doc.specs.Seen.{value_of}
use Rattle.js_keyword.specs.AssertionKeyword.{keyword_named}
use Rattle.js_keyword.specs.declared.assertion_keyword.AssertionKeyword.TheVariants.{String}
use Rattle.js_keyword.specs.declared.assertion_keyword.StringKeyword.TheVariants.{Pattern}
use Rattle.js_keyword.proofs.KeywordNames.{named_by_name}
use Rattle.js_assert.proofs.KeywordFaults.{fault-by_name}
use Rattle.js_assert.proofs.assertion.Assertion.read.Goals as goal

pub returns-in_default-clause-pattern : goal.returns-in_default-clause-pattern
returns-in_default-clause-pattern c = λ e.
    let known : keyword_named c.args.keyword.now ≡ Some (String Pattern) =
    ap keyword_named e ∙ named_by_name (String Pattern) in
    absurd (cc (known, c.named.ensures, c.in_default.is))

pub returns-in_err-test-clause-refused : goal.returns-in_err-test-clause-refused
returns-in_err-test-clause-refused c =
    let p = err_from_is_err_and c.from_residual.result c.from_residual.ensures.1 in
    rw (p.1, p.2) (fault-by_name c.args.keyword.now (value_of c.args.argument.now) c.in-Some.keyword
    c.in_err-test.field-0.0 (sym c.in-Some.ensures) c.in_err-test.ensures.refused)

pub returns-clause-pattern : goal.returns-clause-pattern
returns-clause-pattern c = λ e.
    let known : keyword_named c.args.keyword.now ≡ Some (String Pattern) =
    ap keyword_named e ∙ named_by_name (String Pattern) in
    let is : c.in-Some.keyword ≡ String Pattern = cc (known, c.in-Some.ensures) in
    c.in_ok-test.ensures.ok.pattern is
