use Rattle.std.proofs.Common.{subst}
use Rattle.js_doc.specs.Seen.{value_of}
use Rattle.js_assert.specs.Shape.{IsKeywordFault}
use Rattle.js_bundle.specs.code.Scan.{site_of}
use Rattle.js_bundle.proofs.Checking.AssertionRules.{clear_assertion, stopped_shape, stopped_pattern, stopped_large}
use Rattle.js_bundle.proofs.check.rules.read_assertion.Goals as goal

pub returns-in-Ok-clause-clear : goal.returns-in-Ok-clause-clear
returns-in-Ok-clause-clear c = clear_assertion (site_of c.args.at.site.now) c.args.at.keyword.now
    (value_of c.args.argument.now) c.in-Ok.ensures.shape c.in-Ok.ensures.pattern

pub returns-in-Err-BadKeyword-clause-err : goal.returns-in-Err-BadKeyword-clause-err
returns-in-Err-BadKeyword-clause-err c =
    stopped_shape (site_of c.args.at.site.now) c.args.at.keyword.now (value_of c.args.argument.now) _
    (subst (IsKeywordFault c.args.at.keyword.now (value_of c.args.argument.now)) c.in-Err-BadKeyword.field-0-is
    c.in-Err-BadKeyword.ensures.refused) c.refuse_keyword.ensures

pub returns-in-Err-NotAPattern-clause-err : goal.returns-in-Err-NotAPattern-clause-err
returns-in-Err-NotAPattern-clause-err c =
    stopped_pattern (site_of c.args.at.site.now) c.args.at.keyword.now (value_of c.args.argument.now) _
    (subst (IsKeywordFault c.args.at.keyword.now (value_of c.args.argument.now)) c.in-Err-NotAPattern.field-0-is
    c.in-Err-NotAPattern.ensures.refused) c.refuse_keyword-in-Err-NotAPattern.ensures

pub returns-in-Err-PatternTooLarge-clause-err : goal.returns-in-Err-PatternTooLarge-clause-err
returns-in-Err-PatternTooLarge-clause-err c =
    stopped_large (site_of c.args.at.site.now) c.args.at.keyword.now (value_of c.args.argument.now) _
    (subst (IsKeywordFault c.args.at.keyword.now (value_of c.args.argument.now)) c.in-Err-PatternTooLarge.field-0-is
    c.in-Err-PatternTooLarge.ensures.refused) c.refuse_keyword-in-Err-PatternTooLarge.ensures
