use Rattle.std.proofs.Common.{[], ◌∷◌, subst}
use Rattle.js_assert.specs.Pattern.{IsPatternFault}
use Rattle.js_bundle.specs.code.Scan.{site_of}
use Rattle.js_bundle.proofs.Checking.AssertionRules.{clear_pattern, bad_pattern, large_pattern}
use Rattle.js_bundle.proofs.check.assertions_and_patterns.read_pattern.Goals as goal

pub returns-in-Ok-clause-clear : goal.returns-in-Ok-clause-clear
returns-in-Ok-clause-clear c = clear_pattern (site_of c.args.at.site.now) (c.args.at.keyword.now ∷ c.args.name.now ∷ [])
    c.args.name.now c.in-Ok.ensures.read

pub returns-in-Err-NotAPattern-clause-err : goal.returns-in-Err-NotAPattern-clause-err
returns-in-Err-NotAPattern-clause-err c =
    bad_pattern (site_of c.args.at.site.now) (c.args.at.keyword.now ∷ c.args.name.now ∷ [])
    c.args.name.now c.refuse_member.result
    (subst (IsPatternFault c.args.name.now) c.in-Err-NotAPattern.field-0-is c.in-Err-NotAPattern.ensures.refused)
    c.refuse_member.ensures

pub returns-in-Err-PatternTooLarge-clause-err : goal.returns-in-Err-PatternTooLarge-clause-err
returns-in-Err-PatternTooLarge-clause-err c =
    large_pattern (site_of c.args.at.site.now) (c.args.at.keyword.now ∷ c.args.name.now ∷ []) c.args.name.now
    c.refuse_member-in-Err-PatternTooLarge.result
    (subst (IsPatternFault c.args.name.now) c.in-Err-PatternTooLarge.field-0-is
    c.in-Err-PatternTooLarge.ensures.refused) c.refuse_member-in-Err-PatternTooLarge.ensures
