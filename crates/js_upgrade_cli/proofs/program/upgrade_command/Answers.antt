use Rattle.std.proofs.Common.{inl, refl}
use Rattle.js_command.specs.Words.{words_of}
use Rattle.js_output.specs.Line.{failed_memory}
use Rattle.js_upgrade_cli.specs.Words.{upgrade_request_of}
use Rattle.js_upgrade_cli.proofs.Ending.{misuse_above, misuse_asked, misuse_named, misuse_nonzero, misused_ends}
use Rattle.js_upgrade_cli.proofs.program.upgrade_command.Goals as goal

-- ---- the words ask for nothing

pub returns-in-Err-clause-named : goal.returns-in-Err-clause-named
returns-in-Err-clause-named g c =
    misuse_named c.in-Err.misuse c.report_misuse.result c.report_misuse.ensures.status

pub returns-in-Err-clause-done : goal.returns-in-Err-clause-done
returns-in-Err-clause-done g c =
    misuse_nonzero c.in-Err.misuse c.report_misuse.result c.report_misuse.ensures.status

pub returns-in-Err-clause-flushed : goal.returns-in-Err-clause-flushed
returns-in-Err-clause-flushed g c =
    misuse_nonzero c.in-Err.misuse c.report_misuse.result c.report_misuse.ensures.status

pub returns-in-Err-clause-quiet : goal.returns-in-Err-clause-quiet
returns-in-Err-clause-quiet g c =
    misuse_nonzero c.in-Err.misuse c.report_misuse.result c.report_misuse.ensures.status

pub returns-in-Err-clause-misused : goal.returns-in-Err-clause-misused
returns-in-Err-clause-misused g c =
    misused_ends (upgrade_request_of (words_of c.args.words.now)) c.in-Err.misuse c.report_misuse.result
    c.report_misuse.ensures.status

pub returns-in-Err-clause-usage : goal.returns-in-Err-clause-usage
returns-in-Err-clause-usage g c two = (
  c.in-Err.misuse,
  misuse_asked (upgrade_request_of (words_of c.args.words.now)) c.in-Err.misuse c.report_misuse.result
      c.report_misuse.ensures.status c.in-Err.ensures.err two,
  c.report_misuse.ensures.usage two,
)

pub returns-in-Err-clause-reported : goal.returns-in-Err-clause-reported
returns-in-Err-clause-reported g c above =
    let four = misuse_above c.in-Err.misuse c.report_misuse.result c.report_misuse.ensures.status above in
    (failed_memory, inl (four, refl), c.report_misuse.ensures.reported four)
