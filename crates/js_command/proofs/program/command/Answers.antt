use Rattle.std.proofs.Common.{refl, rules, sym}
use Rattle.js_output.specs.declared.fault.Fault.TheVariants as fault
use Rattle.js_command.specs.Words.{request_of, words_of}
use Rattle.js_command.specs.code.Tasks.{request_seen}
use Rattle.js_command.proofs.InputUse.{uses_none, uses_err}
use Rattle.js_command.proofs.LastFlush.{flushed_at_last}
use Rattle.js_command.proofs.ProgramAnswers.{begun_or_kept, words_reason, misuse_ends, misuse_reported}
use Rattle.js_command.proofs.program.command.Goals as goal

pub returns-in-Err-clause-misused : goal.returns-in-Err-clause-misused
returns-in-Err-clause-misused g c =
    misuse_ends (request_of (words_of c.args.words.now)) c.in-Err.misuse c.report_misuse-status.result _
    c.report_misuse-status.ensures.status c.report_misuse-status.ensures.reported

pub returns-in-Err-clause-reported : goal.returns-in-Err-clause-reported
returns-in-Err-clause-reported g c above =
    let failed = misuse_reported c.in-Err.misuse c.report_misuse-status.result
    c.report_misuse-status.ensures.status above in
    (fault.Memory, sym failed, tt, λ other. search rules, c.report_misuse-status.ensures.reported failed)

-- nothing was written before the flush
pub returns-in-Err-clause-flushed : goal.returns-in-Err-clause-flushed
returns-in-Err-clause-flushed g c =
    flushed_at_last c.args.out.now.failed c.args.out.now c.args.out.now c.flush.new.self refl (refl, refl)
    (search rules) (search rules) (search rules)

pub returns-in-Err-perform_whole-clause-beginning : goal.returns-in-Err-perform_whole-clause-beginning
returns-in-Err-perform_whole-clause-beginning g c failed =
    begun_or_kept (words_of c.args.words.now) (g.F.Files.contents c.args.files.now)
    (g.R.Read.remaining c.args.input.now.device) c.perform_whole.new.input.failed
    (request_seen c.in-Ok.task) (g.W.Write.contents c.args.out.now.device)
    (g.W.Write.contents c.perform_whole.new.out.device) c.perform_whole.new.out.failed
    c.in-Err-perform_whole.fault c.in-Ok.ensures.ok c.in-Err-perform_whole.ensures.nothing
    c.in-Err-perform_whole.ensures.reason

pub returns-in-Err-perform_whole-clause-reported : goal.returns-in-Err-perform_whole-clause-reported
returns-in-Err-perform_whole-clause-reported g c above =
    let fault = c.in-Err-perform_whole.fault in
    let reason = words_reason (words_of c.args.words.now) (g.F.Files.contents c.args.files.now)
    (g.R.Read.remaining c.args.input.now.device) c.perform_whole.new.input.failed
    (request_seen c.in-Ok.task) (g.W.Write.contents c.args.out.now.device)
    (g.W.Write.contents c.perform_whole.new.out.device) c.perform_whole.new.out.failed
    fault c.in-Ok.ensures.ok c.in-Err-perform_whole.ensures.reason in
    (fault, sym c.status_of.ensures, reason, c.in-Err-perform_whole.ensures.nothing, c.report.ensures)

-- ---- what the input is used for

pub returns-in-Err-clause-input : goal.returns-in-Err-clause-input
returns-in-Err-clause-input g c =
    uses_none (request_of (words_of c.args.words.now)) c.in-Err.misuse c.args.input.now c.report_misuse-status.result
    c.in-Err.ensures.err c.report_misuse-status.ensures.status

pub returns-in-Err-perform_whole-clause-input : goal.returns-in-Err-perform_whole-clause-input
returns-in-Err-perform_whole-clause-input g c =
    rw c.status_of.ensures (uses_err (request_of (words_of c.args.words.now)) (request_seen c.in-Ok.task)
    c.in-Ok.ensures.ok c.args.input.now c.perform_whole.new.input c.in-Err-perform_whole.fault
    c.in-Err-perform_whole.ensures.input)
