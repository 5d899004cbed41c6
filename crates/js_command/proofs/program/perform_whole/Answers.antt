use Rattle.std.proofs.Common.{refl, rules}
use Rattle.js_command.specs.Answer.{RequestOutcome}
use Rattle.js_command.specs.code.Tasks.{request_seen}
use Rattle.js_command.proofs.InputUse.{input_after}
use Rattle.js_command.proofs.LastFlush.{reported_after, whole_after, nothing_after, reason_after, flushed_at_last}
use Rattle.js_command.proofs.program.perform_whole.Goals as goal

-- what the flush promises is found by search
pub returns-clause-reported : goal.returns-clause-reported
returns-clause-reported g c =
    rw c.answer_after_flush.ensures (reported_after (RequestOutcome (g.F.Files.contents c.args.files.now)
    (g.R.Read.remaining c.args.input.now.device) c.perform-answer.new.input.failed (request_seen c.args.task))
    g.W.Write.contents c.args.out.now c.perform-answer.new.out c.flush-flushed.new.self c.perform-answer.result _
    c.perform-answer.ensures.answer (search rules))

pub returns-clause-whole : goal.returns-clause-whole
returns-clause-whole g c = rw c.answer_after_flush.ensures (whole_after c.perform-answer.result _ _ (search rules))

pub returns-clause-nothing : goal.returns-clause-nothing
returns-clause-nothing g c =
    rw c.answer_after_flush.ensures
    (nothing_after g.W.Write.contents c.args.out.now c.perform-answer.new.out c.flush-flushed.new.self
    c.perform-answer.result _ c.perform-answer.ensures.nothing (search rules) (search rules))

pub returns-clause-reason : goal.returns-clause-reason
returns-clause-reason g c =
    rw c.answer_after_flush.ensures (reason_after (RequestOutcome (g.F.Files.contents c.args.files.now)
    (g.R.Read.remaining c.args.input.now.device) c.perform-answer.new.input.failed (request_seen c.args.task))
    g.W.Write.contents c.args.out.now c.perform-answer.new.out c.flush-flushed.new.self c.perform-answer.result _
    c.perform-answer.ensures.answer (search rules) (search rules) (search rules) (search rules))

pub returns-clause-flushed : goal.returns-clause-flushed
returns-clause-flushed g c =
    flushed_at_last c.perform-answer.new.out.failed c.args.out.now c.perform-answer.new.out c.flush-flushed.new.self
    refl c.perform-answer.ensures.unflushed (search rules) (search rules) (search rules)

pub returns-clause-input : goal.returns-clause-input
returns-clause-input g c =
    rw c.answer_after_flush.ensures (input_after (request_seen c.args.task) c.args.input.now c.perform-answer.new.input
    c.perform-answer.result _ c.perform-answer.ensures.input)
