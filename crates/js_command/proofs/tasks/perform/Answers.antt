use Rattle.std.proofs.Common.{None, false, subst}
use Rattle.js_command.specs.Answer.{Performs, RequestOutcome}
use Rattle.js_command.specs.Words.{places, pairs_seen}
use Rattle.js_command.proofs.InputUse.{pair_reads}
use Rattle.js_command.proofs.ProgramAnswers.{pair_reported}
use Rattle.js_command.proofs.tasks.perform.Goals as goal

pub returns-in-Pair-clause-answer : goal.returns-in-Pair-clause-answer
returns-in-Pair-clause-answer g c =
    rw c.in-Pair.is (pair_reported (g.F.Files.contents c.args.files.now) (g.R.Read.remaining c.args.input.now.device)
    c.run_pair.new.input.failed g.W.Write.contents c.args.out.now c.run_pair.new.out
    c.run_pair.result c.run_pair.ensures.answer (λ other read. (c.run_pair.ensures.read other).0 read))

pub returns-in-Pair-clause-input : goal.returns-in-Pair-clause-input
returns-in-Pair-clause-input g c =
    rw c.in-Pair.is (pair_reads c.run_pair.result c.run_pair.new.input.failed c.run_pair.ensures.read)

pub returns-in-Places-clause-answer : goal.returns-in-Places-clause-answer
returns-in-Places-clause-answer g c =
    rw c.in-Places.is (subst (λ ds. Performs (RequestOutcome (g.F.Files.contents c.args.files.now) None false
    (places (pairs_seen ds))) g.W.Write.contents c.args.out.now c.perform_places.new.out c.perform_places.result)
    c.as_slice.ensures.value c.perform_places.ensures.answer)
