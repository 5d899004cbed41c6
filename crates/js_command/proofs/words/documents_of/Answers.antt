use Rattle.std.proofs.Common.{[]}
use Rattle.js_command.specs.Words.{pairs_seen}
use Rattle.js_command.proofs.Pairs.{read_odd}
use Rattle.js_command.proofs.words.documents_of.Goals as goal

-- one word is left over
pub returns-then-at-words-clause-err : goal.returns-then-at-words-clause-err
returns-then-at-words-clause-err c =
    read_odd c.args.words.now c.loop-at.at (record { ref_ptr = (0, 0); now = [] })
    (pairs_seen c.loop-at.documents.items) c.if-at-words.true c.loop-at-test.false c.loop-at.invariant.1
