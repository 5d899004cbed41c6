use Rattle.std.proofs.Common.{◌≡◌, ◌≤◌, ◌-◌, length, drop}
use Rattle.js_command.specs.Words.{pairs_in, words_of, pairs_seen}
use Rattle.js_command.proofs.Pairs.{onto}
use Rattle.js_command.proofs.words.documents_of.Given as goal

-- those that were read, and what the rest gives, are all
abbrev pub invariant-loop-at : goal.invariant-loop-at
invariant-loop-at l = (l.at ≤ length l.words)
    × (pairs_in (words_of l.words) ≡ onto (pairs_seen l.documents.items) (pairs_in (words_of (drop l.at l.words))))

abbrev pub decreases-loop-at : goal.decreases-loop-at
decreases-loop-at l = length l.words - l.at
