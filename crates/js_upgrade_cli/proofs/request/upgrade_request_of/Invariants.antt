use Rattle.std.proofs.Common.{◌≡◌, drop}
use Rattle.js_command.specs.Words.{words_of}
use Rattle.js_upgrade_cli.specs.Words.{nothing_said, words_said}
use Rattle.js_upgrade_cli.specs.code.Seen.{said_seen}
use Rattle.js_upgrade_cli.proofs.request.upgrade_request_of.Given as goal

-- what is left is said after what was said
abbrev pub invariant-loop-word : goal.invariant-loop-word
invariant-loop-word l =
    words_said (said_seen l.said) (words_of (drop l.word-index l.words)) ≡ words_said nothing_said (words_of l.words)
