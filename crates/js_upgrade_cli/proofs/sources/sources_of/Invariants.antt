use Rattle.std.proofs.Common.{◌≡◌, [], drop, map}
use Rattle.js_upgrade.specs.Seen.{source_of}
use Rattle.js_upgrade_cli.specs.Outcome.{sources_after}
use Rattle.js_upgrade_cli.specs.code.Seen.{texts_seen}
use Rattle.js_upgrade_cli.proofs.sources.sources_of.Given as goal

-- those left are read behind those that were
abbrev pub invariant-loop-number : goal.invariant-loop-number
invariant-loop-number l =
    sources_after l.numbers l.assumed (map source_of l.sources.items) l.number (texts_seen (drop l.number l.documents))
    ≡ sources_after l.numbers l.assumed [] 0 (texts_seen l.documents)
