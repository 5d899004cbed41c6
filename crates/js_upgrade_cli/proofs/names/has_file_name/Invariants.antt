use Rattle.std.proofs.Common.{◌≡◌, drop}
use Rattle.js_upgrade_cli.specs.Names.{has_file_name}
use Rattle.js_command.specs.Words.{pairs_seen}
use Rattle.js_upgrade_cli.proofs.names.has_file_name.Given as goal

-- those left decide
abbrev pub invariant-loop-document : goal.invariant-loop-document
invariant-loop-document l =
    has_file_name l.name (pairs_seen (drop l.document-index l.documents))
    ≡ has_file_name l.name (pairs_seen l.documents)
