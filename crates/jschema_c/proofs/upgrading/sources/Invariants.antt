use Rattle.std.proofs.Common.{◌≡◌, ◌++◌, map, drop}
use Rattle.js_bundle.specs.Seen.{document_of}
use Rattle.js_upgrade.specs.Seen.{source_of}
use Rattle.jschema_c.specs.Upgrading.{source, sources}
use Rattle.jschema_c.proofs.upgrading.sources.Given as goal

-- the sources, and then those of the rest, are all
abbrev pub invariant-loop-document : goal.invariant-loop-document
invariant-loop-document l =
    map source_of l.sources.items ++ sources l.assumed (map document_of (drop l.document-index l.documents))
    ≡ sources l.assumed (map document_of l.documents)
