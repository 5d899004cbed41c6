use Rattle.std.proofs.Common.{◌≡◌, ◌++◌, map, drop}
use Rattle.js_doc.specs.Seen.{value_of}
use Rattle.js_bundle.specs.Seen.{document_of}
use Rattle.jschema_c.specs.Upgrading.{with_roots}
use Rattle.jschema_c.proofs.upgrading.with_roots.Given as goal

-- the bundle, and then what the rest gives, are all
abbrev pub invariant-loop-root : goal.invariant-loop-root
invariant-loop-root l =
    l.bundle ++ with_roots (map document_of (drop l.number l.documents)) (map value_of l.root-iterator.rest.items)
    ≡ with_roots (map document_of l.documents) (map value_of l.fn.roots.items)
