use Rattle.std.proofs.Common.{◌≡◌, ◌++◌, map, drop, length}
use Rattle.js_bundle.specs.Seen.{document_of}
use Rattle.js_bundle.specs.code.Edges.{edges_from, edges_of}
use Rattle.js_bundle.proofs.index.edges.edges_in.Given as goal

abbrev pub invariant-loop-number : goal.invariant-loop-number
invariant-loop-number l =
    map edges_of l.edges.items ++ edges_from (length l.edges.items) (map document_of (drop l.number l.documents))
    ≡ edges_from 0 (map document_of l.documents)
