use Rattle.std.proofs.Common.{◌≡◌, ◌++◌, map, length, sym, subst, arith}
use Rattle.js_doc.specs.Seen.{value_of}
use Rattle.js_bundle.specs.Seen.{document_of}
use Rattle.js_bundle.specs.code.Edges.{edges_at, edges_from, edges_of}
use Rattle.js_bundle.proofs.Indexing.EdgesNext.{document_edges}
use Rattle.js_bundle.proofs.index.edges.edges_in.Goals as goal

pub loop-number-preserved : goal.loop-number-preserved
loop-number-preserved c =
    let l = c.loop-number in
    let old = l.edges.items in
    let new = c.link_schema.new.edges.items in
    document_edges c.args.documents.now l.number c.index-documents-number.result old new
    (edges_from 0 (map document_of c.args.documents.now)) (omega arith) c.index-documents-number.is
    (subst (λ d. map edges_of new ≡ map edges_of old ++ edges_at (length old) (value_of d.root))
    (sym c.index-documents-number.is) c.in_ok-link_schema.ensures) l.invariant
