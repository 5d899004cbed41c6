use Rattle.std.proofs.Common.{map, arith}
use Rattle.js_bundle.specs.Seen.{document_of}
use Rattle.js_bundle.specs.code.Scan.{site_of, sites_from}
use Rattle.js_bundle.proofs.Listing.ScanNext.{document_next, scanned_all}
use Rattle.js_bundle.proofs.scan.scan_all.Goals as goal

pub loop-number-preserved : goal.loop-number-preserved
loop-number-preserved c =
    let l = c.loop-number in
    let ds = c.args.documents.now in
    document_next ds l.number c.index-documents-number.result (map site_of l.sites.items)
    (map site_of c.scan_document.new.out.items) (sites_from 0 (map document_of ds)) (omega arith)
    c.index-documents-number.is c.in_ok-scan_document.ensures l.invariant

pub returns : goal.returns
returns c =
    let l = c.loop-number in
    scanned_all c.args.documents.now l.number l.sites.items c.truncate.new.self.items (omega arith) l.invariant
    c.truncate.ensures.items
