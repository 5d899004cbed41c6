use Rattle.std.proofs.Common.{◌++◌, map, drop}
use Rattle.js_bundle.specs.Seen.{document_of}
use Rattle.js_bundle.specs.code.Scan.{SameFront, site_of, sites_from}
use Rattle.js_bundle.proofs.scan.scan_all.Given as goal

abbrev pub invariant-loop-number : goal.invariant-loop-number
invariant-loop-number l =
    SameFront (map site_of l.sites.items ++ sites_from l.number (map document_of (drop l.number l.documents)))
    (sites_from 0 (map document_of l.documents))
