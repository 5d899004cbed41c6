use Rattle.std.proofs.Common.{◌+◌, ◌*◌, ◌++◌, map, drop}
use Rattle.js_doc.specs.Nesting.{depth}
use Rattle.js_doc.specs.Value.{Members, list, object, items, members}
use Rattle.js_doc.specs.Seen.{value_of, pair_of}
use Rattle.js_bundle.specs.code.Scan.{SameFront, site_of, sites_of_items, sites_of_members}
use Rattle.js_bundle.proofs.MemberLoops.{IsLoopOver}
use Rattle.js_bundle.proofs.scan.+scan.Given as goal

abbrev pub decreases-scan_schema : goal.decreases-scan_schema
decreases-scan_schema l = 4 * depth (value_of l.schema.now) + 2

abbrev pub decreases-scan_member : goal.decreases-scan_member
decreases-scan_member l = 4 * depth (value_of l.value.now) + 3

abbrev pub decreases-scan_members : goal.decreases-scan_members
decreases-scan_members l = 4 * depth (object (members l.members.now)) + 1

abbrev pub decreases-scan_items : goal.decreases-scan_items
decreases-scan_items l = 4 * depth (list (items (map value_of l.schemas.now))) + 1

abbrev pub invariant-scan_items-loop-i : goal.invariant-scan_items-loop-i
invariant-scan_items-loop-i l =
    let at = l.at in
    SameFront (map site_of l.out.items ++ sites_of_items at.document at.above.now.value at.pointer.now.value l.i
    (items (map value_of (drop l.i l.schemas))))
    (map site_of l.initial.out.items
    ++ sites_of_items at.document at.above.now.value at.pointer.now.value 0 (items (map value_of l.schemas)))

abbrev pub invariant-scan_members-loop-name : goal.invariant-scan_members-loop-name
invariant-scan_members-loop-name l =
    let sites = λ (ms : Members).
    sites_of_members l.role l.at.document l.at.above.now.value l.at.pointer.now.value ms in
    IsLoopOver l.initial.name-iterator l.name-iterator (λ es.
    SameFront (map site_of l.out.items ++ sites (members (map pair_of es)))
    (map site_of l.initial.out.items ++ sites (members (map pair_of l.initial.name-iterator))))
