use Rattle.std.proofs.Common.{map, take}
use Rattle.js_bundle.specs.ResourceNumber.{roots}
use Rattle.js_bundle.specs.ResourceTable.{AreAnchors}
use Rattle.js_bundle.specs.code.Scan.{site_of}
use Rattle.js_bundle.proofs.index.resource_table.name_all.Given as goal

abbrev pub invariant-loop-i : goal.invariant-loop-i
invariant-loop-i l = AreAnchors (roots (map site_of l.sites)) l.anchors.items (map site_of (take l.i l.sites))
