use Rattle.std.proofs.Common.{◌≡◌, take}
use Rattle.js_tree.specs.Rows.Locations.{instances_added, keywords_added}
use Rattle.js_tree.proofs.rows.locations.added.Given as goal

abbrev pub invariant-loop-row : goal.invariant-loop-row
invariant-loop-row l =
    (l.keyword ≡ keywords_added (take l.row-index l.rows)) × (l.instance ≡ instances_added (take l.row-index l.rows))
