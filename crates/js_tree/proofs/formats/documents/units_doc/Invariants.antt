use Rattle.std.proofs.Common.{◌≡◌, [], map, take}
use Rattle.js_doc.specs.Seen.{value_of}
use Rattle.js_tree.specs.Form.{node_value}
use Rattle.js_tree.proofs.formats.documents.units_doc.Given as goal

abbrev pub invariant-loop-unit : goal.invariant-loop-unit
invariant-loop-unit l = map value_of l.docs.items
    ≡ map (λ u. node_value u []) (map (λ unit. unit.now) (take l.unit-index l.units))
