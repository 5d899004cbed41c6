use Rattle.std.proofs.Common.{◌≡◌, ◌++◌, drop, length}
use Rattle.serde_json.specs.View.{items_view}
use Rattle.js_doc.specs.WholeNumbers.{found_map}
use Rattle.js_output.specs.SuiteText.{each_in, group_in, groups_seen}
use Rattle.js_output.proofs.suite_text.each_group.Given as goal

-- what was read and what the rest gives are the whole
abbrev pub invariant-loop-value : goal.invariant-loop-value
invariant-loop-value l =
    (length l.groups.items ≡ l.value-index) × (found_map (λ rest. groups_seen l.groups.items ++ rest)
    (each_in group_in l.value-index (items_view (drop l.value-index l.value-items)))
    ≡ each_in group_in 0 (items_view l.values.items))
