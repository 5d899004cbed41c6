use Rattle.std.proofs.Common.{◌≡◌, ◌++◌, [], map, string_bytes}
use Rattle.js_doc.specs.Compact.{compact_items}
use Rattle.js_doc.specs.Seen.{value_of}
use Rattle.js_doc.specs.Value.{items, text}
use Rattle.js_doc.specs.Parts.{members_of}
use Rattle.js_assert.specs.Dependences.{dependence_of}
use Rattle.js_assert.specs.Objects.{names_needed, missing, sorted_with, without}
use Rattle.js_assert.specs.Names.{names_seen}
use Rattle.js_assert.proofs.missing.missing_of_all.Given as goal

abbrev pub invariant-loop-name : goal.invariant-loop-name
invariant-loop-name l =
    let ms = members_of (value_of l.value) in
    string_bytes l.text ++ compact_items l.later (items (map text (names_seen l.name-iterator)))
    ≡ missing (map text (sorted_with [] (without ms (names_needed ms (map dependence_of l.dependences)))))
