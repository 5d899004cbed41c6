use Rattle.std.proofs.Common.{◌≡◌, [], map, drop}
use Rattle.js_doc.specs.Seen.{value_of}
use Rattle.js_doc.specs.Parts.{members_of}
use Rattle.js_assert.specs.Dependences.{dependence_of}
use Rattle.js_assert.specs.Objects.{without, names_needed, sorted_with}
use Rattle.js_assert.specs.Names.{names_seen}
use Rattle.js_assert.proofs.missing.absent_of_all.Given as goal

abbrev pub invariant-loop-dependence : goal.invariant-loop-dependence
invariant-loop-dependence l =
    let ms = members_of (value_of l.value) in
    sorted_with (names_seen l.absent.keys)
    (without ms (names_needed ms (map dependence_of (drop l.dependence-index l.dependences))))
    ≡ sorted_with [] (without ms (names_needed ms (map dependence_of l.dependences)))
