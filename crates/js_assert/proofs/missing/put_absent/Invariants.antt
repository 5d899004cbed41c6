use Rattle.std.proofs.Common.{◌≡◌, drop}
use Rattle.js_doc.specs.Seen.{value_of}
use Rattle.js_doc.specs.Parts.{members_of}
use Rattle.js_assert.specs.Objects.{without, sorted_with}
use Rattle.js_assert.specs.Names.{names_seen}
use Rattle.js_assert.proofs.missing.put_absent.Given as goal

abbrev pub invariant-loop-need : goal.invariant-loop-need
invariant-loop-need l =
    let ms = members_of (value_of l.value) in
    sorted_with (names_seen l.absent.keys) (without ms (drop l.need-index l.needs))
    ≡ sorted_with (names_seen l.fn.absent.keys) (without ms l.needs)
