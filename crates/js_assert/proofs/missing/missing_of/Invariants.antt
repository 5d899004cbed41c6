use Rattle.std.proofs.Common.{◌≡◌, ◌++◌, drop, map, string_bytes}
use Rattle.js_doc.specs.Compact.{compact_items}
use Rattle.js_doc.specs.Seen.{value_of}
use Rattle.js_doc.specs.Value.{items, text}
use Rattle.js_doc.specs.Parts.{members_of}
use Rattle.js_assert.specs.Objects.{without, missing}
use Rattle.js_assert.proofs.missing.missing_of.Given as goal

abbrev pub invariant-loop-name : goal.invariant-loop-name
invariant-loop-name l =
    let ms = members_of (value_of l.value) in
    string_bytes l.text ++ compact_items l.later (items (map text (without ms (drop l.name-index l.names))))
    ≡ missing (map text (without ms l.names))
