use Rattle.std.proofs.Common.{◌≡◌, ◌++◌, codes, drop, flat_map}
use Rattle.js_upgrade.specs.AnchorName.{spelled_byte}
use Rattle.js_upgrade.proofs.anchor_name.spelled.Given as goal

-- what there is and what is left make the whole
abbrev pub invariant-loop-byte : goal.invariant-loop-byte
invariant-loop-byte l =
    l.out.items ++ flat_map spelled_byte (drop l.byte-index l.name)
    ≡ codes "_-" ++ flat_map spelled_byte l.name
