use Rattle.std.proofs.Common.{◌≡◌, map}
use Rattle.js_doc.specs.Seen.{pair_of}
use Rattle.js_upgrade.specs.Schema.{gathered_members, dependent_names}
use Rattle.js_upgrade.proofs.pieces.dependent_names.Given as goal

-- what is found and what the rest becomes make the whole
abbrev pub invariant-loop-name : goal.invariant-loop-name
invariant-loop-name l =
    gathered_members dependent_names (map pair_of l.name-iterator) l.found
    ≡ gathered_members dependent_names (map pair_of l.initial.name-iterator) l.initial.found
