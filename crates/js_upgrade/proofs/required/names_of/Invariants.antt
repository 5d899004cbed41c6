use Rattle.std.proofs.Common.{◌≡◌, ◌++◌, map}
use Rattle.js_doc.specs.Seen.{value_of, pair_of}
use Rattle.js_upgrade.specs.Schema.{required_names}
use Rattle.js_upgrade.proofs.required.names_of.Given as goal

-- the names there are and those of the rest make the whole
abbrev pub invariant-loop-name : goal.invariant-loop-name
invariant-loop-name l =
    map value_of l.names.items ++ required_names (map pair_of l.name-iterator)
    ≡ required_names (map pair_of l.initial.name-iterator)
