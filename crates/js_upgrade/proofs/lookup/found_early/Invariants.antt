use Rattle.std.proofs.Common.{◌≡◌, map}
use Rattle.js_doc.specs.Members.{IsAscending, get}
use Rattle.js_doc.specs.Seen.{pair_of}
use Rattle.js_upgrade.proofs.lookup.found_early.Given as goal

-- those left have what all have
abbrev pub invariant-loop-key : goal.invariant-loop-key
invariant-loop-key l =
    (get l.name (map pair_of l.key-iterator) ≡ get l.name (map pair_of l.initial.key-iterator))
    × IsAscending (map pair_of l.key-iterator)
