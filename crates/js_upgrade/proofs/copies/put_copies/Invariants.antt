use Rattle.std.proofs.Common.{◌≡◌, map}
use Rattle.js_doc.specs.Seen.{pair_of}
use Rattle.js_upgrade.specs.Schema.{put_all}
use Rattle.js_upgrade.proofs.copies.put_copies.Given as goal

-- those left decide
abbrev pub invariant-loop-name : goal.invariant-loop-name
invariant-loop-name l =
    put_all (map pair_of l.name-iterator) l.out ≡ put_all (map pair_of l.initial.name-iterator) l.initial.out
