use Rattle.std.proofs.Common.{◌≡◌, List, [], map, drop}
use Rattle.js_doc.specs.Value.{Text}
use Rattle.js_upgrade.specs.Fault.{repeated_fault}
use Rattle.js_upgrade.specs.Seen.{source_of}
use Rattle.js_upgrade.specs.code.HasSeen.{HasSeen}
use Rattle.js_upgrade.proofs.checking.repeated_fault.Given as goal

-- those left decide, by the URIs of those before
abbrev pub invariant-loop-i : goal.invariant-loop-i
invariant-loop-i l =
    (uris : List Text) × HasSeen l.seen.keys uris
    × (repeated_fault uris l.i (map source_of (drop l.i l.sources)) ≡ repeated_fault [] 0 (map source_of l.sources))
