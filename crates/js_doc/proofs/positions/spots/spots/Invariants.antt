use Rattle.std.proofs.Common.{◌≡◌, ◌+◌, ◌≤◌, drop}
use Rattle.js_doc.specs.code.Modes.{mode_of}
use Rattle.js_doc.specs.code.SpotTable.{AreBegun}
use Rattle.js_doc.proofs.SpotTable.{RestBegins, RestCounts}
use Rattle.js_doc.proofs.positions.spots.spots.Given as goal

-- the table has the tokens passed, and the rest says the others
abbrev pub invariant-loop-byte : goal.invariant-loop-byte
invariant-loop-byte l =
    record {
      offset : l.here.offset ≡ l.byte-index;
      line : l.here.line ≤ l.byte-index + 1;
      column : l.here.column ≤ l.byte-index + 1;
      begun : AreBegun l.text l.spots.items;
      begins : RestBegins l.text l.spots.items l.byte-index (mode_of l.within) (drop l.byte-index l.text);
      counts : RestCounts l.text l.byte-index l.here.line l.here.column (drop l.byte-index l.text);
    }
