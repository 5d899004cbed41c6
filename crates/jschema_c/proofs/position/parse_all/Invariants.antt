use Rattle.std.proofs.Common.{◌≡◌, List, drop, length}
use Rattle.js_doc.specs.Pointer.{Tokens}
use Rattle.jschema_c.specs.Locating.{ArePointers, AreUtf8}
use Rattle.jschema_c.proofs.PointerTexts.{AreAllWith, HasRest}
use Rattle.jschema_c.proofs.position.parse_all.Given as goal

-- the first ends are those of the pointers so far, and whatever pointers all are, the rest has some
abbrev pub invariant-loop-end : goal.invariant-loop-end
invariant-loop-end l =
    record {
      count : length l.all.items ≡ l.end-index;
      are : AreAllWith l.bytes l.ends l.all.items l.start (drop l.end-index l.ends);
      left : (ps : List Tokens) → AreUtf8 ps → ArePointers l.bytes 0 l.ends ps
          → HasRest l.bytes l.start (drop l.end-index l.ends);
    }
