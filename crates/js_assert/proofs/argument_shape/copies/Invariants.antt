use Rattle.std.proofs.Common.{◌≡◌, ◌≤◌, map, take, length, vec_capacity}
use Rattle.js_doc.specs.Seen.{value_of}
use Rattle.js_assert.proofs.argument_shape.copies.Given as goal

abbrev pub invariant-loop-doc : goal.invariant-loop-doc
invariant-loop-doc l =
    record {
      copied : map value_of l.copies.items ≡ map value_of (take l.doc-index l.docs);
      count : length l.copies.items ≡ l.doc-index;
      room : length l.docs ≤ vec_capacity l.copies;
    }
