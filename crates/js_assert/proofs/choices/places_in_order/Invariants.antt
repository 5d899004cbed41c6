use Rattle.std.proofs.Common.{◌≡◌, ◌≤◌, map, take, length, vec_capacity}
use Rattle.js_doc.specs.Seen.{value_of}
use Rattle.js_assert.specs.code.Choices.{value_in}
use Rattle.js_assert.proofs.choices.places_in_order.Given as goal

abbrev pub invariant-loop-i : goal.invariant-loop-i
invariant-loop-i l =
    record {
      listed : map (value_in l.docs) l.places.items ≡ map value_of (take l.i l.docs);
      count : length l.places.items ≡ l.i;
      room : length l.docs ≤ vec_capacity l.places;
    }
