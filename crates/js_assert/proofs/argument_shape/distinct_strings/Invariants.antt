use Rattle.std.proofs.Common.{◌≡◌, ◌≤◌, [], map, take, drop, length, vec_capacity}
use Rattle.js_doc.specs.Seen.{value_of}
use Rattle.js_doc.specs.Value.{text}
use Rattle.js_assert.specs.ArgumentShape.{are_new_names}
use Rattle.js_assert.proofs.Names.{HasSeen}
use Rattle.js_assert.proofs.argument_shape.distinct_strings.Given as goal

abbrev pub invariant-loop-doc : goal.invariant-loop-doc
invariant-loop-doc l = record {
  read : map value_of (take l.doc-index l.docs) ≡ map text l.names.items;
  rest : are_new_names [] (map value_of l.docs) ≡ are_new_names l.names.items (map value_of (drop l.doc-index l.docs));
  seen : HasSeen l.seen.keys l.names.items;
  count : length l.names.items ≡ l.doc-index;
  room : length l.docs ≤ vec_capacity l.names;
}
