use Rattle.std.proofs.Common.{◌≡◌, ◌≤◌, [], map, take, drop, length, vec_capacity}
use Rattle.js_doc.specs.Seen.{value_of}
use Rattle.js_doc.specs.Value.{text}
use Rattle.js_assert.specs.ArgumentShape.{are_new_types}
use Rattle.js_assert.specs.Types.{type_name}
use Rattle.js_assert.proofs.argument_shape.distinct_types.Given as goal

abbrev pub invariant-loop-doc : goal.invariant-loop-doc
invariant-loop-doc l = record {
  read : map value_of (take l.doc-index l.docs) ≡ map text (map type_name l.types.items);
  rest : are_new_types [] (map value_of l.docs)
      ≡ are_new_types (map type_name l.types.items) (map value_of (drop l.doc-index l.docs));
  count : length l.types.items ≡ l.doc-index;
  room : length l.docs ≤ vec_capacity l.types;
}
