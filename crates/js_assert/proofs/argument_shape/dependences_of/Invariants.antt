use Rattle.std.proofs.Common.{◌≡◌, ◌++◌, map}
use Rattle.std.specs.List.{list_all}
use Rattle.js_doc.specs.Seen.{pair_of}
use Rattle.js_assert.specs.Dependences.{dependence_of}
use Rattle.js_assert.specs.ArgumentShape.{is_list_of_names}
use Rattle.js_assert.proofs.argument_shape.dependences_of.Given as goal

abbrev pub invariant-loop-name : goal.invariant-loop-name
invariant-loop-name l = record {
  read : map dependence_of l.dependences.items ++ map pair_of l.name-iterator ≡ l.members;
  rest : list_all (λ m. is_list_of_names m.1) l.members
      ≡ list_all (λ m. is_list_of_names m.1) (map pair_of l.name-iterator);
}
