-- The members of the argument of `dependentRequired` (JSON Schema Validation, section 6.5.4).
use Rattle.std.specs.Prelude.{ℕ, List, map}
use Rattle.js_doc.specs.Value.{Value, object, members}
use Rattle.js_assert.specs.Names.{names_value}
use Rattle.js_assert.specs.declared.objects.Dependence.{Dependence}

abbrev pub dependence_of : Dependence → List ℕ × Value
dependence_of d = (d.name, names_value d.needs.items)

abbrev pub dependences_value : List Dependence → Value
dependences_value ds = object (members (map dependence_of ds))
