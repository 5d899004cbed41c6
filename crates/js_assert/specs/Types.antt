-- The names of the types (JSON Schema Validation, section 6.1.1).
use Rattle.std.specs.Prelude.{ℕ, List, codes}
use Rattle.js_assert.specs.declared.instance_type.InstanceType.{InstanceType}
use Rattle.js_assert.specs.declared.instance_type.InstanceType.TheVariants.{Null, Boolean, Object, Array, Number}
use Rattle.js_assert.specs.declared.instance_type.InstanceType.TheVariants.{Text, Integer}

abbrev pub type_name : InstanceType → List ℕ
type_name Null = codes "null"
type_name Boolean = codes "boolean"
type_name Object = codes "object"
type_name Array = codes "array"
type_name Number = codes "number"
type_name Text = codes "string"
type_name Integer = codes "integer"
