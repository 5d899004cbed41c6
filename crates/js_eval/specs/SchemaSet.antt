-- What an evaluation needs to know of a set of schemas. Their places are values of any one type.
use Rattle.std.specs.Prelude.{List, Option}
use Rattle.js_doc.specs.Value.{Value}
pub use Rattle.js_doc.specs.Value.{Text}
-- one step down: to the value itself, to an item, to a member
pub use Rattle.js_bundle.specs.Schemas.{Step, Alone, Index, Name}

pub record SchemaSet (Place : Type 0) : Type 0 where
  -- the schema at a place (Core, section 4.3)
  pub schema : Place → Value
  -- the place of the subschema to which a step leads from a keyword's argument (sections 10 and 11): Alone where the
  -- argument is the schema itself, Index where it is a list of schemas, Name where it is an object of them;
  -- nothing is said where no place stands there
  pub below : Place → Text → Step → Place
  -- the place that the `$ref` at a place refers to (section 8.2.3.1)
  pub target : Place → Place
  -- the place that the `$dynamicRef` at a place refers to in a dynamic scope: the places of the schemas being applied,
  -- from the entry on, of which the place itself is the last (sections 7.1 and 8.2.3.2)
  pub dynamic_target : List Place → Place → Place
  -- the absolute location of a place, or of the keyword of this name there (section 12.3.2)
  pub absolute : Place → Option Text → Text
