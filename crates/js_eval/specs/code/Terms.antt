-- What the contracts of private functions cite most: documents and their places, and what is seen of the code's values.
pub use Rattle.js_assert.specs.Argument.{entries, has, values}
pub use Rattle.js_bundle.specs.Document.{Documents}
pub use Rattle.js_bundle.specs.Schemas.{is_place}
pub use Rattle.js_doc.specs.Seen.{pair_of, value_of}
pub use Rattle.js_eval.specs.Bundle.{schemas_of}
pub use Rattle.js_eval.specs.Seen.{instance_of, keyword_of, texts_of, step_of}
pub use Rattle.js_eval.specs.Sited.{numbered_site, resource_of}
pub use Rattle.js_eval.specs.code.Standing.{IsSchemaAt}
