-- The applications that a keyword with a list of schemas still has to ask for (of private functions).
use Rattle.std.specs.Prelude.{◌≡◌, List, drop, map}
use Rattle.js_assert.specs.Argument.{values}
use Rattle.js_bundle.specs.Document.{Documents}
use Rattle.js_bundle.specs.Resource.{Site}
use Rattle.js_doc.specs.Seen.{value_of}
use Rattle.js_bundle.specs.Ranked.{applies_at}
use Rattle.js_keyword.specs.declared.argument_form.Holding.TheVariants as held
use Rattle.js_bundle.specs.Schemas.{fits}
use Rattle.js_eval.specs.Applications.{Application, application, indexed_from}
use Rattle.js_eval.specs.Bundle.{schemas_of}
use Rattle.js_eval.specs.SchemaSet.{Alone, Index}
use Rattle.js_eval.specs.Seen.{instance_of, keyword_of}
use Rattle.js_eval.specs.Sited.{numbered_site}
use Rattle.js_eval.specs.code.Holding.{IsIn}
use Rattle.js_eval.specs.code.Standing.{IsSchemaAt}
use Rattle.js_eval.specs.declared.cursors.list_cursor.ListCursor.{ListCursor}

abbrev pub list_asked : Documents → ListCursor → List (Application Site)
list_asked documents c =
    map (λ e. application (schemas_of documents) (numbered_site documents c.at.place) c.at.keyword.name.now (Index e.0)
    Alone (instance_of c.value))
    (indexed_from c.next (map value_of (drop c.next c.list.now)))

-- the list is that of the keyword of a place with this schema
abbrev pub IsList : Documents → ListCursor → Type 0
IsList documents c =
    IsSchemaAt documents c.at.place (value_of c.at.schema.now) × (applies_at c.at.keyword.which ≡ fits held.Listed)
    × IsIn (value_of c.at.schema.now) (keyword_of c.at.keyword)
    × (map value_of c.list.now ≡ values (value_of c.at.keyword.argument.now))
