-- What the applications of a keyword start from, and what they are (of private functions).
use Rattle.std.specs.Prelude.{◌≡◌, ℕ, Bool, true, false, List, Option, map}
use Rattle.js_doc.specs.Seen.{value_of}
use Rattle.js_doc.specs.Value.{Named, Value}
use Rattle.js_bundle.specs.Document.{Documents}
use Rattle.js_bundle.specs.Ranked.{applies_at}
use Rattle.js_keyword.specs.declared.argument_form.Holding.TheVariants as held
use Rattle.js_bundle.specs.Schemas.{fits}
use Rattle.js_bundle.specs.Resource.{Site}
use Rattle.js_eval.specs.Applications.{Application, application, if_fails, if_holds}
use Rattle.js_eval.specs.Bundle.{schemas_of}
use Rattle.js_eval.specs.SchemaSet.{Alone, Index, Name, Step}
use Rattle.js_eval.specs.Seen.{keyword_of}
use Rattle.js_eval.specs.Sited.{numbered_site}
use Rattle.js_eval.specs.code.Holding.{IsIn}
use Rattle.js_eval.specs.code.Standing.{IsSchemaAt}
use Rattle.js_eval.specs.declared.order.keyword.KeywordAt.{KeywordAt}

-- the place has the schema
abbrev pub IsAtPlace : Documents → KeywordAt → Type 0
IsAtPlace documents k = IsSchemaAt documents k.place (value_of k.schema.now)

-- the schema has the keyword, and these are the steps to the schemas that it holds
abbrev pub HoldsBy : (Step → Bool) → KeywordAt → Type 0
HoldsBy steps k = (applies_at k.keyword.which ≡ steps) × IsIn (value_of k.schema.now) (keyword_of k.keyword)

-- the place has the schema, and the schema has the keyword, which holds one schema
abbrev pub HoldsOne : Documents → KeywordAt → Type 0
HoldsOne documents k = IsAtPlace documents k × HoldsBy (fits held.One) k

-- the schema that a step through the keyword leads to, on a value that a step leads to
abbrev pub by_keyword : Documents → KeywordAt → Step → Step → Value → Application Site
by_keyword documents k step on v =
    application (schemas_of documents) (numbered_site documents k.place) k.keyword.name.now step on v

-- the keyword's schema, on items with their indexes
abbrev pub on_items : Documents → KeywordAt → List (ℕ × Value) → List (Application Site)
on_items documents k items = map (λ e. by_keyword documents k Alone (Index e.0) e.1) items

-- the keyword's schema, on members
abbrev pub on_members : Documents → KeywordAt → Named → List (Application Site)
on_members documents k members = map (λ m. by_keyword documents k Alone (Name m.0) m.1) members

-- the schema that the keyword has for a name, on the member of that name
abbrev pub on_namesakes : Documents → KeywordAt → Named → List (Application Site)
on_namesakes documents k members = map (λ m. by_keyword documents k (Name m.0) (Name m.0) m.1) members

-- those that are asked for if the adjacent `if` has the wanted verdict
abbrev pub applied_if : Bool → Option Bool → List (Application Site) → List (Application Site)
applied_if true condition apps = if_holds condition apps
applied_if false condition apps = if_fails condition apps
