-- Which keyword of the standard each member of a schema is.
use Rattle.std.specs.Prelude.{List, map}
use Rattle.js_doc.specs.Parts.{members_of}
use Rattle.js_keyword.specs.declared.keyword.Keyword.{Keyword}
use Rattle.js_keyword.specs.Keyword.{which_keyword}
use Rattle.js_bundle.specs.Resource.{Site}

-- of each of a place's keywords, by name ascending
abbrev pub member_keywords : Site → List Keyword
member_keywords place = map (λ m. which_keyword m.0) (members_of place.schema)
