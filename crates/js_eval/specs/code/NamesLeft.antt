-- The applications that `properties` still has to ask for, name by name (of private functions).
use Rattle.std.specs.Prelude.{◌≡◌, ℕ, ◌+◌, ◌<◌, ◌^◌, List, drop, filter, length, map}
use Rattle.js_assert.specs.Argument.{entries, has}
use Rattle.js_bundle.specs.Document.{Documents}
use Rattle.js_bundle.specs.Resource.{Site}
use Rattle.js_doc.specs.Seen.{pair_of, value_of}
use Rattle.js_doc.specs.Members.{IsAscending}
use Rattle.js_doc.specs.Value as doc
use Rattle.js_doc.specs.declared.doc.Doc.{Doc}
use Rattle.js_bundle.specs.Ranked.{applies_at}
use Rattle.js_keyword.specs.declared.argument_form.Holding.TheVariants as held
use Rattle.js_bundle.specs.Schemas.{fits}
use Rattle.js_eval.specs.Applications.{Application, application}
use Rattle.js_eval.specs.Bundle.{schemas_of}
use Rattle.js_eval.specs.SchemaSet.{Name, Text}
use Rattle.js_eval.specs.Seen.{keyword_of}
use Rattle.js_eval.specs.Sited.{numbered_site}
use Rattle.js_eval.specs.code.Holding.{IsIn}
use Rattle.js_eval.specs.code.Standing.{IsSchemaAt}
use Rattle.js_eval.specs.declared.cursors.name_cursor.Among.{Among}
use Rattle.js_eval.specs.declared.cursors.name_cursor.Among.TheVariants.{All, Left}
use Rattle.js_eval.specs.declared.cursors.name_cursor.NameCursor.{NameCursor}

-- the schema of a name, applied to the member of that name
abbrev pub on_member : Documents → ℕ → Text → Text × doc.Value → Application Site
on_member documents place keyword m =
    application (schemas_of documents) (numbered_site documents place) keyword (Name m.0) (Name m.0) m.1

-- the members that may have a name that is left
abbrev pub members_among : Among → doc.Named
members_among (All members) = members.now
members_among (Left members) = map pair_of members

-- those that have a name that is left
abbrev pub names_left : doc.Named → List (List ℕ × Doc) → doc.Named
names_left members names = filter (λ m. has m.0 (map pair_of names)) members

abbrev pub names_asked : Documents → NameCursor → List (Application Site)
names_asked documents c =
    map (on_member documents c.at.place c.at.keyword.name.now) (names_left (members_among c.among) c.names)

-- of all names, these are left after this many
abbrev pub AreLeft : doc.Named → ℕ → List (List ℕ × Doc) → Type 0
AreLeft all rank names = map pair_of names ≡ drop rank all

-- the names are those of the keyword of a place with this schema, and both sides ascend
abbrev pub IsNames : Documents → NameCursor → Type 0
IsNames documents c =
    IsSchemaAt documents c.at.place (value_of c.at.schema.now) × (applies_at c.at.keyword.which ≡ fits held.Named)
    × IsIn (value_of c.at.schema.now) (keyword_of c.at.keyword)
    × AreLeft (entries (value_of c.at.keyword.argument.now)) c.rank c.names × (c.rank + length c.names < 2 ^ 64)
    × IsAscending (map pair_of c.names) × IsAscending (members_among c.among)
