-- The keywords of a schema (of private functions).
use Rattle.std.specs.Prelude.{◌≡◌, Some}
use Rattle.js_assert.specs.Argument.{entries}
use Rattle.js_doc.specs.Members.{get}
use Rattle.js_doc.specs.Value.{Value}
use Rattle.js_eval.specs.Keywords.{Member}

-- the schema has this keyword
abbrev pub IsIn : Value → Member → Type 0
IsIn schema k = get k.0 (entries schema) ≡ Some k.1
