-- A schema's keywords and their arguments: the members of an object (JSON Schema Core, section 4.3.1). They ascend by
-- name, and a schema that is no object has none.
use Rattle.std.specs.Prelude.{Bool, Option, Some, None, is_some, option_and_then}
use Rattle.js_doc.specs.Value.{Value, text}
use Rattle.js_doc.specs.Members.{get}
use Rattle.js_doc.specs.Parts.{members_of}
pub use Rattle.js_doc.specs.Value.{Text}

abbrev pub argument : Text → Value → Option Value
argument keyword schema = get keyword (members_of schema)

abbrev pub has_argument : Text → Value → Bool
has_argument keyword schema = is_some (argument keyword schema)

abbrev pub as_text : Value → Option Text
as_text (text t) = Some t
as_text _ = None

-- the argument, where it is a text
abbrev pub text_argument : Text → Value → Option Text
text_argument keyword schema = option_and_then as_text (argument keyword schema)
