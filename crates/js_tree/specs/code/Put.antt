-- Members that are added if there is a value.
use Rattle.std.specs.Prelude.{ℕ, List, Option, Some, None}
use Rattle.js_doc.specs.Members.{put}
use Rattle.js_doc.specs.Value.{Value}

abbrev pub put_some : List ℕ → Option Value → List (List ℕ × Value) → List (List ℕ × Value)
put_some name None members = members
put_some name (Some value) members = put name value members
