-- Roots to whose definitions references are usual.
use Rattle.std.specs.Prelude.{◌≡◌, Bool, true, false, ◌&&◌, ◌==◌, Option, Some, None, is_some}
use denote.Ref.{Bor}
use Rattle.js_doc.specs.Members.{get}
use Rattle.js_doc.specs.Parts.{members_of}
use Rattle.js_doc.specs.Value.{Value, object, Named, Text}
use Rattle.js_upgrade.specs.Apart.{definitions_of}
use Rattle.js_upgrade.specs.CopyName.{definitions_name}
use Rattle.js_upgrade.specs.Dialect.{draft_number}
use Rattle.js_upgrade.specs.Upgrade.{own_dialect}
use Rattle.js_upgrade.specs.declared.dialect.Dialect.{Dialect}

abbrev pub is_same_dialect : Dialect → Dialect → Bool
is_same_dialect d e = draft_number d == draft_number e

abbrev pub holds_members : Option Value → Bool
holds_members (Some (object ms)) = true
holds_members _ = false

-- of the dialect around it, and with definitions
abbrev pub is_usual_root : Dialect → Value → Bool
is_usual_root d root =
    is_same_dialect (own_dialect d (members_of root)) d && holds_members (get (definitions_name d) (members_of root))

abbrev pub has_in : Option (Bor Named) → Text → Bool
has_in None name = false
has_in (Some ms) name = is_some (get name ms.now)

-- they have the names of the root's definitions
pub record DefinesThose (found : Option (Bor Named)) (d : Dialect) (root : Value) : Type 0 where
  pub those : (name : Text) → has_in found name ≡ is_some (get name (definitions_of d root))
