-- References to definitions of their own resource, as most are written: they lead where their tokens do, which needn't
-- be read.
use Rattle.std.specs.Prelude.{◌≡◌, ℕ, List, [], ◌++◌, Bool, true, not, ◌&&◌, ◌||◌, ◌==◌, Option, Some, None, codes}
use Rattle.std.specs.Prelude.{is_some}
use Rattle.std.specs.Prelude.{length, nat_lt, option_and_then, if◌then◌else◌}
use Rattle.std.specs.List.{list_all}
use Rattle.url.specs.Parts.{Parts}
use Rattle.js_doc.specs.Members.{get}
use Rattle.js_doc.specs.Plain.{is_plain}
use Rattle.js_doc.specs.Value.{Text}
use Rattle.js_upgrade.specs.Apart.{definitions_of}
use Rattle.js_upgrade.specs.Copies.{Copies, copied_for_text}
use Rattle.js_upgrade.specs.Dialect.{after_prefix, is_before}
use Rattle.js_upgrade.specs.Resource.{Resource}
use Rattle.js_upgrade.specs.code.UsualRoot.{is_usual_root}
use Rattle.js_upgrade.specs.declared.definitions.UsualTarget.{UsualTarget}
use Rattle.js_upgrade.specs.declared.dialect.Dialect.{Dialect}
use Rattle.js_upgrade.specs.declared.dialect.Dialect.TheVariants.{Draft2019}

-- ---- how they are written

abbrev pub usual_prefix : Dialect → Text
usual_prefix d = if is_before d Draft2019 then codes "#/definitions/" else codes "#/$defs/"

-- it is written as it is, in the text of a pointer and in a fragment
abbrev pub is_usual_byte : ℕ → Bool
is_usual_byte b = is_plain b || b == 58

-- a name that is written as it is in a fragment
abbrev pub plain_name : Text → Option Text
plain_name name = if not (nat_lt 60000 (length name)) && list_all is_usual_byte name then Some name else None

abbrev pub usual_name : Dialect → Text → Option Text
usual_name d t = option_and_then plain_name (after_prefix (usual_prefix d) t)

-- ---- what they lead to

-- the definition is there, and no copy is
abbrev pub IsUsualTarget : Resource → Text → UsualTarget → Type 0
IsUsualTarget r t target =
    (is_usual_root r.dialect r.root ≡ true) × (r.copies ≡ []) × (usual_name r.dialect t ≡ Some target.name.now)
    × (is_some (get target.name.now (definitions_of r.dialect r.root)) ≡ true)
    × (target.dialect ≡ r.dialect)

-- wherever it stands, it leads to nothing that is copied
abbrev pub IsUncopied : Text → Type 0
IsUncopied t = (roots : List Resource) (base : Parts) (copies : Copies) → copied_for_text roots base t copies ≡ copies

-- as it is in 2020-12
abbrev pub usual_text : Dialect → Text → Text → Text
usual_text d t name = if is_before d Draft2019 then codes "#/$defs/" ++ name else t
