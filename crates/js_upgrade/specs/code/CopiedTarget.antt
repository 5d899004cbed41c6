-- References to what was copied, as most are written: the name of the copy is the text of the pointer.
use Rattle.std.specs.Prelude.{◌≡◌, ◌∷◌, [], ℕ, Bool, true, not, ◌&&◌, ◌==◌, codes, is_none, is_some}
use Rattle.std.specs.List.{list_all}
use Rattle.js_doc.specs.Fragment.{fragment_text}
use Rattle.js_doc.specs.Members.{get, has_name}
use Rattle.js_doc.specs.Value.{Text}
use Rattle.js_upgrade.specs.Apart.{definitions_of}
use Rattle.js_upgrade.specs.CopyName.{is_rooted}
use Rattle.js_upgrade.specs.Dialect.{after_prefix}
use Rattle.js_upgrade.specs.Resource.{Resource}
use Rattle.js_upgrade.specs.code.UsualRoot.{is_usual_root}

-- neither `%` nor `~`: it stands for itself, in a fragment and in a pointer
abbrev pub is_path_byte : ℕ → Bool
is_path_byte b = not (b == 37) && not (b == 126)

-- a pointer below a root that is written as it is, but for those below `$defs`: their copies may have kept names
abbrev pub is_path : Text → Bool
is_path fragment =
    is_rooted fragment && (list_all is_path_byte fragment && is_none (after_prefix (codes "/$defs") fragment))

-- a copy among the definitions has it as its name
abbrev pub IsCopiedTarget : Resource → Text → Type 0
IsCopiedTarget r fragment =
    (is_usual_root r.dialect r.root ≡ true) × (has_name fragment r.copies ≡ true)
    × (is_path fragment ≡ true) × (is_some (get fragment (definitions_of r.dialect r.root)) ≡ true)

-- the reference in 2020-12
abbrev pub copied_text : Text → Text
copied_text name = 35 ∷ fragment_text (codes "$defs" ∷ name ∷ [])
