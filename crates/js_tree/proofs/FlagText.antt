-- The compact texts of the flag format.
use Rattle.std.proofs.Common.{◌≡◌, true, false, codes, refl}
use Rattle.json.specs.Print.{escape_byte}
use Rattle.js_doc.specs.Compact.{compact}
use Rattle.js_tree.specs.Form.{flag}

pub valid_text : codes "{\"valid\":true}" ≡ compact (flag true)
unfolding escape_byte
valid_text = refl

pub invalid_text : codes "{\"valid\":false}" ≡ compact (flag false)
unfolding escape_byte
invalid_text = refl
