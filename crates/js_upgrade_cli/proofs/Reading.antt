-- Texts and roots that are read.
use Rattle.std.proofs.Common.{◌≡◌, ℕ, List, Bool, true, false, Some, Ok, cond, refl, sym, ap, ◌∙◌}
use Rattle.std.specs.Prelude.{unwrap_or}
use Rattle.std.specs.Str.{IsUtf8, is_utf8}
use Rattle.std.proofs.lemmas.Str.{IsUtf8-from_is_utf8, is_utf8-from_IsUtf8}
use Rattle.js_doc.specs.Reading.{IsReadAs, IsReadFault}
use Rattle.js_doc.specs.Value.{Value}
use Rattle.js_doc.specs.declared.reading.ReadFault.{ReadFault}
use Rattle.js_doc.specs.declared.reading.ReadFault.TheVariants as read
use Rattle.js_numbers.specs.Schema.{exact_schema}
use Rattle.js_output.specs.Documents.{unread_document}
use Rattle.js_output.specs.Reading.{reading-ok, reading-err}
use Rattle.js_upgrade.specs.declared.dialect.Dialect.{Dialect}
use Rattle.js_upgrade_cli.specs.Numbers.{exact_text}
use Rattle.js_upgrade_cli.specs.Outcome.{root_or, root_read}
use Rattle.js_upgrade_cli.specs.code.Seen.{RefusesWith}

pub root_there : (number : ℕ) (bytes : List ℕ) (v : Value) → IsReadAs bytes (Ok v) → root_read number bytes ≡ Ok v
root_there number bytes v h = ap (root_or number) (reading-ok bytes v h)

pub root_unread : (number : ℕ) (bytes : List ℕ) (f : ReadFault) → IsReadFault bytes f
    → RefusesWith (root_read number bytes) (unread_document number f)
root_unread number bytes read.Memory h = tt
root_unread number bytes read.NotJson h = ap (root_or number) (reading-err bytes read.NotJson h)
root_unread number bytes (read.NotWhole place) h =
    ap (root_or number) (reading-err bytes (read.NotWhole place) h)

-- ---- with integers where they say the same

pub text_exact : (assumed : Dialect) (text json exact : List ℕ) → json ≡ text → IsUtf8 text
    → exact_schema assumed json ≡ Some exact → exact ≡ exact_text assumed text
text_exact assumed text json exact same utf8 is =
    sym (ap (λ b. cond b (unwrap_or (exact_schema assumed text) text) text) (is_utf8-from_IsUtf8 text utf8)
    ∙ ap (λ o. unwrap_or o text) (ap (exact_schema assumed) (sym same) ∙ is))

stays_by : (text exact : List ℕ) (b : Bool) → is_utf8 text ≡ b → ¬ (IsUtf8 text) → text ≡ cond b exact text
stays_by text exact true is none = absurd (none (IsUtf8-from_is_utf8 text is))
stays_by text exact false is none = refl

pub text_stays : (assumed : Dialect) (text : List ℕ) → ¬ (IsUtf8 text) → text ≡ exact_text assumed text
text_stays assumed text none = stays_by text (unwrap_or (exact_schema assumed text) text) (is_utf8 text) refl none
