-- The pointer that a fragment is.
use Rattle.std.proofs.Common.{◌≡◌, Bool, true, false, cond, Option, Some, None, refl, sym, ap, ◌∙◌}
use Rattle.std.specs.Str.{IsUtf8, is_utf8}
use Rattle.std.proofs.lemmas.Str.{IsUtf8-from_is_utf8, is_utf8-from_IsUtf8}
use Rattle.js_doc.specs.Pointer.{Tokens, pointer_text}
use Rattle.js_doc.specs.PointerReading.{pointer_of}
use Rattle.js_doc.proofs.PointerTexts.{pointer_of-text, pointer_of-sound}
use Rattle.js_doc.specs.Value.{Text}

abbrev read : Text → Option Tokens
read t = cond (is_utf8 t) (pointer_of t) None

pub pointer_read : (t : Text) (p : Tokens) → pointer_text p ≡ t → IsUtf8 t → Some p ≡ read t
pointer_read t p e u = sym (pointer_of-text p) ∙ ap pointer_of e
    ∙ sym (ap (λ b. cond b (pointer_of t) None) (is_utf8-from_IsUtf8 t u))

none_by : (t : Text) (found : Option Tokens) → pointer_of t ≡ found → ((p : Tokens) → ¬ (pointer_text p ≡ t))
    → None ≡ found
none_by t None e h = refl
none_by t (Some p) e h = absurd (h p (pointer_of-sound t p e))

-- of a text

pub pointer_text_read : (t : Text) (p : Tokens) → pointer_text p ≡ t → Some p ≡ pointer_of t
pointer_text_read t p e = sym (pointer_of-text p) ∙ ap pointer_of e

pub no_pointer_text : (t : Text) → ((p : Tokens) → ¬ (pointer_text p ≡ t)) → None ≡ pointer_of t
no_pointer_text t h = none_by t (pointer_of t) refl h

no_pointer_by : (t : Text) (b : Bool) → is_utf8 t ≡ b → (IsUtf8 t → (p : Tokens) → ¬ (pointer_text p ≡ t))
    → None ≡ cond b (pointer_of t) None
no_pointer_by t true e h = none_by t (pointer_of t) refl (h (IsUtf8-from_is_utf8 t e))
no_pointer_by t false e h = refl

pub no_pointer : (t : Text) → (IsUtf8 t → (p : Tokens) → ¬ (pointer_text p ≡ t)) → None ≡ read t
no_pointer t h = no_pointer_by t (is_utf8 t) refl h
