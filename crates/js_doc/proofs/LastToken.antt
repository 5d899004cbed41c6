-- What stands at a pointer is what stands one token below its beginning.
use Rattle.std.proofs.Common.{◌≡◌, ℕ, List, [], ◌∷◌, ◌++◌, Option, Some, None, refl, sym, ap, ◌∙◌}
use Rattle.std.specs.Option.{option_and_then}
use Rattle.js_doc.specs.Pointer.{Tokens}
use Rattle.js_doc.specs.Value.{Value}
use Rattle.js_doc.specs.Lookup.{at, part_named}

at_root : (o : Option Value) → option_and_then (at []) o ≡ o
at_root None = refl
at_root (Some v) = refl

last_past : (above : Tokens) (last : List ℕ) (o : Option Value)
    → ((v : Value) → at (above ++ last ∷ []) v ≡ option_and_then (part_named last) (at above v))
    → option_and_then (at (above ++ last ∷ [])) o ≡ option_and_then (part_named last) (option_and_then (at above) o)
last_past above last None more = refl
last_past above last (Some v) more = more v

at_last : (above : Tokens) (last : List ℕ) (v : Value)
    → at (above ++ last ∷ []) v ≡ option_and_then (part_named last) (at above v)
at_last [] last v = at_root (part_named last v)
at_last (token ∷ above) last v = last_past above last (part_named token v) (λ w. at_last above last w)

pub at_split : (tokens above : Tokens) (last : List ℕ) (v : Value) (o : Option Value) → tokens ≡ above ++ last ∷ []
    → o ≡ at above v → option_and_then (part_named last) o ≡ at tokens v
at_split tokens above last v o split is =
    ap (option_and_then (part_named last)) is ∙ sym (at_last above last v) ∙ ap (λ ts. at ts v) (sym split)
