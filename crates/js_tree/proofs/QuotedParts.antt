-- A quoted text, and what follows it: its marks go out with what stands beside them.
use Rattle.std.proofs.Common.{◌≡◌, List, [], ◌∷◌, ◌++◌, ℕ, ap, sym, append_assoc}
use Rattle.json.specs.Print.{escape}
use Rattle.js_doc.specs.Compact.{quoted}

pub quoted_then : (t rest : List ℕ) → 34 ∷ (escape t ++ 34 ∷ rest) ≡ quoted t ++ rest
quoted_then t rest = ap (λ l. 34 ∷ l) (sym (append_assoc (escape t) (34 ∷ []) rest))
