-- Documents without a value get none.
use Rattle.std.proofs.Common.{◌≡◌, [], ◌∷◌, refl}
use Rattle.js_bundle.specs.Document.{Documents}
use Rattle.jschema_c.specs.Upgrading.{with_roots}

pub none_left : (ds : Documents) → with_roots ds [] ≡ []
none_left [] = refl
none_left (d ∷ ds) = refl
