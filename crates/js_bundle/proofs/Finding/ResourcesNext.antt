-- The resources, one place further on.
use Rattle.std.proofs.Common.{◌≡◌, ◌&&◌, ℕ, ◌+◌, List, [], ◌∷◌, ◌++◌, Bool, true, false, not, if◌then◌else◌, Option}
use Rattle.std.proofs.Common.{Some, None, option_map, map, bytes_eq, drop, refl, sym, ap, ◌∙◌, subst, append_assoc}
use Rattle.js_bundle.specs.Document.{Documents}
use Rattle.js_bundle.specs.Keyword.{Text}
use Rattle.js_bundle.specs.Names.{same_tokens}
use Rattle.js_bundle.specs.Resource.{Site, sites}
use Rattle.js_bundle.specs.PlaceNumber.{place_at}
use Rattle.js_bundle.specs.Schemas.{numbered, stated_once, resources_at}
use Rattle.js_bundle.specs.code.CheckedSite.{CheckedSite, checked_site, document_uri, base_made, resource_listed}
use Rattle.js_bundle.specs.Url.{printed}
use Rattle.js_bundle.proofs.Finding.DynamicTargets.{drop_at}
use Rattle.js_bundle.proofs.Indexing.PlaceNext.{piece_next}

recorded : (n : ℕ) (root made same : Bool) (uri base : Text) → bytes_eq uri base ≡ same
    → map (λ u. (u, n)) (stated_once ((if root then uri ∷ [] else []) ++ (if made then base ∷ [] else [])))
    ≡ resource_listed n (if root then Some uri else None)
    ++ resource_listed n (if made && not (root && same) then Some base else None)
recorded n true true true uri base e = rw e refl
recorded n true true false uri base e = rw e refl
recorded n true false same uri base e = refl
recorded n false true same uri base e = refl
recorded n false false same uri base e = refl

resources_are : (n : ℕ) (s : Site)
    → resources_at n s ≡ resource_listed n (document_uri (checked_site s))
    ++ resource_listed n (base_made (checked_site s))
resources_are n s = recorded n (same_tokens s.pointer []) s.identifies
    (bytes_eq (printed s.above.base) (printed s.own.base)) (printed s.above.base) (printed s.own.base) refl

next_by : (documents : Documents) (n : ℕ) (x : CheckedSite) (old mid new whole : List (Text × ℕ)) (o : Option Site)
    → place_at documents n ≡ o → option_map checked_site o ≡ Some x
    → mid ≡ old ++ resource_listed n (document_uri x) → new ≡ mid ++ resource_listed n (base_made x)
    → old ++ numbered resources_at n (drop n (sites documents)) ≡ whole
    → new ++ numbered resources_at (n + 1) (drop (n + 1) (sites documents)) ≡ whole
next_by documents n x old mid new whole None is e f g t = absurd (cc)
next_by documents n x old mid new whole (Some s) is e f g t =
    let same : checked_site s ≡ x = cc in
    let rest = numbered resources_at (n + 1) (drop (n + 1) (sites documents)) in
    let piece : resource_listed n (document_uri x) ++ resource_listed n (base_made x) ≡ resources_at n s =
    ap (λ y. resource_listed n (document_uri y) ++ resource_listed n (base_made y)) (sym same)
    ∙ sym (resources_are n s) in
    piece_next old new (resources_at n s) rest whole
    (g ∙ ap (λ l. l ++ resource_listed n (base_made x)) f ∙ append_assoc old (resource_listed n (document_uri x))
    (resource_listed n (base_made x)) ∙ ap (λ l. old ++ l) piece)
    (subst (λ l. old ++ numbered resources_at n l ≡ whole) (drop_at (sites documents) n s is) t)

pub next_resources : (documents : Documents) (n : ℕ) (x : CheckedSite) (old mid new whole : List (Text × ℕ))
    → option_map checked_site (place_at documents n) ≡ Some x
    → mid ≡ old ++ resource_listed n (document_uri x) → new ≡ mid ++ resource_listed n (base_made x)
    → old ++ numbered resources_at n (drop n (sites documents)) ≡ whole
    → new ++ numbered resources_at (n + 1) (drop (n + 1) (sites documents)) ≡ whole
next_resources documents n x old mid new whole e f g t =
    next_by documents n x old mid new whole (place_at documents n) refl e f g t
