-- The root of a resource, found among what is kept of places.
use Rattle.std.proofs.Common.{◌≡◌, ℕ, List, map, Option, Some, None, option_map, slice_get, find, refl, ap, ◌∙◌}
use Rattle.std.proofs.lemmas.Option.{slice_get-map}
use Rattle.js_bundle.specs.declared.index.Index.{Index}
use Rattle.js_bundle.specs.declared.check.checked_site.CheckedSite as rust
use Rattle.js_bundle.specs.Document.{Documents}
use Rattle.js_bundle.specs.Keyword.{Text}
use Rattle.js_bundle.specs.Names.{is_known_as}
use Rattle.js_bundle.specs.Resource.{Site, sites}
use Rattle.js_bundle.specs.code.Index.{IsIndexOf, Standing, number_of_key, standing}
use Rattle.js_bundle.specs.code.CheckedSite.{checked_standing}
use Rattle.js_bundle.specs.code.CheckedSite.{checked_site, checked_site_of}
use Rattle.js_bundle.proofs.Indexing.IndexFinds.{known_at}

both : (o : Option Site) → option_map checked_standing (option_map checked_site o) ≡ option_map standing o
both None = refl
both (Some s) = refl

pub known_root : (index : Index) (docs documents : Documents) (checked : List rust.CheckedSite) (uri : Text) (n : ℕ)
    (o : Option Standing) → docs ≡ documents
    → map checked_site_of checked ≡ map checked_site (sites docs) → IsIndexOf index (sites docs)
    → Some n ≡ number_of_key index.known uri → o ≡ option_map checked_standing
    (slice_get (map checked_site_of checked) n)
    → o ≡ option_map standing (find (is_known_as uri) (sites documents))
known_root index docs documents checked uri n o same checked_sites h found e =
    e ∙ ap (λ ss. option_map checked_standing (slice_get ss n)) checked_sites
    ∙ ap (option_map checked_standing) (slice_get-map checked_site (sites docs) n) ∙ both (slice_get (sites docs) n)
    ∙ known_at standing index (sites docs) uri (Some n) h found
    ∙ ap (λ ds. option_map standing (find (is_known_as uri) (sites ds))) same

pub no_known_root : (index : Index) (docs documents : Documents) (uri : Text) → docs ≡ documents
    → IsIndexOf index (sites docs) → None ≡ number_of_key index.known uri
    → None ≡ option_map standing (find (is_known_as uri) (sites documents))
no_known_root index docs documents uri same h found =
    known_at standing index (sites docs) uri None h found
    ∙ ap (λ ds. option_map standing (find (is_known_as uri) (sites ds))) same
