-- What the text of a reference leads to.
use Rattle.std.proofs.Common.{◌≡◌, ℕ, List, [], ◌∷◌, length, nat_lt, Some, None, Ok, false, option_map}
use Rattle.std.proofs.Common.{option_and_then, slice_get, if◌then◌else◌, codes, sym, ap, ap₂, ◌∙◌, subst}
use Rattle.std.specs.Option.{option_map_or}
use Rattle.url.specs.Parts.{Parts}
use Rattle.url.specs.Parser.{parse_url}
use Rattle.js_bundle.specs.declared.check.fault.CheckFault.{CheckFault}
use Rattle.js_bundle.specs.Candidate.{IsStopped}
use Rattle.js_bundle.specs.code.PlaceNumbers.{number_named}
use Rattle.js_bundle.specs.Finding.{dynamic_as, dynamic_by}
use Rattle.js_bundle.specs.Keyword.{Text, text_argument}
use Rattle.js_bundle.specs.Names.{makes, names, named}
use Rattle.js_bundle.specs.Refusals.{at_reference, at_reference_text}
use Rattle.js_bundle.specs.Resource.{Site, joined}
use Rattle.js_bundle.specs.Target.{reference}
use Rattle.js_bundle.specs.Url.{longest_uri, decoded_fragment, parsed}
use Rattle.js_bundle.proofs.Indexing.FoundByText.{found_at}

-- a text that is joined to a URL
joined_is : (base : Parts) (t : Text) (u : Parts) → nat_lt longest_uri (length t) ≡ false
    → parse_url (Some base) t ≡ Ok u → joined base t ≡ Some u
joined_is base t u short read = ap (λ b. if b then None else parsed (parse_url (Some base) t)) short ∙ ap parsed read

pub reference_is : (keyword : Text) (place : Site) (t : Text) (u : Parts) → Some t ≡ text_argument keyword place.schema
    → nat_lt longest_uri (length t) ≡ false
    → parse_url (Some place.own.base) t ≡ Ok u → reference keyword place ≡ Some u
reference_is keyword place t u is short read = ap (option_and_then (joined place.own.base)) (sym is)
    ∙ joined_is place.own.base t u short read

-- a text that isn't joined stops the check
pub stopped_by_text : (all : List Site) (place : Site) (keyword t : Text) (e : CheckFault)
    → Some t ≡ text_argument keyword place.schema
    → ((every : List Site) → IsStopped (at_reference_text every place (keyword ∷ []) (Some t)) e)
    → IsStopped (at_reference all keyword place) e
stopped_by_text all place keyword t e is h =
    subst (λ o. IsStopped (at_reference_text all place (keyword ∷ []) o) e) is (h all)

-- ---- a `$dynamicRef`

pub dynamic_found : (all : List Site) (uri : Parts) (n : ℕ) → number_named all uri ≡ Some n
    → Some (dynamic_as (option_map_or (makes (codes "$dynamicAnchor") (decoded_fragment uri)) (slice_get all n) false)
    n) ≡ dynamic_by all (Some uri)
dynamic_found all uri n e =
    let first : slice_get all n ≡ named all uri = ap (option_and_then (slice_get all)) (sym e)
    ∙ found_at (names all uri) all in
    ap₂ (λ o t. option_map (dynamic_as
    (option_map_or (makes (codes "$dynamicAnchor") (decoded_fragment uri)) o false)) t) first (sym e)
