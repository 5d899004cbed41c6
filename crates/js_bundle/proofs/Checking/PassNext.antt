-- A pass over the places, one place more.
use Rattle.std.proofs.Common.{◌≡◌, ℕ, ◌+◌, ◌<◌, List, [], ◌∷◌, ◌++◌, map, take, drop, get_or, length, sym, ap}
use Rattle.std.proofs.Common.{◌∙◌, subst, true, false, is_none, inl, Ok, Some, None}
use Rattle.std.specs.List.{flat_map}
use Rattle.js_bundle.proofs.Indexing.PlaceNext.{map_drop_more, map_take_more}
use Rattle.js_bundle.specs.declared.scan.site.Site as rust
use Rattle.js_bundle.specs.declared.refusal.Refusal.{Refusal}
use Rattle.js_bundle.specs.declared.refusal.RefusalKind.TheVariants.{Unresolved}
use Rattle.js_bundle.specs.declared.check.fault.CheckFault.{CheckFault}
use Rattle.js_bundle.specs.declared.check.fault.CheckFault.TheVariants.{Memory, Refused}
use Rattle.js_bundle.specs.Candidate.{Candidate, IsClear, IsStopped}
use Rattle.js_bundle.specs.code.PlaceNumbers.{number_named}
use Rattle.js_bundle.specs.Finding.{IsRefusalOrMemory}
use Rattle.js_bundle.specs.code.Leads.{Leads}
use Rattle.js_bundle.specs.Names.{names, named, is_read}
use Rattle.js_bundle.specs.Refusals.{at_joined_reference, refusal_at, at_site, first_pass}
use Rattle.js_bundle.specs.Url.{decoded_fragment}
use Rattle.js_bundle.proofs.Indexing.FoundByText.{none_alike}
use Rattle.js_doc.specs.Pointer.{Tokens}
use Rattle.url.specs.Parts.{Parts}
use Rattle.js_bundle.specs.Resource.{Site}
use Rattle.js_bundle.specs.code.Scan.{site_of}

-- ---- the first pass, one place more

pub site_next : (ss : List rust.Site) (i : ℕ) (x : rust.Site) (whole : List Candidate)
    → i < length ss → x ≡ get_or ss i x
    → Leads whole (first_pass (map site_of (take i ss)) (map site_of (drop i ss)))
    → Leads whole (at_site (map site_of (take i ss)) (site_of x)
    ++ first_pass (map site_of (take (i + 1) ss)) (map site_of (drop (i + 1) ss)))
site_next ss i x whole h e l =
    let before = map site_of (take i ss) in
    let after = map site_of (drop (i + 1) ss) in
    subst (λ b. Leads whole (at_site before (site_of x) ++ first_pass b after)) (sym (map_take_more site_of ss i x h e))
    (subst (λ r. Leads whole (first_pass before r)) (map_drop_more site_of ss i x h e) l)

-- ---- the second pass, one place more

pub leads_next : (f : Site → List Candidate) (ss : List rust.Site) (i : ℕ) (x : rust.Site) (whole : List Candidate)
    → i < length ss → x ≡ get_or ss i x
    → Leads whole (flat_map f (map site_of (drop i ss)))
    → Leads whole (f (site_of x) ++ flat_map f (map site_of (drop (i + 1) ss)))
leads_next f ss i x whole h e l = subst (λ r. Leads whole (flat_map f r)) (map_drop_more site_of ss i x h e) l

-- ---- one reference

not_none : (all : List Site) (uri : Parts) (n : ℕ) → number_named all uri ≡ Some n → is_none (named all uri) ≡ false
not_none all uri n e = sym (none_alike (names all uri) 0 all) ∙ ap is_none e

is_lost : (all : List Site) (uri : Parts) → number_named all uri ≡ None → is_none (named all uri) ≡ true
is_lost all uri e = sym (none_alike (names all uri) 0 all) ∙ ap is_none e

pub found_clear : (all : List Site) (place : Site) (further : Tokens) (uri : Parts) (n : ℕ)
    → number_named all uri ≡ Some n → is_read (decoded_fragment uri) ≡ true
    → IsClear (at_joined_reference all place further (Ok uri))
found_clear all place further uri n e r = let some : is_none (named all uri)
    ≡ false = not_none all uri n e in rw (r, some) tt

pub refused_one : (r : Refusal) (e : CheckFault) → IsRefusalOrMemory r e
    → IsStopped (record { refusal = r; decided = true; allowed = false } ∷ []) e
refused_one r Memory h = tt
refused_one r (Refused s) h = inl h

pub lost_stopped : (all : List Site) (place : Site) (further : Tokens) (uri : Parts) (e : CheckFault)
    → number_named all uri ≡ None → is_read (decoded_fragment uri) ≡ true
    → IsRefusalOrMemory (refusal_at place further Unresolved) e
    → IsStopped (at_joined_reference all place further (Ok uri)) e
lost_stopped all place further uri e n r h = let lost : is_none (named all uri) ≡ true = is_lost all uri n in
    rw (r, lost) (refused_one (refusal_at place further Unresolved) e h)
