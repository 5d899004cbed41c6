-- The root of each place's resource is a place, the root of its own, and stands once.
use Rattle.std.proofs.Common.{◌≡◌, ℕ, suc, List, [], ◌∷◌, ◌++◌, Bool, true, false, cond, inl, inr, ◌⊎◌}
use Rattle.std.proofs.Common.{map, decimal, codes, Option, Some, None, is_some, option_and_then}
use Rattle.std.proofs.Common.{if◌then◌else◌, refl, sym, ap, ◌∙◌, subst}
use Rattle.std.specs.List.{AllByRecursion, list_any}
use Rattle.std.proofs.lemmas.List.Elements.{filter-append}
use Rattle.url.specs.Parts.{Parts}
use Rattle.js_doc.specs.Pointer.{Tokens}
use Rattle.js_doc.specs.Value.{Value, null, truth, whole, text, list, object, Items}
use Rattle.js_doc.specs.Value.{no_items, item, Members, no_members, member}
use Rattle.js_keyword.specs.declared.argument_form.Holding.{Holding}
use Rattle.js_keyword.specs.declared.argument_form.Holding.TheVariants.{One, Listed, Named, Nothing}
use Rattle.js_bundle.specs.declared.scan.base_scope.BaseScope.{BaseScope}
use Rattle.js_bundle.specs.Document.{Documents}
use Rattle.js_bundle.specs.Keyword.{has_argument, argument}
use Rattle.js_bundle.specs.Names.{same_tokens, stands_at}
use Rattle.js_bundle.specs.Place.{SchemaPlace, holding, places_from}
use Rattle.js_bundle.specs.PlaceLaws.{AreDistinct, Differ}
use Rattle.js_bundle.specs.Resource.{Site, site, sites, identified_by, root_scope, scope_or}
use Rattle.js_bundle.specs.ResourceNumber.{begins_resource, roots}
use Rattle.js_bundle.specs.ResourceTable.{AreRooted, StandApart}
use Rattle.js_bundle.specs.declared.scan.holding.Role.TheVariants.{Keywords, Schemas}
use Rattle.js_bundle.specs.code.Scan.{passed_down, own_scope, site_scanned, sites_held, sites_at, sites_in_list}
use Rattle.js_bundle.specs.code.Scan.{sites_of_items, sites_in_object, sites_of_members, sites_from}
use Rattle.js_bundle.specs.Seen.{AreRead}
use Rattle.js_bundle.proofs.Listing.PlacesApart.{all_as}
use Rattle.js_bundle.proofs.Listing.EachListedOnce.{tokens-refl, at_place, all_distinct}
use Rattle.js_bundle.proofs.Indexing.IndexFinds.{any_append, or_left, or_right}
use Rattle.js_bundle.proofs.Listing.LeastSetListed.{all_append}
use Rattle.js_bundle.proofs.Indexing.FirstFound.{nat_eq-refl}
use Rattle.js_bundle.proofs.Listing.Scanned.{kept_from}

-- ---- a root at the pointer is among these

abbrev HasRoot : ℕ → Tokens → List Site → Type 0
HasRoot d r xs = list_any (stands_at d r) (roots xs) ≡ true

has_left : (d : ℕ) (r : Tokens) (xs ys : List Site) → HasRoot d r xs → HasRoot d r (xs ++ ys)
has_left d r xs ys h =
    ap (list_any (stands_at d r)) (filter-append begins_resource xs ys)
    ∙ any_append (stands_at d r) (roots xs) (roots ys)
    ∙ or_left (list_any (stands_at d r) (roots xs)) (list_any (stands_at d r) (roots ys)) h

has_right : (d : ℕ) (r : Tokens) (xs ys : List Site) → HasRoot d r ys → HasRoot d r (xs ++ ys)
has_right d r xs ys h =
    ap (list_any (stands_at d r)) (filter-append begins_resource xs ys)
    ∙ any_append (stands_at d r) (roots xs) (roots ys)
    ∙ or_right (list_any (stands_at d r) (roots xs)) (list_any (stands_at d r) (roots ys)) h

has_later : (d : ℕ) (r : Tokens) (x : Site) (xs : List Site) → HasRoot d r xs → HasRoot d r (x ∷ xs)
has_later d r x xs h = has_right d r (x ∷ []) xs h

has_first : (d : ℕ) (r : Tokens) (x : Site) (xs : List Site) → begins_resource x ≡ true
    → stands_at d r x ≡ true → HasRoot d r (x ∷ xs)
has_first d r x xs b s =
    ap (λ c. list_any (stands_at d r) (cond c (x ∷ roots xs) (roots xs))) b
    ∙ or_left (stands_at d r x) (list_any (stands_at d r) (roots xs)) s

-- ---- one place and what stands below it

-- a place of the document, whose resource is the one above, or has its root among these
abbrev IsRooted : ℕ → Tokens → List Site → Site → Type 0
IsRooted d r xs x = (x.document ≡ d) × ((x.own.resource ≡ r) ⊎ HasRoot d x.own.resource xs)

abbrev AreAll : ℕ → Tokens → List Site → Type 0
AreAll d r xs = AllByRecursion (IsRooted d r xs) xs

both : (d : ℕ) (r : Tokens) (xs ys : List Site) → AreAll d r xs → AreAll d r ys → AreAll d r (xs ++ ys)
both d r xs ys h g =
    all_append (IsRooted d r (xs ++ ys)) xs ys (all_as (IsRooted d r xs) (IsRooted d r (xs ++ ys)) left xs h)
    (all_as (IsRooted d r ys) (IsRooted d r (xs ++ ys)) right ys g)
  where
    left : (x : Site) → IsRooted d r xs x → IsRooted d r (xs ++ ys) x
    left x (e, inl same) = (e, inl same)
    left x (e, inr root) = (e, inr (has_left d x.own.resource xs ys root))

    right : (x : Site) → IsRooted d r ys x → IsRooted d r (xs ++ ys) x
    right x (e, inl same) = (e, inl same)
    right x (e, inr root) = (e, inr (has_right d x.own.resource xs ys root))

held : (d : ℕ) (r : Tokens) (h : Holding) (a b c : List Site) → AreAll d r a → AreAll d r b → AreAll d r c
    → AreAll d r (sites_held h a b c)
held d r One a b c f g k = f
held d r Listed a b c f g k = g
held d r Named a b c f g k = k
held d r Nothing a b c f g k = tt

-- a place with an `$id` is a root
identified_root : (d : ℕ) (above : BaseScope) (p : Tokens) (v : Value) (xs : List Site)
    → has_argument (codes "$id") v ≡ true → HasRoot d p (site_scanned d above p v ∷ xs)
identified_root d above p v xs e =
    has_first d p (site_scanned d above p v) xs (rw e (tokens-refl p)) (rw (nat_eq-refl d, tokens-refl p) refl)

itself : (d : ℕ) (above : BaseScope) (p : Tokens) (v : Value) (xs : List Site) (b : Bool)
    → has_argument (codes "$id") v ≡ b
    → IsRooted d above.resource (site_scanned d above p v ∷ xs) (site_scanned d above p v)
itself d above p v xs false e = (refl, inl (rw e refl))
itself d above p v xs true e =
    let own : (own_scope above p v).resource ≡ p = rw e refl in
    (refl, inr (subst (λ q. HasRoot d q (site_scanned d above p v ∷ xs)) (sym own) (identified_root d above p v xs e)))

-- the base scope of what stands below is the one above, or that of the place, which has an `$id`
below_it : (d : ℕ) (above : BaseScope) (p : Tokens) (v : Value) (xs : List Site) → ((passed_down above p v).resource
    ≡ above.resource) ⊎ HasRoot d (passed_down above p v).resource (site_scanned d above p v ∷ xs)
below_it d above p v xs = by_id (argument (codes "$id") v) refl
  where
    by_base : (o : Option Parts) → has_argument (codes "$id") v ≡ true → ((scope_or o p above).resource
        ≡ above.resource) ⊎ HasRoot d (scope_or o p above).resource (site_scanned d above p v ∷ xs)
    by_base None e = inl refl
    by_base (Some base) e = inr (identified_root d above p v xs e)

    by_id : (o : Option Value) → argument (codes "$id") v ≡ o
        → ((scope_or (option_and_then (identified_by above.base) o) p above).resource ≡ above.resource) ⊎ HasRoot d
        (scope_or (option_and_then (identified_by above.base) o) p above).resource (site_scanned d above p v ∷ xs)
    by_id None e = inl refl
    by_id (Some id) e = by_base (identified_by above.base id) (ap is_some e)

-- those below, under the place
under : (d : ℕ) (above : BaseScope) (p : Tokens) (v : Value) (xs : List Site)
    → AreAll d (passed_down above p v).resource xs
    → AreAll d above.resource (site_scanned d above p v ∷ xs)
under d above p v xs h = (
  itself d above p v xs (has_argument (codes "$id") v) refl,
  all_as (IsRooted d (passed_down above p v).resource xs)
      (IsRooted d above.resource (site_scanned d above p v ∷ xs))
      (λ x k. (k.0, by_scope x (below_it d above p v xs) k.1)) xs h,
)
  where
    by_scope : (x : Site) → ((passed_down above p v).resource ≡ above.resource)
        ⊎ HasRoot d (passed_down above p v).resource (site_scanned d above p v ∷ xs)
        → (x.own.resource ≡ (passed_down above p v).resource) ⊎ HasRoot d x.own.resource xs
        → (x.own.resource ≡ above.resource) ⊎ HasRoot d x.own.resource (site_scanned d above p v ∷ xs)
    by_scope x s (inr root) = inr (has_later d x.own.resource (site_scanned d above p v) xs root)
    by_scope x (inl same) (inl e) = inl (e ∙ same)
    by_scope x (inr root) (inl e) = inr (subst (λ q. HasRoot d q (site_scanned d above p v ∷ xs)) (sym e) root)

module _ (d : ℕ) where
  mutual
    all_rooted : (v : Value) (above : BaseScope) (p : Tokens) → AreAll d above.resource (sites_at d above p v)
    all_rooted null above p = under d above p null [] tt
    all_rooted (truth b) above p = under d above p (truth b) [] tt
    all_rooted (whole z) above p = under d above p (whole z) [] tt
    all_rooted (text s) above p = under d above p (text s) [] tt
    all_rooted (list vs) above p = under d above p (list vs) [] tt
    all_rooted (object ms) above p = under d above p (object ms) (sites_of_members Keywords d
        (passed_down above p (object ms)) p ms) (keywords_rooted ms (passed_down above p (object ms)) p)

    keywords_rooted : (ms : Members) (above : BaseScope) (p : Tokens)
        → AreAll d above.resource (sites_of_members Keywords d above p ms)
    keywords_rooted no_members above p = tt
    keywords_rooted (member k v ms) above p =
        let q = p ++ k ∷ [] in
        both d above.resource (sites_held (holding k) (sites_at d above q v) (sites_in_list d above q v)
        (sites_in_object d above q v)) (sites_of_members Keywords d above p ms)
        (held d above.resource (holding k) (sites_at d above q v) (sites_in_list d above q v)
        (sites_in_object d above q v) (all_rooted v above q) (list_rooted v above q) (object_rooted v above q))
        (keywords_rooted ms above p)

    list_rooted : (v : Value) (above : BaseScope) (p : Tokens) → AreAll d above.resource (sites_in_list d above p v)
    list_rooted (list vs) above p = items_rooted vs above p 0
    list_rooted _ above p = tt

    items_rooted : (vs : Items) (above : BaseScope) (p : Tokens) (i : ℕ)
        → AreAll d above.resource (sites_of_items d above p i vs)
    items_rooted no_items above p i = tt
    items_rooted (item v vs) above p i =
        both d above.resource (sites_at d above (p ++ decimal i ∷ []) v) (sites_of_items d above p (suc i) vs)
        (all_rooted v above (p ++ decimal i ∷ [])) (items_rooted vs above p (suc i))

    object_rooted : (v : Value) (above : BaseScope) (p : Tokens) → AreAll d above.resource (sites_in_object d above p v)
    object_rooted (object ms) above p = members_rooted ms above p
    object_rooted _ above p = tt

    members_rooted : (ms : Members) (above : BaseScope) (p : Tokens)
        → AreAll d above.resource (sites_of_members Schemas d above p ms)
    members_rooted no_members above p = tt
    members_rooted (member n v ms) above p =
        both d above.resource (sites_at d above (p ++ n ∷ []) v) (sites_of_members Schemas d above p ms)
        (all_rooted v above (p ++ n ∷ [])) (members_rooted ms above p)

-- ---- over all documents

same_root : (b : Bool) → same_tokens [] (if b then [] else []) ≡ true
same_root true = refl
same_root false = refl

document_root : (d : ℕ) (uri : Parts) (v : Value) (xs : List Site)
    → HasRoot d [] (site_scanned d (root_scope uri) [] v ∷ xs)
document_root d uri v xs = has_first d [] (site_scanned d (root_scope uri) [] v) xs
    (same_root (has_argument (codes "$id") v)) (rw (nat_eq-refl d) refl)

has_root : (d : ℕ) (uri : Parts) (v : Value) → HasRoot d [] (sites_at d (root_scope uri) [] v)
has_root d uri null = document_root d uri null []
has_root d uri (truth b) = document_root d uri (truth b) []
has_root d uri (whole z) = document_root d uri (whole z) []
has_root d uri (text s) = document_root d uri (text s) []
has_root d uri (list vs) = document_root d uri (list vs) []
has_root d uri (object ms) =
    document_root d uri (object ms) (sites_of_members Keywords d (passed_down (root_scope uri) [] (object ms)) [] ms)

abbrev IsRootedIn : List Site → Site → Type 0
IsRootedIn xs x = HasRoot x.document x.own.resource xs

in_document : (d : ℕ) (xs : List Site) → HasRoot d [] xs → (x : Site) → IsRooted d [] xs x → IsRootedIn xs x
in_document d xs top x (e, inl same) =
    subst (λ n. HasRoot n x.own.resource xs) (sym e) (subst (λ q. HasRoot d q xs) (sym same) top)
in_document d xs top x (e, inr root) = subst (λ n. HasRoot n x.own.resource xs) (sym e) root

from_rooted : (n : ℕ) (ds : Documents) → AllByRecursion (IsRootedIn (sites_from n ds)) (sites_from n ds)
from_rooted n [] = tt
from_rooted n (d ∷ ds) =
    let first = sites_at n (root_scope d.uri) [] d.root in
    let rest = sites_from (suc n) ds in
    all_append (IsRootedIn (first ++ rest)) first rest
    (all_as (IsRooted n [] first) (IsRootedIn (first ++ rest))
    (λ x k. has_left x.document x.own.resource first rest (in_document n first (has_root n d.uri d.root) x k)) first
    (all_rooted n d.root (root_scope d.uri) []))
    (all_as (IsRootedIn rest) (IsRootedIn (first ++ rest)) (λ x k. has_right x.document x.own.resource first rest k)
    rest (from_rooted (suc n) ds))

-- ---- each once

apart_by : (xs : List SchemaPlace) → AreDistinct xs → StandApart (map site xs)
apart_by [] h = tt
apart_by (t ∷ xs) h = (differ xs h.0, apart_by xs h.1)
  where
    differ : (ys : List SchemaPlace) → AllByRecursion (λ s. Differ t s) ys
        → AllByRecursion (λ s. ¬ (stands_at t.document t.spot.pointer s ≡ true)) (map site ys)
    differ [] h = tt
    differ (y ∷ ys) h = (
      (λ e. let a = at_place t.document t.spot.pointer (site y) e in
          h.0 (sym a.document) (sym a.pointer)),
      differ ys h.1,
    )

pub are_rooted : (documents : Documents) → AllByRecursion (IsRootedIn (sites documents)) (sites documents)
are_rooted documents = subst (λ xs. AllByRecursion (IsRootedIn xs) xs) (kept_from 0 documents) (from_rooted 0 documents)

pub all_are_rooted : (documents : Documents) → AreRead documents → AreRooted (sites documents)
all_are_rooted documents h = record {
  apart =
      apart_by (places_from 0 documents) (all_distinct 0 documents h.ordered h.short);
  rooted = are_rooted documents;
}
