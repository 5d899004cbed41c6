-- The scan, a part further on.
use Rattle.std.proofs.Common.{◌≡◌, ℕ, zero, suc, ◌+◌, ◌<◌, ◌≤◌, List, [], ◌∷◌, ◌++◌, map, take, drop, get_or, length}
use Rattle.std.proofs.Common.{decimal, refl, sym, ap, ◌∙◌, subst, append_assoc, add-one, arith}
use Rattle.std.proofs.lemmas.List.{drop_more, drop_all, append-nil}
use Rattle.js_doc.specs.Pointer.{Tokens}
use Rattle.js_doc.specs.Value.{Value, items, Members, member}
use Rattle.js_doc.specs.Seen.{value_of}
use Rattle.js_doc.specs.declared.doc.Doc.{Doc}
use Rattle.js_bundle.specs.declared.scan.holding.Role.{Role}
use Rattle.js_bundle.specs.declared.scan.base_scope.BaseScope.{BaseScope}
use Rattle.std.specs.List.{take-map}
use Rattle.js_bundle.specs.declared.document.Document as rust
use Rattle.js_bundle.specs.declared.scan.site.Site as rust_scan
use Rattle.js_bundle.specs.Keyword.{Text}
use Rattle.js_bundle.specs.Resource.{Site, root_scope}
use Rattle.js_bundle.specs.Seen.{document_of}
use Rattle.js_bundle.proofs.Listing.Scanned.{kept_from}
use Rattle.js_bundle.specs.code.Scan.{SameFront, most_sites, sites_at, sites_of_items, sites_of_member}
use Rattle.js_bundle.specs.code.Scan.{sites_of_members, sites_from, site_of, scanned}

take_append : {A : Type 0} (n : ℕ) (xs zs ys : List A) → take n xs ≡ take n zs → take n (xs ++ ys) ≡ take n (zs ++ ys)
take_append zero xs zs ys e = refl
take_append (suc n) [] [] ys e = refl
take_append (suc n) [] (z ∷ zs) ys e = absurd (cc)
take_append (suc n) (x ∷ xs) [] ys e = absurd (cc)
take_append (suc n) (x ∷ xs) (z ∷ zs) ys e =
    let head : x ≡ z = cc in
    let tail : take n xs ≡ take n zs = cc in
    ap (λ y. y ∷ take n (xs ++ ys)) head ∙ ap (λ r. z ∷ r) (take_append n xs zs ys tail)

take_full : {A : Type 0} (n : ℕ) (xs ys : List A) → n ≤ length xs → take n xs ≡ take n (xs ++ ys)
take_full zero xs ys h = refl
take_full (suc n) [] ys h = absurd (omega arith)
take_full (suc n) (x ∷ xs) ys h = ap (λ r. x ∷ r) (take_full n xs ys (omega arith))

pub front_append : (xs zs ys : List Site) → SameFront xs zs → SameFront (xs ++ ys) (zs ++ ys)
front_append xs zs ys h = record { front = take_append most_sites xs zs ys h.front }

pub front_trans : (xs ys zs : List Site) → SameFront xs ys → SameFront ys zs → SameFront xs zs
front_trans xs ys zs h g = record { front = h.front ∙ g.front }

-- nothing more is listed
pub front_full : (xs ys : List Site) → most_sites ≤ length xs → SameFront xs (xs ++ ys)
front_full xs ys h = record { front = take_full most_sites xs ys h }

-- a piece more
pub front_next : (old new piece rest whole : List Site) → SameFront new (old ++ piece)
    → SameFront (old ++ (piece ++ rest)) whole → SameFront (new ++ rest) whole
front_next old new piece rest whole h g =
    front_trans (new ++ rest) ((old ++ piece) ++ rest) whole (front_append new (old ++ piece) rest h)
    (subst (λ x. SameFront x whole) (sym (append_assoc old piece rest)) g)

pub member_next : (r : Role) (d : ℕ) (a : BaseScope) (p : Tokens) (k l : Text) (u : Value) (ms : Members)
    (old new whole : List Site) → l ≡ k
    → SameFront new (old ++ sites_of_member r d a p l u)
    → SameFront (old ++ sites_of_members r d a p (member k u ms)) whole
    → SameFront (new ++ sites_of_members r d a p ms) whole
member_next r d a p k l u ms old new whole e n w =
    front_next old new (sites_of_member r d a p k u) (sites_of_members r d a p ms) whole
    (subst (λ m. SameFront new (old ++ sites_of_member r d a p m u)) e n) w

pub item_next : (d : ℕ) (a : BaseScope) (p : Tokens) (ds : List Doc) (i : ℕ) (x : Doc) (at : Tokens)
    (old new whole : List Site)
    → i < length ds → x ≡ get_or ds i x → at ≡ p ++ decimal i ∷ [] → SameFront new (old ++ sites_at d a at (value_of x))
    → SameFront (old ++ sites_of_items d a p i (items (map value_of (drop i ds)))) whole
    → SameFront (new ++ sites_of_items d a p (i + 1) (items (map value_of (drop (i + 1) ds)))) whole
item_next d a p ds i x at old new whole low is ea n w =
    let first : map value_of (drop i ds) ≡ value_of x ∷ map value_of (drop (i + 1) ds) =
    ap (map value_of) (drop_more ds i x low) ∙ ap (λ y. value_of y ∷ map value_of (drop (i + 1) ds)) (sym is) in
    let rest = λ (j : ℕ). sites_of_items d a p j (items (map value_of (drop (i + 1) ds))) in
    front_next old new (sites_at d a (p ++ decimal i ∷ []) (value_of x)) (rest (i + 1)) whole
    (subst (λ q. SameFront new (old ++ sites_at d a q (value_of x))) ea n)
    (subst (λ j. SameFront (old ++ (sites_at d a (p ++ decimal i ∷ []) (value_of x) ++ rest j)) whole) (sym (add-one i))
    (subst (λ vs. SameFront (old ++ sites_of_items d a p i (items vs)) whole) first w))

pub document_next : (ds : List rust.Document) (n : ℕ) (x : rust.Document) (old new whole : List Site)
    → n < length ds → x ≡ get_or ds n x
    → SameFront new (old ++ sites_at n (root_scope x.uri) [] (value_of x.root))
    → SameFront (old ++ sites_from n (map document_of (drop n ds))) whole
    → SameFront (new ++ sites_from (n + 1) (map document_of (drop (n + 1) ds))) whole
document_next ds n x old new whole low is h w =
    let first : map document_of (drop n ds) ≡ document_of x ∷ map document_of (drop (n + 1) ds) =
    ap (map document_of) (drop_more ds n x low)
    ∙ ap (λ y. document_of y ∷ map document_of (drop (n + 1) ds)) (sym is) in
    let rest = λ (j : ℕ). sites_from j (map document_of (drop (n + 1) ds)) in
    front_next old new (sites_at n (root_scope x.uri) [] (value_of x.root)) (rest (n + 1)) whole h
    (subst (λ j. SameFront (old ++ (sites_at n (root_scope x.uri) [] (value_of x.root) ++ rest j)) whole)
    (sym (add-one n)) (subst (λ es. SameFront (old ++ sites_from n es) whole) first w))

-- all documents are scanned, and the list is cut
pub scanned_all : (ds : List rust.Document) (n : ℕ) (listed cut : List rust_scan.Site) → length ds ≤ n
    → SameFront (map site_of listed ++ sites_from n (map document_of (drop n ds))) (sites_from 0 (map document_of ds))
    → cut ≡ take most_sites listed
    → map site_of cut ≡ scanned (map document_of ds)
unfolding scanned
scanned_all ds n listed cut low h e =
    let none : map site_of listed ++ sites_from n (map document_of (drop n ds)) ≡ map site_of listed =
    ap (λ es. map site_of listed ++ sites_from n (map document_of es)) (drop_all n ds low)
    ∙ append-nil (map site_of listed) in
    ap (map site_of) e ∙ sym (take-map site_of most_sites listed) ∙ ap (take most_sites) (sym none) ∙ h.front
    ∙ ap (take most_sites) (kept_from 0 (map document_of ds))
