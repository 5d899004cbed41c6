-- The absolute location of a place, from what is kept of it.
use Rattle.std.proofs.Common.{◌≡◌, List, ℕ, [], ◌++◌, true, false, Option, Some, None, codes, option_map, unwrap_or}
use Rattle.std.proofs.Common.{if◌then◌else◌, sym, ap, ◌∙◌}
use Rattle.std.proofs.lemmas.List.{append-nil}
use Rattle.js_doc.specs.Fragment.{fragment_text}
use Rattle.js_bundle.specs.declared.index.stored_location.StoredLocation.{StoredLocation}
use Rattle.js_bundle.specs.code.StoredLocation.{is_long, stored_location, repeated}
use Rattle.js_bundle.specs.Location.{canonical, location, way}
use Rattle.js_bundle.specs.Resource.{Site}

-- a `#` and the fragment, behind the resource's URI
whole_behind : (uri rest : List ℕ) → is_long uri ≡ true → uri ++ rest ≡ uri ++ (repeated uri ++ rest)
whole_behind uri rest long = ap (λ b. uri ++ ((if b then [] else uri) ++ rest)) (sym long)

-- all of it
whole_kept : (uri rest : List ℕ) → is_long uri ≡ false → uri ++ rest ≡ (repeated uri ++ rest) ++ []
whole_kept uri rest short =
    ap (λ b. (if b then [] else uri) ++ rest) (sym short) ∙ sym (append-nil (repeated uri ++ rest))

written : (place : Site) → location place ≡ canonical place ++ (codes "#" ++ fragment_text (way place))
written place = ap (λ w. canonical place ++ (codes "#" ++ fragment_text w)) (append-nil (way place))

same : {A : Type 0} (x y : A) → Some x ≡ Some y → x ≡ y
same x y e = ap (λ o. unwrap_or o x) e

pub in_two_pieces : (o : Option Site) (checked : StoredLocation) (uri : List ℕ)
    → option_map stored_location o ≡ Some checked
    → option_map canonical o ≡ Some uri → checked.is_fragment ≡ true
    → option_map location o ≡ Some (uri ++ checked.text)
in_two_pieces None checked uri e u long = absurd (cc)
in_two_pieces (Some place) checked uri e u long =
    let is = same (stored_location place) checked e in
    let its = same (canonical place) uri u in
    ap Some (
    written place
    ∙ whole_behind (canonical place) (codes "#" ++ fragment_text (way place)) (ap (λ k. k.is_fragment) is ∙ long)
    ∙ ap (λ k. canonical place ++ k.text) is ∙ ap (λ t. t ++ checked.text) its
    )

pub in_one_piece : (o : Option Site) (checked : StoredLocation) → option_map stored_location o ≡ Some checked
    → checked.is_fragment ≡ false → option_map location o ≡ Some (checked.text ++ [])
in_one_piece None checked e short = absurd (cc)
in_one_piece (Some place) checked e short =
    let is = same (stored_location place) checked e in
    ap Some (
    written place
    ∙ whole_kept (canonical place) (codes "#" ++ fragment_text (way place)) (ap (λ k. k.is_fragment) is ∙ short)
    ∙ ap (λ k. k.text ++ []) is
    )
