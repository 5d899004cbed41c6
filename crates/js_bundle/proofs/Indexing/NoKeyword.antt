-- A schema has no keyword that none of its names is.
use Rattle.std.proofs.Common.{◌≡◌, List, [], ◌∷◌, Bool, true, false, ◌||◌, codes, map, Some, None}
use Rattle.std.proofs.Common.{option_and_then, if◌then◌else◌, refl, sym, ap, ◌∙◌}
use Rattle.std.specs.List.{list_any}
use Rattle.std.specs.Str.{bytes_eq}
use Rattle.js_doc.specs.Members.{get}
use Rattle.js_doc.specs.Value.{Value, Named}
use Rattle.js_doc.specs.Parts.{members_of}
use Rattle.js_doc.proofs.TokenLookup.{is_text-sound}
use Rattle.js_keyword.specs.declared.keyword.Keyword.{Keyword}
use Rattle.js_keyword.specs.declared.keyword.Keyword.TheVariants.{Other}
use Rattle.js_keyword.specs.declared.other_keyword.OtherKeyword.TheVariants.{DynamicAnchor}
use Rattle.js_keyword.specs.contracts.keyword.KeywordPartialEq.TheImpl.{ghosts}
use Rattle.js_bundle.specs.Keyword.{Text, text_argument, as_text}
use Rattle.js_keyword.specs.Keyword.{which_keyword}
use Rattle.js_bundle.specs.MemberKeywords.{member_keywords}
use Rattle.js_bundle.specs.Resource.{Site}
use Rattle.js_bundle.proofs.Indexing.FirstFound.{get_first}

neither : (a b : Bool) → (a || b) ≡ false → (a ≡ false) × (b ≡ false)
neither true b h = absurd (cc)
neither false b h = (refl, h)

absent_by : (k : Text) (w : Keyword) → ghosts.eq (which_keyword k) w ≡ true
    → (l : Text) (v : Value) (ms : Named) (b : Bool) → bytes_eq k l ≡ b → ghosts.eq (which_keyword l) w ≡ false
    → get k ms ≡ None → (if b then Some v else get k ms) ≡ None
absent_by k w is l v ms true e other more =
    let same : k ≡ l = is_text-sound k l e in
    let no : true ≡ false = sym is ∙ ap (λ x. ghosts.eq (which_keyword x) w) same ∙ other in
    absurd (cc)
absent_by k w is l v ms false e other more = more

absent : (k : Text) (w : Keyword) → ghosts.eq (which_keyword k) w ≡ true → (ms : Named)
    → list_any (λ y. ghosts.eq y w) (map (λ m. which_keyword m.0) ms) ≡ false → get k ms ≡ None
absent k w is [] h = refl
absent k w is (m ∷ ms) h =
    let parts = neither (ghosts.eq (which_keyword m.0) w)
    (list_any (λ y. ghosts.eq y w) (map (λ n. which_keyword n.0) ms)) h in
    get_first k m.0 m.1 ms ∙ absent_by k w is m.0 m.1 ms (bytes_eq k m.0) refl parts.0 (absent k w is ms parts.1)

named_dynamic_anchor : ghosts.eq (which_keyword (codes "$dynamicAnchor")) (Other DynamicAnchor) ≡ true
unfolding which_keyword
named_dynamic_anchor = refl

pub no_text : (k : Text) (w : Keyword) (place : Site) (names : List Keyword) (found : Bool)
    → ghosts.eq (which_keyword k) w ≡ true → names ≡ member_keywords place
    → found ≡ list_any (λ y. ghosts.eq y w) names → found ≡ false → None ≡ text_argument k place.schema
no_text k w place names found is same recorded h =
    sym (ap (option_and_then as_text)
    (absent k w is (members_of place.schema) (ap (list_any (λ y. ghosts.eq y w)) (sym same) ∙ sym recorded ∙ h)))

-- a place that makes no name by `$dynamicAnchor`
pub no_dynamic_anchor : (place : Site) (names : List Keyword) (found : Bool) → names ≡ member_keywords place
    → found ≡ list_any (λ y. ghosts.eq y (Other DynamicAnchor)) names → found ≡ false
    → None ≡ text_argument (codes "$dynamicAnchor") place.schema
no_dynamic_anchor place names found same recorded h =
    no_text (codes "$dynamicAnchor") (Other DynamicAnchor) place names found named_dynamic_anchor same recorded h
