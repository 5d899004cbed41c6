-- A place has no reference that none of its keywords is.
use Rattle.std.proofs.Common.{◌≡◌, List, [], ◌∷◌, ◌++◌, Bool, true, false, codes, None}
use Rattle.std.proofs.Common.{option_and_then, refl, ap, subst}
use Rattle.std.specs.List.{list_any}
use Rattle.js_bundle.specs.Candidate.{IsClear}
use Rattle.js_bundle.specs.code.PlaceNumbers.{number_named}
use Rattle.js_bundle.specs.Finding.{number_of_target, dynamic_by, dynamic_at}
use Rattle.js_keyword.specs.declared.keyword.Keyword.{Keyword}
use Rattle.js_keyword.specs.declared.keyword.Keyword.TheVariants.{Ref, DynamicRef}
use Rattle.js_keyword.specs.contracts.keyword.KeywordPartialEq.TheImpl.{ghosts}
use Rattle.js_bundle.specs.Keyword.{Text, text_argument}
use Rattle.js_keyword.specs.Keyword.{which_keyword}
use Rattle.js_bundle.specs.MemberKeywords.{member_keywords}
use Rattle.js_bundle.specs.Refusals.{at_reference_text, at_references}
use Rattle.js_bundle.specs.Resource.{Site, joined}
use Rattle.js_bundle.proofs.Indexing.NoKeyword.{no_text}

named_ref : ghosts.eq (which_keyword (codes "$ref")) Ref ≡ true
unfolding which_keyword
named_ref = refl

named_dynamic_ref : ghosts.eq (which_keyword (codes "$dynamicRef")) DynamicRef ≡ true
unfolding which_keyword
named_dynamic_ref = refl

pub no_ref : (place : Site) (names : List Keyword) (found : Bool) → names ≡ member_keywords place
    → found ≡ list_any (λ y. ghosts.eq y Ref) names → found ≡ false → None ≡ text_argument (codes "$ref") place.schema
no_ref place names found same recorded h = no_text (codes "$ref") Ref place names found named_ref same recorded h

pub no_dynamic_ref : (place : Site) (names : List Keyword) (found : Bool) → names ≡ member_keywords place
    → found ≡ list_any (λ y. ghosts.eq y DynamicRef) names → found ≡ false
    → None ≡ text_argument (codes "$dynamicRef") place.schema
no_dynamic_ref place names found same recorded h =
    no_text (codes "$dynamicRef") DynamicRef place names found named_dynamic_ref same recorded h

pub no_target : (all : List Site) (keyword : Text) (place : Site) → None ≡ text_argument keyword place.schema
    → None ≡ number_of_target all keyword place
no_target all keyword place none =
    ap (λ t. option_and_then (number_named all) (option_and_then (joined place.own.base) t)) none

pub no_dynamic : (all : List Site) (place : Site) → None ≡ text_argument (codes "$dynamicRef") place.schema
    → None ≡ dynamic_at all place
no_dynamic all place none = ap (λ t. dynamic_by all (option_and_then (joined place.own.base) t)) none

pub clear_without : (all : List Site) (place : Site) → None ≡ text_argument (codes "$dynamicRef") place.schema
    → None ≡ text_argument (codes "$ref") place.schema → IsClear (at_references all place)
clear_without all place dynamic plain =
    subst (λ t. IsClear (at_reference_text all place (codes "$dynamicRef" ∷ []) t
    ++ at_reference_text all place (codes "$ref" ∷ []) (text_argument (codes "$ref") place.schema))) dynamic
    (subst (λ t. IsClear (at_reference_text all place (codes "$ref" ∷ []) t)) plain tt)
