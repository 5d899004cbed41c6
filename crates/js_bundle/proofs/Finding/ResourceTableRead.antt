-- What the table of resources has: the number of a place's resource, and what `$dynamicAnchor` names in it.
use Rattle.std.proofs.Common.{◌≡◌, ℕ, zero, suc, ◌+◌, List, [], ◌∷◌, Bool, true, false, ◌&&◌, ◌||◌, cond, map, length}
use Rattle.std.proofs.Common.{get_or, Option, Some, None, option_map, option_and_then, option_to_list, slice_get}
use Rattle.std.proofs.Common.{bytes_eq, codes, if◌then◌else◌, refl, sym, ap, ◌∙◌, subst}
use Rattle.std.specs.List.{list_any, position_from}
use Rattle.std.specs.Option.{option_map_or}
use Rattle.js_bundle.specs.declared.index.numbering.Numbering.{Numbering}
use Rattle.js_bundle.specs.Document.{Documents}
use Rattle.js_bundle.specs.code.Index.{number_of_key}
use Rattle.js_bundle.specs.Keyword.{Text, text_argument}
use Rattle.js_bundle.specs.Names.{belongs_to, makes}
use Rattle.js_bundle.specs.Resource.{Site, sites}
use Rattle.js_bundle.specs.ResourceNumber.{roots, number_of_resource}
use Rattle.js_bundle.specs.ResourceTable.{AreAnchors, dynamic_names}
use Rattle.js_bundle.specs.PlaceNumber.{is_place, place_at}
use Rattle.js_bundle.specs.Schemas.{Finds}
use Rattle.js_bundle.specs.Target.{dynamic_anchor}
use Rattle.js_bundle.proofs.Finding.NumbersStandForPlaces.{finds_place}
use Rattle.js_bundle.proofs.Finding.CheckedPlaces.{checked_of}
use Rattle.js_bundle.proofs.Indexing.ResourceNumbers.{root_of_number, same_anchor}

-- ---- the number of a place's resource

one_some : {A B : Type 0} (f : A → Option B) (o : Option A) (x : B) → option_map f o ≡ Some (Some x)
    → option_and_then f o ≡ Some x
one_some f None x e = absurd (cc)
one_some f (Some y) x e = cc

pub kept_number : (docs documents : Documents) (numbers : List ℕ) (n place x : ℕ) → docs ≡ documents → n ≡ place
    → map Some numbers ≡ map (number_of_resource (sites docs)) (sites docs)
    → is_place documents place ≡ true → x ≡ get_or numbers n x
    → option_and_then (number_of_resource (sites documents)) (place_at documents place) ≡ Some x
kept_number docs documents numbers n place x same number e there is =
    subst (λ ds. option_and_then (number_of_resource (sites ds)) (place_at documents place) ≡ Some x) same
    (one_some (number_of_resource (sites docs)) (place_at documents place) x
    (checked_of Some (number_of_resource (sites docs)) docs documents numbers n place x same number e there is))

-- ---- what is named in the resource with a number

position_same : {A : Type 0} (f g : A → Bool) → ((x : A) → f x ≡ g x) → (k : ℕ) (xs : List A)
    → position_from f k xs ≡ position_from g k xs
position_same f g same k [] = refl
position_same f g same k (x ∷ xs) = ap (λ b. cond b (Some k) (position_from f (k + 1) xs)) (same x)
    ∙ ap (cond (g x) (Some k)) (position_same f g same (k + 1) xs)

or_false : (b : Bool) → (b || false) ≡ b
or_false true = refl
or_false false = refl

named_by : (name : Text) (b : Bool) (o : Option Text)
    → list_any (bytes_eq name) (if b then option_to_list o else []) ≡ (b && option_map_or (bytes_eq name) o false)
named_by name false o = refl
named_by name true None = refl
named_by name true (Some t) = or_false (bytes_eq name t)

-- lists of one length have the same numbers
none_beside : {A B : Type 0} (xs : List A) (ys : List B) (n : ℕ) (y : B) → length xs ≡ length ys → slice_get xs n ≡ None
    → slice_get ys n ≡ Some y → ⊥
none_beside [] [] n y many e g = absurd (cc)
none_beside [] (z ∷ ys) n y many e g = absurd (cc)
none_beside (x ∷ xs) [] n y many e g = absurd (cc)
none_beside (x ∷ xs) (z ∷ ys) zero y many e g = absurd (cc)
none_beside (x ∷ xs) (z ∷ ys) (suc n) y many e g =
    none_beside xs ys n y (let rest : length xs ≡ length ys = cc in rest) e g

module _ (documents : Documents) (anchors : List Numbering) (name : Text)
    (h : AreAnchors (roots (sites documents)) anchors (sites documents)) where
  in_resource : (n : ℕ) (a : Option Numbering) (r : Option Site) → slice_get anchors n ≡ a
      → slice_get (roots (sites documents)) n ≡ r
      → Finds documents (option_and_then (λ names. number_of_key names name) a)
      (option_and_then (dynamic_anchor (sites documents) name) r)
  in_resource n None None e g = refl
  in_resource n None (Some root) e g = absurd (none_beside anchors (roots (sites documents)) n root h.many e g)
  in_resource n (Some names) None e g = absurd (none_beside (roots (sites documents)) anchors n names (sym h.many) g e)
  in_resource n (Some names) (Some root) e g =
      let all = sites documents in
      finds_place documents (λ t. belongs_to root.document root.own.resource t && makes (codes "$dynamicAnchor") name t)
      (number_of_key names name)
      ((h.first n root names g e).first name
      ∙ position_same (λ t. list_any (bytes_eq name) (dynamic_names root t))
      (λ t. belongs_to root.document root.own.resource t && makes (codes "$dynamicAnchor") name t)
      (λ t. named_by name (belongs_to root.document root.own.resource t)
      (text_argument (codes "$dynamicAnchor") t.schema)) 0 all)

pub anchored_in : (docs documents : Documents) (anchors : List Numbering) (name : Text) (n : ℕ) (o : Option ℕ)
    → docs ≡ documents → AreAnchors (roots (sites docs)) anchors (sites docs)
    → o ≡ option_and_then (λ names. number_of_key names name) (slice_get anchors n) → Finds documents o
    (option_and_then (dynamic_anchor (sites documents) name) (slice_get (roots (sites documents)) n))
anchored_in docs documents anchors name n o same h e =
    subst (λ m. Finds documents m
    (option_and_then (dynamic_anchor (sites documents) name) (slice_get (roots (sites documents)) n))) (sym e)
    (in_resource documents anchors name (subst (λ ds. AreAnchors (roots (sites ds)) anchors (sites ds)) same h) n
    (slice_get anchors n) (slice_get (roots (sites documents)) n) refl refl)

-- ---- the same by a place

by_number : (all : List Site) (name : Text) (n : ℕ) (o : Option Site)
    → option_and_then (number_of_resource all) o ≡ Some n
    → option_and_then (dynamic_anchor all name) (slice_get (roots all) n) ≡ option_and_then (dynamic_anchor all name) o
by_number all name n None e = absurd (cc)
by_number all name n (Some place) e =
    let r = root_of_number all place n e in
    ap (option_and_then (dynamic_anchor all name)) r.found ∙ same_anchor all name r.root place r.document r.resource

pub anchored_by : (documents : Documents) (name : Text) (n place : ℕ) (o : Option ℕ)
    → option_and_then (number_of_resource (sites documents)) (place_at documents place) ≡ Some n
    → Finds documents o (option_and_then (dynamic_anchor (sites documents) name) (slice_get (roots (sites documents))
    n)) → Finds documents o (option_and_then (dynamic_anchor (sites documents) name) (place_at documents place))
anchored_by documents name n place o e h =
    subst (Finds documents o) (by_number (sites documents) name n (place_at documents place) e) h
