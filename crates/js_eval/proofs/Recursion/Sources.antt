-- What a keyword gives grows application by application.
use Rattle.std.specs.Prelude.{◌≡◌, ℕ, zero, suc, Bool, true, false, cond, List, [], ◌∷◌, ◌++◌, ◌&&◌, filter, refl}
use Rattle.std.specs.List.{flat_map}
use Rattle.std.proofs.Common.{◌∙◌, ap, append-nil}
use Rattle.std.proofs.lemmas.List.Elements.{filter-append}
use Rattle.std.proofs.lemmas.List.Concat.{flat_map-append}
use Rattle.js_doc.specs.Value.{Value}
use Rattle.js_eval.specs.Applications.{Application}
use Rattle.js_eval.specs.Evaluated.{from_origin, names_origin, indexes_origin, name_in_step, index_in_step}
use Rattle.js_eval.specs.Keywords.{Member}
use Rattle.js_keyword.specs.Keyword.{which_keyword}
use Rattle.js_eval.specs.SchemaSet.{SchemaSet}
use Rattle.js_eval.specs.Verdict as verdict
use Rattle.js_eval.specs.Verdict.{Known, within, schema_settled, schema_passes}
use Rattle.js_keyword.specs.declared.keyword.Keyword.{Keyword}
use Rattle.js_eval.specs.Walk.Keeping.{keeps}
use Rattle.js_eval.specs.declared.evaluation.keeping.Origin.{Origin}
use Rattle.js_eval.specs.declared.evaluation.keeping.Origin.TheVariants.{Applied, Holding, Below, Nowhere}
use Rattle.js_eval.specs.Walk.Progress.{names_given, indexes_given, holds_at, settled_at}

either_none : {A : Type 0} (b : Bool) (xs : List A) → xs ≡ [] → cond b xs [] ≡ []
either_none true xs e = e
either_none false xs e = refl

-- a keyword whose kind gives nothing gives nothing
module _ {P : Type 0} (S : SchemaSet P) (known : Known P) (above : List P) (place : P) (v : Value) (k : Member) where
  abbrev asked : List (Application P)
  asked = verdict.asks S known above place v k

  abbrev holding : List (Application P)
  holding = filter (verdict.application_holds S known above place v) asked

  none_given : {A : Type 0} (s : Origin) (own below : Application P → List A) → s ≡ Nowhere
      → cond (verdict.passes S known above place v k)
      (from_origin s (flat_map own asked) (flat_map own holding) (flat_map below holding)) [] ≡ []
  none_given s own below h = either_none (verdict.passes S known above place v k) _
      (ap (λ o. from_origin o (flat_map own asked) (flat_map own holding) (flat_map below holding)) h)

  pub no_names_given : names_origin (which_keyword k.0) ≡ Nowhere → verdict.gives_names S known above place v k ≡ []
  no_names_given h = none_given (names_origin (which_keyword k.0)) (λ a. name_in_step a.at)
      (λ a. known.names (above ++ place ∷ []) a.place a.value) h

  pub no_indexes_given : indexes_origin (which_keyword k.0) ≡ Nowhere
      → verdict.gives_indexes S known above place v k ≡ []
  no_indexes_given h = none_given (indexes_origin (which_keyword k.0)) (λ a. index_in_step a.at)
      (λ a. known.indexes (above ++ place ∷ []) a.place a.value) h

source_more : {A : Type 0} (s : Origin) (xs ys zs : List A) (b : Bool) (own given : List A)
    → from_origin s (xs ++ own) (ys ++ cond b own []) (zs ++ given) ≡ from_origin s xs ys zs ++ keeps s b own given
source_more Applied xs ys zs b own given = refl
source_more Holding xs ys zs b own given = refl
source_more Below xs ys zs b own given = refl
source_more Nowhere xs ys zs b own given = refl

from_none : {A : Type 0} (s : Origin) → from_origin {A = A} s [] [] [] ≡ []
from_none Applied = refl
from_none Holding = refl
from_none Below = refl
from_none Nowhere = refl

flat_one : {X A : Type 0} (f : X → List A) (b : Bool) (x : X) → flat_map f (cond b (x ∷ []) []) ≡ cond b (f x) []
flat_one f true x = append-nil (f x)
flat_one f false x = refl

pub flat_more : {X A : Type 0} (f : X → List A) (xs : List X) (x : X) → flat_map f (xs ++ x ∷ []) ≡ flat_map f xs ++ f x
flat_more f xs x = flat_map-append f xs (x ∷ []) ∙ ap (λ l. flat_map f xs ++ l) (append-nil (f x))

pub flat_filter_more : {X A : Type 0} (f : X → List A) (p : X → Bool) (xs : List X) (x : X)
    → flat_map f (filter p (xs ++ x ∷ [])) ≡ flat_map f (filter p xs) ++ cond (p x) (f x) []
flat_filter_more f p xs x = ap (flat_map f) (filter-append p xs (x ∷ [])) ∙ (flat_map-append f (filter p xs)
    (filter p (x ∷ [])) ∙ ap (λ l. flat_map f (filter p xs) ++ l) (flat_one f (p x) x))

given_at : {A : Type 0} (s p : Bool) (xs : List A) → s ≡ true → cond (s && p) (cond p xs []) [] ≡ cond p xs []
given_at s true xs e = let h : (s && true) ≡ true = rw e refl in rw h refl
given_at s false xs e = let h : (s && false) ≡ false = rw e refl in rw h refl

module _ {P : Type 0} (S : SchemaSet P) where
  -- one that fails has evaluated nothing
  names_if_holds : (n : ℕ) (above : List P) (place : P) (v : Value) → (within S n).settled above place v ≡ true
      → cond ((within S n).holds above place v) ((within S n).names above place v) [] ≡ (within S n).names above place v
  unfolding within
  names_if_holds zero above place v h = refl
  names_if_holds (suc n) above place v h =
      given_at (schema_settled S (within S n) above place v) (schema_passes S (within S n) above place v) _ h

  indexes_if_holds : (n : ℕ) (above : List P) (place : P) (v : Value) → (within S n).settled above place v ≡ true → cond
      ((within S n).holds above place v) ((within S n).indexes above place v) [] ≡ (within S n).indexes above place v
  unfolding within
  indexes_if_holds zero above place v h = refl
  indexes_if_holds (suc n) above place v h =
      given_at (schema_settled S (within S n) above place v) (schema_passes S (within S n) above place v) _ h

  module _ (n : ℕ) (path : List P) (κ : Keyword) where
    pub names_of_none : names_given S n path κ [] ≡ []
    unfolding names_given
    names_of_none = from_none (names_origin κ)

    pub indexes_of_none : indexes_given S n path κ [] ≡ []
    unfolding indexes_given
    indexes_of_none = from_none (indexes_origin κ)

    -- what an origin gives of the applications, of which each gives `own` itself and its schema `below`, with one more
    given_more : {A : Type 0} (s : Origin) (own below : Application P
        → List A) (apps : List (Application P)) (a : Application P) → cond (holds_at S n path a) (below a) [] ≡ below a
        → from_origin s (flat_map own (apps ++ a ∷ [])) (flat_map own (filter (holds_at S n path) (apps ++ a ∷ [])))
        (flat_map below (filter (holds_at S n path) (apps ++ a ∷ [])))
        ≡ from_origin s (flat_map own apps) (flat_map own (filter (holds_at S n path) apps))
        (flat_map below (filter (holds_at S n path) apps)) ++ keeps s (holds_at S n path a) (own a) (below a)
    given_more s own below apps a e4 =
        let e1 = flat_more own apps a in
        let e2 = flat_filter_more own (holds_at S n path) apps a in
        let e3 = flat_filter_more below (holds_at S n path) apps a in
        let e5 = source_more s (flat_map own apps) (flat_map own (filter (holds_at S n path) apps))
        (flat_map below (filter (holds_at S n path) apps)) (holds_at S n path a) (own a) (below a) in
        cc

    module _ (apps : List (Application P)) (a : Application P) (settled : settled_at S n path a ≡ true) where
      pub names_more : names_given S n path κ (apps ++ a ∷ []) ≡ names_given S n path κ apps
          ++ keeps (names_origin κ) (holds_at S n path a) (name_in_step a.at) ((within S n).names path a.place a.value)
      unfolding names_given
      names_more = given_more (names_origin κ) (λ x. name_in_step x.at) (λ x. (within S n).names path x.place x.value)
          apps a (names_if_holds n path a.place a.value settled)

      pub indexes_more : indexes_given S n path κ (apps ++ a ∷ []) ≡ indexes_given S n path κ apps ++ keeps
          (indexes_origin κ) (holds_at S n path a) (index_in_step a.at) ((within S n).indexes path a.place a.value)
      unfolding indexes_given
      indexes_more = given_more (indexes_origin κ) (λ x. index_in_step x.at)
          (λ x. (within S n).indexes path x.place x.value) apps a (indexes_if_holds n path a.place a.value settled)
