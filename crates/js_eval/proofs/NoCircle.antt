-- `unevaluatedItems` gives no names, and `unevaluatedProperties` no indexes.
use Rattle.std.specs.Prelude.{◌≡◌, Bool, true, false, not, ◌||◌, cond, List, [], ◌∷◌, filter, refl}
use Rattle.std.specs.List.{flat_map}
use Rattle.std.proofs.Common.{ap}
use Rattle.js_doc.specs.Value.{Value}
use Rattle.js_eval.specs.Evaluated.{names_origin, indexes_origin}
use Rattle.js_eval.specs.Keywords.{Member, keywords}
use Rattle.js_keyword.specs.Keyword.{which_keyword}
use Rattle.js_eval.specs.Unevaluated.{is_unevaluated, is_unevaluated_items, is_unevaluated_properties}
use Rattle.js_eval.specs.SchemaSet.{SchemaSet}
use Rattle.js_eval.specs.Verdict as verdict
use Rattle.js_eval.specs.Verdict.{Known}
use Rattle.js_keyword.specs.declared.keyword.Keyword.{Keyword}
use Rattle.js_keyword.specs.declared.keyword.Keyword.TheVariants.{UnevaluatedItems, UnevaluatedProperties}
use Rattle.js_eval.specs.declared.evaluation.keeping.Origin.TheVariants.{Nowhere}
use Rattle.js_eval.proofs.Agree.{plain}
use Rattle.js_eval.proofs.Recursion.Sources.{no_names_given, no_indexes_given}

no_names : (κ : Keyword) → is_unevaluated_items κ ≡ true → names_origin κ ≡ Nowhere
no_names UnevaluatedItems h = refl
no_names _ h = cc

no_indexes : (κ : Keyword) → is_unevaluated_properties κ ≡ true → indexes_origin κ ≡ Nowhere
no_indexes UnevaluatedProperties h = refl
no_indexes _ h = cc

-- leaving out one that gives nothing changes nothing
left_out_at : {X A : Type 0} (f g : X → List A) (b c o : Bool) (x : X) (xs ys : List X) → o ≡ (b || c)
    → (c ≡ true → f x ≡ []) → (b ≡ false → c ≡ false → f x ≡ g x)
    → flat_map f xs ≡ flat_map g ys → flat_map f (cond (not b) (x ∷ xs) xs) ≡ flat_map g (cond (not o) (x ∷ ys) ys)
left_out_at f g true c true x xs ys w none same e = e
left_out_at f g true c false x xs ys w none same e = cc
left_out_at f g false true true x xs ys w none same e = let n = none refl in cc
left_out_at f g false true false x xs ys w none same e = cc
left_out_at f g false false true x xs ys w none same e = cc
left_out_at f g false false false x xs ys w none same e = let s = same refl refl in cc

left_out : {X A : Type 0} (f g : X → List A) (b c o : X → Bool) → ((x : X) → o x ≡ (b x || c x))
    → ((x : X) → c x ≡ true → f x ≡ []) → ((x : X) → b x ≡ false → c x ≡ false → f x ≡ g x)
    → (xs : List X) → flat_map f (filter (λ x. not (b x)) xs) ≡ flat_map g (filter (λ x. not (o x)) xs)
left_out f g b c o w none same [] = refl
left_out f g b c o w none same (x ∷ xs) =
    left_out_at f g (b x) (c x) (o x) x (filter (λ y. not (b y)) xs) (filter (λ y. not (o y)) xs) (w x) (none x)
    (same x) (left_out f g b c o w none same xs)

either_state : (b c : Bool) → (b || c) ≡ (c || b)
either_state true true = refl
either_state true false = refl
either_state false true = refl
either_state false false = refl

neither : (b c : Bool) → b ≡ false → c ≡ false → (b || c) ≡ false
neither b c p q = cc

module _ {Place : Type 0} (S : SchemaSet Place) (known : Known Place) (above : List Place)
    (place : Place) (v : Value) where
  asks_plain : (k : Member) → is_unevaluated (which_keyword k.0) ≡ false
      → verdict.asks S known above place v k ≡ verdict.others_ask S known above place v k
  asks_plain k h =
      plain S (verdict.path S known above place v) place (verdict.siblings S known above place v) v
      (verdict.condition S known above place v) (verdict.evaluated_names S known above place v)
      (verdict.evaluated_indexes S known above place v) k (which_keyword k.0) h

  pub names_in_no_circle : flat_map (verdict.gives_names S known above place v)
      (filter (λ k. not (is_unevaluated_properties (which_keyword k.0))) (keywords (S.schema place)))
      ≡ verdict.evaluated_names S known above place v
  names_in_no_circle =
      left_out (verdict.gives_names S known above place v) (λ k. verdict.names_by S known above place v
      (verdict.matching S known above place v) k (verdict.others_ask S known above place v k))
      (λ k. is_unevaluated_properties (which_keyword k.0)) (λ k. is_unevaluated_items (which_keyword k.0))
      (λ k. is_unevaluated (which_keyword k.0))
      (λ k. either_state (is_unevaluated_items (which_keyword k.0)) (is_unevaluated_properties (which_keyword k.0)))
      (λ k h. no_names_given S known above place v k (no_names (which_keyword k.0) h))
      (λ k h g. ap (verdict.names_by S known above place v (verdict.matching S known above place v) k)
      (asks_plain k (neither (is_unevaluated_items (which_keyword k.0)) (is_unevaluated_properties
      (which_keyword k.0)) g h)))
      (keywords (S.schema place))

  pub indexes_in_no_circle : flat_map (verdict.gives_indexes S known above place v) (filter (λ k. not
      (is_unevaluated_items (which_keyword k.0))) (keywords (S.schema place)))
      ≡ verdict.evaluated_indexes S known above place v
  indexes_in_no_circle =
      left_out (verdict.gives_indexes S known above place v) (λ k. verdict.indexes_by S known above place v
      (verdict.matching S known above place v) k (verdict.others_ask S known above place v k))
      (λ k. is_unevaluated_items (which_keyword k.0)) (λ k. is_unevaluated_properties (which_keyword k.0))
      (λ k. is_unevaluated (which_keyword k.0))
      (λ k. refl)
      (λ k h. no_indexes_given S known above place v k (no_indexes (which_keyword k.0) h))
      (λ k h g. ap (verdict.indexes_by S known above place v (verdict.matching S known above place v) k)
      (asks_plain k (neither (is_unevaluated_items (which_keyword k.0)) (is_unevaluated_properties
      (which_keyword k.0)) h g)))
      (keywords (S.schema place))
