-- Lists without some of their elements, each of which has an equivalent that is left.
use Rattle.std.specs.Prelude.{Bool, List, [], ◌∷◌}
use Rattle.std.specs.List.{list_all, list_any}

-- the first list is some of the second's elements, in order
pub data Sublist {A : Type 0} : List A → List A → Type 0 where
  no_more : Sublist [] []
  left_out : {y : A} {xs ys : List A} → Sublist xs ys → Sublist xs (y ∷ ys)
  taken : {x : A} {xs ys : List A} → Sublist xs ys → Sublist (x ∷ xs) (x ∷ ys)

-- each element of the list has an equivalent among the few
abbrev pub none_lost : {A : Type 0} → (A → A → Bool) → List A → List A → Bool
none_lost same few all = list_all (λ x. list_any (λ y. same y x) few) all
