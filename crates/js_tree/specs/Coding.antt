-- How a forest is written as a list, and read back; so proofs can distinguish forests.
use Rattle.std.specs.Prelude.{◌≡◌, ◌⊎◌, ℕ, Bool, List, [], ◌∷◌, Option, Some, None, refl}
use mathlib.Core.Logic.{inl, inr}
use Rattle.std.proofs.Common.{ap}
use Rattle.std.specs.Coded.{Coded, code_by, coded_bool, coded_ℕ, coded×, coded⊎, coded_list, coded_option}
use Rattle.js_doc.specs.Coding.{value_code}
use Rattle.js_doc.specs.Value.{Value}
use Rattle.js_tree.specs.Forest.{Forest, empty, tree, Rose}
use Rattle.js_tree.specs.Note.{Note, silent, error, value, names, index, indexes, truly}
use Rattle.js_tree.specs.OutputUnit.{OutputUnit}

-- the forest read so far, from the back, and those that will come after what is read next
abbrev Reading : Type 0 → Type 0
Reading A = Forest A × List (Forest A)

module _ {A : Type 0} where
  -- a label opens a node, and None closes it
  abbrev bracketed : Forest A → List (Option A) → List (Option A)
  bracketed empty rest = rest
  bracketed (tree a below after) rest = Some a ∷ bracketed below (None ∷ bracketed after rest)

  abbrev at_opening : A → Reading A → Reading A
  at_opening a (below, []) = (below, [])
  at_opening a (below, after ∷ waiting) = (tree a below after, waiting)

  abbrev at_closing : Reading A → Reading A
  at_closing (after, waiting) = (empty, after ∷ waiting)

  abbrev read : List (Option A) → Reading A
  read [] = (empty, [])
  read (None ∷ xs) = at_closing (read xs)
  read (Some a ∷ xs) = at_opening a (read xs)

  pub read-bracketed : (f : Forest A) (rest : List (Option A)) (waiting : List (Forest A))
      → read rest ≡ (empty, waiting) → read (bracketed f rest) ≡ (f, waiting)
  read-bracketed empty rest waiting e = e
  read-bracketed (tree a below after) rest waiting e =
      ap (at_opening a) (read-bracketed below (None ∷ bracketed after rest) (after ∷ waiting)
      (ap at_closing (read-bracketed after rest waiting e)))

  abbrev pub forest_code : Coded A → Coded (Forest A)
  forest_code c =
      code_by (List (Option A)) (coded_list (coded_option c)) (λ f. bracketed f []) (λ xs. (read xs).0)
      (λ f. ap (λ p. p.0) (read-bracketed f [] [] refl))

  abbrev pub rose_code : Coded A → Coded (Rose A)
  rose_code c =
      code_by (A × Forest A) (coded× c (forest_code c)) (λ t. (t.root, t.below))
      (λ p. record { root = p.0; below = p.1 }) (λ _. refl)

-- what a note is made of, by its kind
abbrev Said : Type 0
Said = Option (List ℕ ⊎ (Value ⊎ (List (List ℕ) ⊎ (ℕ ⊎ Option (List ℕ)))))

abbrev said : Note → Said
said silent = None
said (error text) = Some (inl text)
said (value v) = Some (inr (inl v))
said (names ns) = Some (inr (inr (inl ns)))
said (index i) = Some (inr (inr (inr (inl i))))
said (indexes is) = Some (inr (inr (inr (inr (Some is)))))
said truly = Some (inr (inr (inr (inr None))))

abbrev saying : Said → Note
saying None = silent
saying (Some (inl text)) = error text
saying (Some (inr (inl v))) = value v
saying (Some (inr (inr (inl ns)))) = names ns
saying (Some (inr (inr (inr (inl i))))) = index i
saying (Some (inr (inr (inr (inr (Some is)))))) = indexes is
saying (Some (inr (inr (inr (inr None))))) = truly

pub saying-said : (n : Note) → saying (said n) ≡ n
saying-said silent = refl
saying-said (error text) = refl
saying-said (value v) = refl
saying-said (names ns) = refl
saying-said (index i) = refl
saying-said (indexes is) = refl
saying-said truly = refl

abbrev text_code : Coded (List ℕ)
text_code = coded_list coded_ℕ

abbrev pub note_code : Coded Note
note_code =
    code_by Said (coded_option (coded⊎ text_code
    (coded⊎ value_code (coded⊎ (coded_list text_code) (coded⊎ coded_ℕ (coded_option text_code)))))) said
    saying saying-said

abbrev pub unit_code : Coded OutputUnit
unit_code =
    code_by (Bool × (List ℕ × (List ℕ × (List ℕ × Note))))
    (coded× coded_bool (coded× text_code (coded× text_code (coded× text_code note_code))))
    (λ u. (u.valid, (u.keyword, (u.absolute, (u.instance, u.note)))))
    (λ p. record { valid = p.0; keyword = p.1.0; absolute = p.1.1.0; instance = p.1.1.1.0; note = p.1.1.1.1 })
    (λ _. refl)
