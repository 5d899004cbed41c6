-- The numbers of the places that each keyword of a place holds, as they follow from the numbers in scan order: the
-- first place that a place holds comes next, and the next one after all that stand below that.
use Rattle.std.specs.Prelude.{ℕ, suc, ◌+◌, List, [], ◌∷◌, ◌++◌, map}
use Rattle.js_doc.specs.Value.{Value, list, object, Items, no_items, item, Members, no_members, member}
use Rattle.js_bundle.specs.declared.index.edges.Edges.{Edges}
use Rattle.js_bundle.specs.declared.index.edges.HeldPlaces.{HeldPlaces}
use Rattle.js_keyword.specs.declared.argument_form.Holding.{Holding}
use Rattle.js_keyword.specs.declared.argument_form.Holding.TheVariants.{One, Listed, Named, Nothing}
use Rattle.js_keyword.specs.declared.keyword.Keyword.{Keyword}
use Rattle.js_bundle.specs.Document.{Documents}
use Rattle.js_bundle.specs.Keyword.{Text}
use Rattle.js_keyword.specs.Keyword.{which_keyword}
use Rattle.js_bundle.specs.Place.{holding}

-- what there is of a keyword, as it holds schemas
abbrev pub by_holding : {A : Type 0} → A → Holding → A → A → A → A
by_holding nothing One one listed named = one
by_holding nothing Listed one listed named = listed
by_holding nothing Named one listed named = named
by_holding nothing Nothing one listed named = nothing

-- ---- how many places a schema is, with those below it

abbrev mutual
  pub count : Value → ℕ
  count (object ms) = suc (count_of_keywords ms)
  count _ = 1

  pub count_of_keywords : Members → ℕ
  count_of_keywords no_members = 0
  count_of_keywords (member k v ms) =
      by_holding 0 (holding k) (count v) (count_in_list v) (count_in_object v) + count_of_keywords ms

  pub count_in_list : Value → ℕ
  count_in_list (list vs) = count_of_items vs
  count_in_list _ = 0

  pub count_of_items : Items → ℕ
  count_of_items no_items = 0
  count_of_items (item v vs) = count v + count_of_items vs

  pub count_in_object : Value → ℕ
  count_in_object (object ms) = count_of_members ms
  count_in_object _ = 0

  pub count_of_members : Members → ℕ
  count_of_members no_members = 0
  count_of_members (member n v ms) = count v + count_of_members ms

-- of what one keyword holds
abbrev pub count_of_keyword : Text → Value → ℕ
count_of_keyword k v = by_holding 0 (holding k) (count v) (count_in_list v) (count_in_object v)

-- ---- the numbers of the schemas that are held, where the first has the number n

abbrev pub numbers_of_items : ℕ → Items → List ℕ
numbers_of_items n no_items = []
numbers_of_items n (item v vs) = n ∷ numbers_of_items (n + count v) vs

abbrev pub numbers_in_list : ℕ → Value → List ℕ
numbers_in_list n (list vs) = numbers_of_items n vs
numbers_in_list n _ = []

abbrev pub numbers_of_members : ℕ → Members → List ℕ
numbers_of_members n no_members = []
numbers_of_members n (member name v ms) = n ∷ numbers_of_members (n + count v) ms

abbrev pub numbers_in_object : ℕ → Value → List ℕ
numbers_in_object n (object ms) = numbers_of_members n ms
numbers_in_object n _ = []

abbrev pub numbers_held : Holding → ℕ → Value → List ℕ
numbers_held h n v = by_holding [] h (n ∷ []) (numbers_in_list n v) (numbers_in_object n v)

-- a keyword that holds schemas, with their numbers
abbrev pub HeldNumbers : Type 0
HeldNumbers = Keyword × List ℕ

-- an entry for a keyword that holds schemas, none for another one
abbrev pub one_entry : {A : Type 0} → Holding → A → List A
one_entry h entry = by_holding [] h (entry ∷ []) (entry ∷ []) (entry ∷ [])

abbrev pub held_by_keywords : ℕ → Members → List HeldNumbers
held_by_keywords n no_members = []
held_by_keywords n (member k v ms) = one_entry (holding k) (which_keyword k, numbers_held (holding k) n v)
    ++ held_by_keywords (n + count_of_keyword k v) ms

-- what the keywords of the place with this number hold
abbrev pub held_by_place : ℕ → Value → List HeldNumbers
held_by_place n (object ms) = held_by_keywords (suc n) ms
held_by_place n _ = []

-- ---- those of a place and of all below it, in scan order

abbrev mutual
  pub edges_at : ℕ → Value → List (List HeldNumbers)
  edges_at n (object ms) = held_by_keywords (suc n) ms ∷ edges_of_keywords (suc n) ms
  edges_at n _ = [] ∷ []

  pub edges_of_keywords : ℕ → Members → List (List HeldNumbers)
  edges_of_keywords n no_members = []
  edges_of_keywords n (member k v ms) =
      by_holding [] (holding k) (edges_at n v) (edges_in_list n v) (edges_in_object n v)
      ++ edges_of_keywords (n + count_of_keyword k v) ms

  pub edges_in_list : ℕ → Value → List (List HeldNumbers)
  edges_in_list n (list vs) = edges_of_items n vs
  edges_in_list n _ = []

  pub edges_of_items : ℕ → Items → List (List HeldNumbers)
  edges_of_items n no_items = []
  edges_of_items n (item v vs) = edges_at n v ++ edges_of_items (n + count v) vs

  pub edges_in_object : ℕ → Value → List (List HeldNumbers)
  edges_in_object n (object ms) = edges_of_members n ms
  edges_in_object n _ = []

  pub edges_of_members : ℕ → Members → List (List HeldNumbers)
  edges_of_members n no_members = []
  edges_of_members n (member name v ms) = edges_at n v ++ edges_of_members (n + count v) ms

abbrev pub edges_held : Holding → ℕ → Value → List (List HeldNumbers)
edges_held h n v = by_holding [] h (edges_at n v) (edges_in_list n v) (edges_in_object n v)

-- of the documents, whose first place has the number n
abbrev pub edges_from : ℕ → Documents → List (List HeldNumbers)
edges_from n [] = []
edges_from n (d ∷ ds) = edges_at n d.root ++ edges_from (n + count d.root) ds

-- ---- what the code has

abbrev pub held_of : HeldPlaces → HeldNumbers
held_of h = (h.keyword, h.places.items)

abbrev pub edges_of : Edges → List HeldNumbers
edges_of e = map held_of e.keywords.items
