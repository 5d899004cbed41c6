-- How many places a schema is, and where in the list of all each place stands with those below it.
use Rattle.std.proofs.Common.{◌≡◌, ℕ, zero, suc, ◌+◌, List, [], ◌∷◌, ◌++◌, length, drop, decimal, Some, slice_get}
use Rattle.std.proofs.Common.{refl, sym, ap, ap₂, ◌∙◌, subst, append_assoc, length-append, arith}
use Rattle.std.proofs.lemmas.List.{append-nil}
use Rattle.url.specs.Parts.{Parts}
use Rattle.js_doc.specs.Pointer.{Tokens}
use Rattle.js_doc.specs.Value.{Value, null, truth, whole, text, list, object, Items}
use Rattle.js_doc.specs.Value.{no_items, item, Members, no_members, member}
use Rattle.js_keyword.specs.declared.argument_form.Holding.{Holding}
use Rattle.js_keyword.specs.declared.argument_form.Holding.TheVariants.{One, Listed, Named, Nothing}
use Rattle.js_bundle.specs.Document.{Documents}
use Rattle.js_bundle.specs.Place.{holding, Located, SchemaPlace, places_held, places_at, places_of_keywords}
use Rattle.js_bundle.specs.Place.{places_in_list, places_of_items, places_in_object, places_of_members, places_from}
use Rattle.js_bundle.specs.code.Edges.{HeldNumbers, by_holding, count, count_of_keywords, count_in_list}
use Rattle.js_bundle.specs.code.Edges.{count_of_items, count_in_object, count_of_members, count_of_keyword}
use Rattle.js_bundle.specs.code.Edges.{held_by_place, edges_at, edges_of_keywords, edges_in_list, edges_of_items}
use Rattle.js_bundle.specs.code.Edges.{edges_in_object, edges_of_members, edges_held, edges_from}

-- ---- a list that stands in another one from a number on

pub record StandsFrom {A : Type 0} (xs : List A) (n : ℕ) (all : List A) : Type 0 where
  pub after : List A
  pub is : drop n all ≡ xs ++ after

get_drop : {A : Type 0} (n : ℕ) (all : List A) (x : A) (rest : List A) → drop n all ≡ x ∷ rest
    → slice_get all n ≡ Some x
get_drop zero [] x rest e = absurd (cc)
get_drop zero (y ∷ all) x rest e = cc
get_drop (suc n) [] x rest e = absurd (cc)
get_drop (suc n) (y ∷ all) x rest e = get_drop n all x rest e

drop_none : {A : Type 0} (n : ℕ) → drop {A = A} n [] ≡ []
drop_none zero = refl
drop_none (suc n) = refl

drop_further : {A : Type 0} (n m : ℕ) (all : List A) → drop (n + m) all ≡ drop m (drop n all)
drop_further zero m all =
    let same : zero + m ≡ m = omega arith in
    ap (λ k. drop k all) same
drop_further (suc n) m [] = drop_none (suc n + m) ∙ sym (drop_none m)
drop_further (suc n) m (x ∷ all) =
    let same : suc n + m ≡ suc (n + m) = omega arith in
    ap (λ k. drop k (x ∷ all)) same ∙ drop_further n m all

drop_past : {A : Type 0} (xs ys : List A) → drop (length xs) (xs ++ ys) ≡ ys
drop_past [] ys = refl
drop_past (x ∷ xs) ys = drop_past xs ys

pub first_there : {A : Type 0} (x : A) (xs : List A) (n : ℕ) (all : List A) → StandsFrom (x ∷ xs) n all
    → slice_get all n ≡ Some x
first_there x xs n all h = get_drop n all x (xs ++ h.after) h.is

pub front_there : {A : Type 0} (xs ys : List A) (n : ℕ) (all : List A)
    → StandsFrom (xs ++ ys) n all → StandsFrom xs n all
front_there xs ys n all h = record { after = ys ++ h.after; is = h.is ∙ append_assoc xs ys h.after }

pub back_there : {A : Type 0} (xs ys : List A) (n c : ℕ) (all : List A) → length xs ≡ c → StandsFrom (xs ++ ys) n all
    → StandsFrom ys (n + c) all
back_there xs ys n c all many h = record {
  after = h.after;
  is = ap (λ m. drop (n + m) all) (sym many) ∙ drop_further n (length xs) all
      ∙ ap (drop (length xs)) (h.is ∙ append_assoc xs ys h.after) ∙ drop_past xs (ys ++ h.after);
}

pub rest_there : {A : Type 0} (x : A) (xs : List A) (n : ℕ) (all : List A) → StandsFrom (x ∷ xs) n all
    → StandsFrom xs (suc n) all
rest_there x xs n all h =
    let next : n + 1 ≡ suc n = omega arith in
    subst (λ m. StandsFrom xs m all) next (back_there (x ∷ []) xs n 1 all refl h)

-- ---- of each of a list, by its number

abbrev pub AllFrom : {A : Type 0} (P : ℕ → A → Type 0) → ℕ → List A → Type 0
AllFrom P n [] = Unit {0}
AllFrom P n (x ∷ xs) = P n x × AllFrom P (suc n) xs

pub all_from_append : {A : Type 0} (P : ℕ → A → Type 0) (n c : ℕ) (xs ys : List A) → length xs ≡ c → AllFrom P n xs
    → AllFrom P (n + c) ys → AllFrom P n (xs ++ ys)
all_from_append P n c [] ys many h g =
    let here : n + c ≡ n = omega (arith, many) in
    subst (λ m. AllFrom P m ys) here g
all_from_append P n zero (x ∷ xs) ys many h g = absurd (omega (arith, many))
all_from_append P n (suc c) (x ∷ xs) ys many h g =
    let next : n + suc c ≡ suc n + c = omega arith in
    (h.0, all_from_append P (suc n) c xs ys (omega (arith, many)) h.1 (subst (λ m. AllFrom P m ys) next g))

pub from_at : {A : Type 0} (P : ℕ → A → Type 0) (n m i : ℕ) (xs : List A) (x : A) → m ≡ n + i → AllFrom P n xs
    → slice_get xs i ≡ Some x → P m x
from_at P n m i [] x is h e = absurd (cc)
from_at P n m zero (y ∷ xs) x is h e =
    let same : y ≡ x = cc in
    let number : n ≡ m = omega (arith, is) in
    subst (λ k. P k x) number (subst (P n) same h.0)
from_at P n m (suc i) (y ∷ xs) x is h e = from_at P (suc n) m i xs x (omega (arith, is)) h.1 e

-- ---- how many

module _ (number : ℕ) (uri : Parts) where
  chosen_count : (h : Holding) (a b c : List SchemaPlace) (x y z : ℕ) → length a ≡ x → length b ≡ y → length c ≡ z
      → length (places_held h a b c) ≡ by_holding 0 h x y z
  chosen_count One a b c x y z e f g = e
  chosen_count Listed a b c x y z e f g = f
  chosen_count Named a b c x y z e f g = g
  chosen_count Nothing a b c x y z e f g = refl

  mutual
    pub place_count : (v : Value) (above : List Located) (p : Tokens)
        → length (places_at number uri above p v) ≡ count v
    place_count (object ms) above p =
        ap suc (keywords_count ms (above ++ record { pointer = p; schema = object ms } ∷ []) p)
    place_count _ above p = refl

    keywords_count : (ms : Members) (above : List Located) (p : Tokens)
        → length (places_of_keywords number uri above p ms) ≡ count_of_keywords ms
    keywords_count no_members above p = refl
    keywords_count (member k v ms) above p =
        length-append (places_held (holding k) (places_at number uri above (p ++ k ∷ []) v)
        (places_in_list number uri above (p ++ k ∷ []) v) (places_in_object number uri above (p ++ k ∷ []) v))
        (places_of_keywords number uri above p ms)
        ∙ ap₂ (λ x y. x + y) (chosen_count (holding k) _ _ _ _ _ _ (place_count v above (p ++ k ∷ []))
        (list_count v above (p ++ k ∷ [])) (object_count v above (p ++ k ∷ []))) (keywords_count ms above p)

    list_count : (v : Value) (above : List Located) (p : Tokens)
        → length (places_in_list number uri above p v) ≡ count_in_list v
    list_count (list vs) above p = items_count vs above p 0
    list_count _ above p = refl

    items_count : (vs : Items) (above : List Located) (p : Tokens) (i : ℕ)
        → length (places_of_items number uri above p i vs) ≡ count_of_items vs
    items_count no_items above p i = refl
    items_count (item v vs) above p i =
        length-append (places_at number uri above (p ++ decimal i ∷ []) v)
        (places_of_items number uri above p (suc i) vs)
        ∙ ap₂ (λ x y. x + y) (place_count v above (p ++ decimal i ∷ [])) (items_count vs above p (suc i))

    object_count : (v : Value) (above : List Located) (p : Tokens)
        → length (places_in_object number uri above p v) ≡ count_in_object v
    object_count (object ms) above p = members_count ms above p
    object_count _ above p = refl

    members_count : (ms : Members) (above : List Located) (p : Tokens)
        → length (places_of_members number uri above p ms) ≡ count_of_members ms
    members_count no_members above p = refl
    members_count (member n v ms) above p =
        length-append (places_at number uri above (p ++ n ∷ []) v) (places_of_members number uri above p ms)
        ∙ ap₂ (λ x y. x + y) (place_count v above (p ++ n ∷ [])) (members_count ms above p)

  pub keyword_count : (h : Holding) (v : Value) (above : List Located) (q : Tokens)
      → length (places_held h (places_at number uri above q v) (places_in_list number uri above q v)
      (places_in_object number uri above q v)) ≡ by_holding 0 h (count v) (count_in_list v) (count_in_object v)
  keyword_count h v above q =
      chosen_count h _ _ _ _ _ _ (place_count v above q) (list_count v above q) (object_count v above q)

-- as many lists of what is held

edges_chosen : (h : Holding) (a b c : List (List HeldNumbers)) (x y z : ℕ) → length a ≡ x → length b ≡ y → length c ≡ z
    → length (by_holding [] h a b c) ≡ by_holding 0 h x y z
edges_chosen One a b c x y z e f g = e
edges_chosen Listed a b c x y z e f g = f
edges_chosen Named a b c x y z e f g = g
edges_chosen Nothing a b c x y z e f g = refl

mutual
  pub edge_count : (n : ℕ) (v : Value) → length (edges_at n v) ≡ count v
  edge_count n null = refl
  edge_count n (truth b) = refl
  edge_count n (whole z) = refl
  edge_count n (text s) = refl
  edge_count n (list vs) = refl
  edge_count n (object ms) = ap suc (keywords_edges (suc n) ms)

  keywords_edges : (n : ℕ) (ms : Members) → length (edges_of_keywords n ms) ≡ count_of_keywords ms
  keywords_edges n no_members = refl
  keywords_edges n (member k v ms) =
      length-append (edges_held (holding k) n v) (edges_of_keywords (n + count_of_keyword k v) ms)
      ∙ ap₂ (λ x y. x + y) (edges_chosen (holding k) _ _ _ _ _ _ (edge_count n v) (list_edges n v) (object_edges n v))
      (keywords_edges (n + count_of_keyword k v) ms)

  list_edges : (n : ℕ) (v : Value) → length (edges_in_list n v) ≡ count_in_list v
  list_edges n (list vs) = items_edges n vs
  list_edges n _ = refl

  items_edges : (n : ℕ) (vs : Items) → length (edges_of_items n vs) ≡ count_of_items vs
  items_edges n no_items = refl
  items_edges n (item v vs) = length-append (edges_at n v) (edges_of_items (n + count v) vs)
      ∙ ap₂ (λ x y. x + y) (edge_count n v) (items_edges (n + count v) vs)

  object_edges : (n : ℕ) (v : Value) → length (edges_in_object n v) ≡ count_in_object v
  object_edges n (object ms) = members_edges n ms
  object_edges n _ = refl

  members_edges : (n : ℕ) (ms : Members) → length (edges_of_members n ms) ≡ count_of_members ms
  members_edges n no_members = refl
  members_edges n (member name v ms) = length-append (edges_at n v) (edges_of_members (n + count v) ms)
      ∙ ap₂ (λ x y. x + y) (edge_count n v) (members_edges (n + count v) ms)

pub keyword_edges : (h : Holding) (n : ℕ) (v : Value)
    → length (edges_held h n v) ≡ by_holding 0 h (count v) (count_in_list v) (count_in_object v)
keyword_edges h n v = edges_chosen h _ _ _ _ _ _ (edge_count n v) (list_edges n v) (object_edges n v)

-- ---- where each place stands

-- the place with this number stands there with all that it holds, and so do the numbers of those
pub record IsRoot (all : List SchemaPlace) (edges : List (List HeldNumbers)) (n : ℕ) (t : SchemaPlace) : Type 0 where
  pub above : List Located
  pub places : StandsFrom (places_at t.document t.uri above t.spot.pointer t.spot.schema) n all
  pub held : slice_get edges n ≡ Some (held_by_place n t.spot.schema)

module _ (all : List SchemaPlace) (edges : List (List HeldNumbers)) where
  module _ (number : ℕ) (uri : Parts) where
    chosen_roots : (h : Holding) (n : ℕ) (a b c : List SchemaPlace) (x y z : List (List HeldNumbers))
        → (StandsFrom a n all → StandsFrom x n edges → AllFrom (IsRoot all edges) n a)
        → (StandsFrom b n all → StandsFrom y n edges → AllFrom (IsRoot all edges) n b)
        → (StandsFrom c n all → StandsFrom z n edges → AllFrom (IsRoot all edges) n c)
        → StandsFrom (places_held h a b c) n all → StandsFrom (by_holding [] h x y z) n edges
        → AllFrom (IsRoot all edges) n (places_held h a b c)
    chosen_roots One n a b c x y z f g k p e = f p e
    chosen_roots Listed n a b c x y z f g k p e = g p e
    chosen_roots Named n a b c x y z f g k p e = k p e
    chosen_roots Nothing n a b c x y z f g k p e = tt

    both_roots : (n c : ℕ) (xs ys : List SchemaPlace) (es fs : List (List HeldNumbers)) → length xs ≡ c → length es ≡ c
        → (StandsFrom xs n all → StandsFrom es n edges → AllFrom (IsRoot all edges) n xs)
        → (StandsFrom ys (n + c) all → StandsFrom fs (n + c) edges → AllFrom (IsRoot all edges) (n + c) ys)
        → StandsFrom (xs ++ ys) n all → StandsFrom (es ++ fs) n edges → AllFrom (IsRoot all edges) n (xs ++ ys)
    both_roots n c xs ys es fs many as_many f g p e =
        all_from_append (IsRoot all edges) n c xs ys many (f (front_there xs ys n all p) (front_there es fs n edges e))
        (g (back_there xs ys n c all many p) (back_there es fs n c edges as_many e))

    mutual
      pub roots_at : (v : Value) (above : List Located) (p : Tokens) (n : ℕ)
          → StandsFrom (places_at number uri above p v) n all → StandsFrom (edges_at n v) n edges
          → AllFrom (IsRoot all edges) n (places_at number uri above p v)
      roots_at null above p n s e = (record { above = above; places = s; held = first_there [] [] n edges e }, tt)
      roots_at (truth b) above p n s e = (record { above = above; places = s; held = first_there [] [] n edges e }, tt)
      roots_at (whole z) above p n s e = (record { above = above; places = s; held = first_there [] [] n edges e }, tt)
      roots_at (text t) above p n s e = (record { above = above; places = s; held = first_there [] [] n edges e }, tt)
      roots_at (list vs) above p n s e = (record { above = above; places = s; held = first_there [] [] n edges e }, tt)
      roots_at (object ms) above p n s e =
          let below = above ++ record { pointer = p; schema = object ms } ∷ [] in
          let rest = places_of_keywords number uri below p ms in (
            record {
              above = above;
              places = s;
              held = first_there (held_by_place n (object ms)) (edges_of_keywords (suc n) ms) n edges e;
            },
            roots_keywords ms below p (suc n) (rest_there _ rest n all s)
                (rest_there _ (edges_of_keywords (suc n) ms) n edges e),
          )

      roots_keywords : (ms : Members) (above : List Located) (p : Tokens) (n : ℕ)
          → StandsFrom (places_of_keywords number uri above p ms) n all → StandsFrom (edges_of_keywords n ms) n edges
          → AllFrom (IsRoot all edges) n (places_of_keywords number uri above p ms)
      roots_keywords no_members above p n s e = tt
      roots_keywords (member k v ms) above p n s e =
          let q = p ++ k ∷ [] in let c = count_of_keyword k v in
          both_roots n c (places_held (holding k) (places_at number uri above q v) (places_in_list number uri above q v)
          (places_in_object number uri above q v)) (places_of_keywords number uri above p ms)
          (edges_held (holding k) n v) (edges_of_keywords (n + c) ms) (keyword_count number uri (holding k) v above q)
          (keyword_edges (holding k) n v)
          (chosen_roots (holding k) n _ _ _ _ _ _ (roots_at v above q n) (roots_list v above q n)
          (roots_object v above q n))
          (roots_keywords ms above p (n + c)) s e

      roots_list : (v : Value) (above : List Located) (p : Tokens) (n : ℕ)
          → StandsFrom (places_in_list number uri above p v) n all → StandsFrom (edges_in_list n v) n edges
          → AllFrom (IsRoot all edges) n (places_in_list number uri above p v)
      roots_list (list vs) above p n s e = roots_items vs above p 0 n s e
      roots_list _ above p n s e = tt

      roots_items : (vs : Items) (above : List Located) (p : Tokens) (i n : ℕ)
          → StandsFrom (places_of_items number uri above p i vs) n all → StandsFrom (edges_of_items n vs) n edges
          → AllFrom (IsRoot all edges) n (places_of_items number uri above p i vs)
      roots_items no_items above p i n s e = tt
      roots_items (item v vs) above p i n s e =
          let q = p ++ decimal i ∷ [] in
          both_roots n (count v) (places_at number uri above q v) (places_of_items number uri above p (suc i) vs)
          (edges_at n v) (edges_of_items (n + count v) vs)
          (place_count number uri v above q) (edge_count n v) (roots_at v above q n)
          (roots_items vs above p (suc i) (n + count v)) s e

      roots_object : (v : Value) (above : List Located) (p : Tokens) (n : ℕ)
          → StandsFrom (places_in_object number uri above p v) n all → StandsFrom (edges_in_object n v) n edges
          → AllFrom (IsRoot all edges) n (places_in_object number uri above p v)
      roots_object (object ms) above p n s e = roots_members ms above p n s e
      roots_object _ above p n s e = tt

      roots_members : (ms : Members) (above : List Located) (p : Tokens) (n : ℕ)
          → StandsFrom (places_of_members number uri above p ms) n all → StandsFrom (edges_of_members n ms) n edges
          → AllFrom (IsRoot all edges) n (places_of_members number uri above p ms)
      roots_members no_members above p n s e = tt
      roots_members (member name v ms) above p n s e =
          let q = p ++ name ∷ [] in
          both_roots n (count v) (places_at number uri above q v) (places_of_members number uri above p ms)
          (edges_at n v) (edges_of_members (n + count v) ms)
          (place_count number uri v above q) (edge_count n v) (roots_at v above q n)
          (roots_members ms above p (n + count v)) s e

  pub roots_from : (number : ℕ) (ds : Documents) (n : ℕ) → StandsFrom (places_from number ds) n all
      → StandsFrom (edges_from n ds) n edges → AllFrom (IsRoot all edges) n (places_from number ds)
  roots_from number [] n s e = tt
  roots_from number (d ∷ ds) n s e =
      both_roots number d.uri n (count d.root) (places_at number d.uri [] [] d.root) (places_from (suc number) ds)
      (edges_at n d.root) (edges_from (n + count d.root) ds)
      (place_count number d.uri d.root [] []) (edge_count n d.root) (roots_at number d.uri d.root [] [] n)
      (roots_from (suc number) ds (n + count d.root)) s e

whole_list : {A : Type 0} (all : List A) → StandsFrom all 0 all
whole_list all = record { after = []; is = sym (append-nil all) }

-- each place of the documents stands so
pub root_of : (documents : Documents) (n : ℕ) (t : SchemaPlace) → slice_get (places_from 0 documents) n ≡ Some t
    → IsRoot (places_from 0 documents) (edges_from 0 documents) n t
root_of documents n t e =
    let all = places_from 0 documents in
    let edges = edges_from 0 documents in
    from_at (IsRoot all edges) 0 n n all t (omega arith)
    (roots_from all edges 0 documents 0 (whole_list all) (whole_list edges)) e
