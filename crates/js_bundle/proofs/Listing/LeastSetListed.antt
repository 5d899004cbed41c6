-- The list of places has exactly the places of the least set.
use Rattle.std.proofs.Common.{◌≡◌, ℕ, zero, suc, ◌+◌, ◌<◌, List, [], ◌∷◌, ◌++◌, ◌⊎◌, inl, inr, length, decimal, Some}
use Rattle.std.proofs.Common.{slice_get, slice_index_or, refl, sym, ap, ◌∙◌, subst, append_assoc, arith}
use Rattle.std.specs.List.{AllByRecursion, IsAmong}
use Rattle.url.specs.Parts.{Parts}
use Rattle.js_doc.specs.Pointer.{Tokens}
use Rattle.js_doc.specs.Value.{Value, null, truth, whole, text, list, object, Items}
use Rattle.js_doc.specs.Value.{no_items, item, Members, no_members, member}
use Rattle.js_doc.specs.Parts.{member_list, members_of}
use Rattle.js_keyword.specs.declared.argument_form.Holding.{Holding}
use Rattle.js_keyword.specs.declared.argument_form.Holding.TheVariants.{One, Listed, Named, Nothing}
use Rattle.js_bundle.specs.Keyword.{Text}
use Rattle.js_bundle.specs.Place.{holding, values, items_in, IsPlace, at_root, in_keyword, in_list, in_object}
use Rattle.js_bundle.specs.Place.{Located, SchemaPlace, places_held, places_at, places_of_keywords, places_in_list}
use Rattle.js_bundle.specs.Place.{places_of_items, places_in_object, places_of_members}
use Rattle.js_bundle.specs.PlaceLaws.{ListsPlace, IsListOf}

abbrev pub Among : {A : Type 0} → A → List A → Type 0
Among x [] = ⊥
Among x (y ∷ ys) = (x ≡ y) ⊎ Among x ys

pub among-is : {A : Type 0} (x : A) (xs : List A) → Among x xs → IsAmong xs x
among-is x [] h = absurd h
among-is x (y ∷ ys) (inl e) = (0, (omega arith, e))
among-is x (y ∷ ys) (inr h) = let r = among-is x ys h in (suc r.0, (omega (arith, r.1.0), r.1.1))

pub is-among : {A : Type 0} (x : A) (xs : List A) (i : ℕ) → i < length xs → x ≡ slice_index_or xs i x → Among x xs
is-among x [] i h e = absurd (omega arith)
is-among x (y ∷ ys) zero h e = inl e
is-among x (y ∷ ys) (suc i) h e = inr (is-among x ys i (omega (arith, h)) e)

pub all_append : {A : Type 0} (P : A → Type 0) (xs ys : List A) → AllByRecursion P xs → AllByRecursion P ys
    → AllByRecursion P (xs ++ ys)
all_append P [] ys h g = g
all_append P (x ∷ xs) ys h g = (h.0, all_append P xs ys h.1 g)

two_tokens : (p : Tokens) (k n : Text) → (p ++ k ∷ []) ++ n ∷ [] ≡ p ++ k ∷ n ∷ []
two_tokens p k n = append_assoc p (k ∷ []) (n ∷ [])

module _ (number : ℕ) (uri : Parts) (root : Value) where
  abbrev Is : SchemaPlace → Type 0
  Is t = IsPlace root t.spot.pointer t.spot.schema

  -- ---- what is listed is a place

  by_holding : (h : Holding) (a b c : List SchemaPlace) → (h ≡ One → AllByRecursion Is a)
      → (h ≡ Listed → AllByRecursion Is b) → (h ≡ Named → AllByRecursion Is c) → AllByRecursion Is (places_held h a b c)
  by_holding One a b c f g k = f refl
  by_holding Listed a b c f g k = g refl
  by_holding Named a b c f g k = k refl
  by_holding Nothing a b c f g k = tt

  mutual
    pub sound : (v : Value) (above : List Located) (p : Tokens) → IsPlace root p v
        → AllByRecursion Is (places_at number uri above p v)
    sound null above p h = (h, tt)
    sound (truth b) above p h = (h, tt)
    sound (whole z) above p h = (h, tt)
    sound (text s) above p h = (h, tt)
    sound (list vs) above p h = (h, tt)
    sound (object ms) above p h =
        (h, sound_keywords ms (above ++ record { pointer = p; schema = object ms } ∷ []) p (object ms) h (λ m a. a))

    sound_keywords : (ms : Members) (above : List Located) (p : Tokens) (v : Value) → IsPlace root p v
        → ((m : Text × Value) → Among m (member_list ms) → Among m (members_of v))
        → AllByRecursion Is (places_of_keywords number uri above p ms)
    sound_keywords no_members above p v h f = tt
    sound_keywords (member k u ms) above p v h f =
        let q = p ++ k ∷ [] in
        let here = among-is (k, u) (members_of v) (f (k, u) (inl refl)) in
        all_append Is (places_held (holding k) (places_at number uri above q u) (places_in_list number uri above q u)
        (places_in_object number uri above q u)) (places_of_keywords number uri above p ms)
        (by_holding (holding k) (places_at number uri above q u) (places_in_list number uri above q u)
        (places_in_object number uri above q u)
        (λ e. sound u above q (in_keyword p v k u q h e here refl))
        (λ e. sound_list u above p v k u h e here (λ i x g. g))
        (λ e. sound_object u above p v k u h e here (λ m a. a)))
        (sound_keywords ms above p v h (λ m a. f m (inr a)))

    sound_list : (l : Value) (above : List Located) (p : Tokens) (v : Value) (k : Text) (l' : Value) → IsPlace root p v
        → holding k ≡ Listed → IsAmong (members_of v) (k, l')
        → ((i : ℕ) (x : Value) → slice_get (items_in l) i ≡ Some x → slice_get (items_in l') i ≡ Some x)
        → AllByRecursion Is (places_in_list number uri above (p ++ k ∷ []) l)
    sound_list (list vs) above p v k l' h e a f =
        sound_items vs 0 above p v k l' h e a (λ i x q. let g : slice_get (items_in l') i ≡ Some x = f i x q in
        subst (λ j. slice_get (items_in l') j ≡ Some x) (omega arith) g)
    sound_list _ above p v k l' h e a f = tt

    sound_items : (vs : Items) (n : ℕ) (above : List Located) (p : Tokens) (v : Value) (k : Text) (l' : Value)
        → IsPlace root p v → holding k ≡ Listed → IsAmong (members_of v) (k, l')
        → ((i : ℕ) (x : Value) → slice_get (values vs) i ≡ Some x → slice_get (items_in l') (n + i) ≡ Some x)
        → AllByRecursion Is (places_of_items number uri above (p ++ k ∷ []) n vs)
    sound_items no_items n above p v k l' h e a f = tt
    sound_items (item x vs) n above p v k l' h e a f =
        let q = (p ++ k ∷ []) ++ decimal n ∷ [] in
        all_append Is (places_at number uri above q x) (places_of_items number uri above (p ++ k ∷ []) (suc n) vs)
        (sound x above q (in_list p v k l' n x q h e a
        (subst (λ j. slice_get (items_in l') j ≡ Some x) (omega arith) (f 0 x refl)) (two_tokens p k (decimal n))))
        (sound_items vs (suc n) above p v k l' h e a
        (λ i y g. subst (λ j. slice_get (items_in l') j ≡ Some y) (omega arith) (f (suc i) y g)))

    sound_object : (l : Value) (above : List Located) (p : Tokens) (v : Value) (k : Text) (l' : Value)
        → IsPlace root p v → holding k ≡ Named → IsAmong (members_of v) (k, l')
        → ((m : Text × Value) → Among m (members_of l) → Among m (members_of l'))
        → AllByRecursion Is (places_in_object number uri above (p ++ k ∷ []) l)
    sound_object (object ms) above p v k l' h e a f = sound_members ms above p v k l' h e a f
    sound_object _ above p v k l' h e a f = tt

    sound_members : (ms : Members) (above : List Located) (p : Tokens) (v : Value) (k : Text) (l' : Value)
        → IsPlace root p v → holding k ≡ Named → IsAmong (members_of v) (k, l')
        → ((m : Text × Value) → Among m (member_list ms) → Among m (members_of l'))
        → AllByRecursion Is (places_of_members number uri above (p ++ k ∷ []) ms)
    sound_members no_members above p v k l' h e a f = tt
    sound_members (member n u ms) above p v k l' h e a f =
        let q = (p ++ k ∷ []) ++ n ∷ [] in
        all_append Is (places_at number uri above q u) (places_of_members number uri above (p ++ k ∷ []) ms)
        (sound u above q (in_object p v k l' n u q h e a
        (among-is (n, u) (members_of l') (f (n, u) (inl refl))) (two_tokens p k n)))
        (sound_members ms above p v k l' h e a (λ m x. f m (inr x)))

-- ---- what a place holds is listed with it

lists_left : (q : Tokens) (w : Value) (xs ys : List SchemaPlace) → ListsPlace q w xs → ListsPlace q w (xs ++ ys)
lists_left q w [] ys h = absurd h
lists_left q w (x ∷ xs) ys (inl e) = inl e
lists_left q w (x ∷ xs) ys (inr h) = inr (lists_left q w xs ys h)

lists_right : (q : Tokens) (w : Value) (xs ys : List SchemaPlace) → ListsPlace q w ys → ListsPlace q w (xs ++ ys)
lists_right q w [] ys h = h
lists_right q w (x ∷ xs) ys h = inr (lists_right q w xs ys h)

abbrev pub Within : List SchemaPlace → List SchemaPlace → Type 0
Within xs all = (q : Tokens) (w : Value) → ListsPlace q w xs → ListsPlace q w all

-- the list has what each keyword of the schema at p holds
pub record HasBelow (all : List SchemaPlace) (p : Tokens) (v : Value) : Type 0 where
  pub one : (k : Text) (u : Value) → holding k ≡ One → Among (k, u) (members_of v) → ListsPlace (p ++ k ∷ []) u all
  pub listed : (k : Text) (l : Value) (i : ℕ) (u : Value) → holding k ≡ Listed → Among (k, l) (members_of v)
      → slice_get (items_in l) i ≡ Some u → ListsPlace (p ++ k ∷ decimal i ∷ []) u all
  pub named : (k : Text) (l : Value) (n : Text) (u : Value) → holding k ≡ Named → Among (k, l) (members_of v)
      → Among (n, u) (members_of l) → ListsPlace (p ++ k ∷ n ∷ []) u all

module _ (number : ℕ) (uri : Parts) where
  first_at : (v : Value) (above : List Located) (p : Tokens) → ListsPlace p v (places_at number uri above p v)
  first_at null above p = inl (refl, refl)
  first_at (truth b) above p = inl (refl, refl)
  first_at (whole z) above p = inl (refl, refl)
  first_at (text s) above p = inl (refl, refl)
  first_at (list vs) above p = inl (refl, refl)
  first_at (object ms) above p = inl (refl, refl)

  item_at : (vs : Items) (n i : ℕ) (above : List Located) (p : Tokens) (u : Value) → slice_get (values vs) i ≡ Some u
      → ListsPlace (p ++ decimal (n + i) ∷ []) u (places_of_items number uri above p n vs)
  item_at no_items n zero above p u e = absurd (cc)
  item_at no_items n (suc i) above p u e = absurd (cc)
  item_at (item v vs) n zero above p u e =
      let same : v ≡ u = cc in
      let at : n ≡ n + 0 = omega arith in
      lists_left _ _ (places_at number uri above (p ++ decimal n ∷ []) v)
      (places_of_items number uri above p (suc n) vs)
      (subst (λ m. ListsPlace (p ++ decimal m ∷ []) u (places_at number uri above (p ++ decimal n ∷ []) v)) at
      (subst (λ w. ListsPlace (p ++ decimal n ∷ []) w (places_at number uri above (p ++ decimal n ∷ []) v)) same
      (first_at v above (p ++ decimal n ∷ []))))
  item_at (item v vs) n (suc i) above p u e =
      let at : suc n + i ≡ n + suc i = omega arith in
      lists_right _ _ (places_at number uri above (p ++ decimal n ∷ []) v)
      (places_of_items number uri above p (suc n) vs)
      (subst (λ m. ListsPlace (p ++ decimal m ∷ []) u (places_of_items number uri above p (suc n) vs)) at
      (item_at vs (suc n) i above p u e))

  in_list_at : (l : Value) (i : ℕ) (above : List Located) (p : Tokens) (u : Value) → slice_get (items_in l) i ≡ Some u
      → ListsPlace (p ++ decimal i ∷ []) u (places_in_list number uri above p l)
  in_list_at (list vs) i above p u e = let at : 0 + i ≡ i = omega arith in subst (λ m.
      ListsPlace (p ++ decimal m ∷ []) u (places_of_items number uri above p 0 vs)) at (item_at vs 0 i above p u e)
  in_list_at null zero above p u e = absurd (cc)
  in_list_at null (suc i) above p u e = absurd (cc)
  in_list_at (truth b) zero above p u e = absurd (cc)
  in_list_at (truth b) (suc i) above p u e = absurd (cc)
  in_list_at (whole z) zero above p u e = absurd (cc)
  in_list_at (whole z) (suc i) above p u e = absurd (cc)
  in_list_at (text s) zero above p u e = absurd (cc)
  in_list_at (text s) (suc i) above p u e = absurd (cc)
  in_list_at (object ms) zero above p u e = absurd (cc)
  in_list_at (object ms) (suc i) above p u e = absurd (cc)

  member_at : (ms : Members) (n : Text) (above : List Located) (p : Tokens) (u : Value) → Among (n, u) (member_list ms)
      → ListsPlace (p ++ n ∷ []) u (places_of_members number uri above p ms)
  member_at no_members n above p u h = absurd h
  member_at (member l w ms) n above p u (inl e) =
      let key : l ≡ n = ap (λ m. m.0) (sym e) in
      let same : w ≡ u = ap (λ m. m.1) (sym e) in
      lists_left _ _ (places_at number uri above (p ++ l ∷ []) w) (places_of_members number uri above p ms)
      (subst (λ x. ListsPlace (p ++ x ∷ []) u (places_at number uri above (p ++ l ∷ []) w)) key (subst (λ x. ListsPlace
      (p ++ l ∷ []) x (places_at number uri above (p ++ l ∷ []) w)) same (first_at w above (p ++ l ∷ []))))
  member_at (member l w ms) n above p u (inr h) = lists_right _ _ (places_at number uri above (p ++ l ∷ []) w)
      (places_of_members number uri above p ms) (member_at ms n above p u h)

  in_object_at : (l : Value) (n : Text) (above : List Located) (p : Tokens) (u : Value) → Among (n, u) (members_of l)
      → ListsPlace (p ++ n ∷ []) u (places_in_object number uri above p l)
  in_object_at (object ms) n above p u h = member_at ms n above p u h
  in_object_at null n above p u h = absurd h
  in_object_at (truth b) n above p u h = absurd h
  in_object_at (whole z) n above p u h = absurd h
  in_object_at (text s) n above p u h = absurd h
  in_object_at (list vs) n above p u h = absurd h

  chosen_lists : (h : Holding) (a b c xs : List SchemaPlace) (q : Tokens) (w : Value) → places_held h a b c ≡ xs
      → ListsPlace q w xs → ListsPlace q w (places_held h a b c)
  chosen_lists h a b c xs q w e l = subst (λ ys. ListsPlace q w ys) (sym e) l

  -- what is listed of a keyword
  keyword_at : (ms : Members) (k : Text) (l : Value) (above : List Located) (p q : Tokens) (u : Value)
      → Among (k, l) (member_list ms)
      → ((at : Tokens) → at ≡ p ++ k ∷ [] → ListsPlace q u (places_held (holding k) (places_at number uri above at l)
      (places_in_list number uri above at l) (places_in_object number uri above at l)))
      → ListsPlace q u (places_of_keywords number uri above p ms)
  keyword_at no_members k l above p q u h f = absurd h
  keyword_at (member k' l' ms) k l above p q u (inl e) f =
      let piece = λ (m : Text × Value). places_held (holding m.0) (places_at number uri above (p ++ m.0 ∷ []) m.1)
      (places_in_list number uri above (p ++ m.0 ∷ []) m.1)
      (places_in_object number uri above (p ++ m.0 ∷ []) m.1) in
      lists_left q u (piece (k', l')) (places_of_keywords number uri above p ms)
      (subst (λ m. ListsPlace q u (piece m)) e (f (p ++ k ∷ []) refl))
  keyword_at (member k' l' ms) k l above p q u (inr h) f =
      lists_right q u (places_held (holding k') (places_at number uri above (p ++ k' ∷ []) l')
      (places_in_list number uri above (p ++ k' ∷ []) l') (places_in_object number uri above (p ++ k' ∷ []) l'))
      (places_of_keywords number uri above p ms)
      (keyword_at ms k l above p q u h f)

  has_below : (ms : Members) (above : List Located) (p : Tokens) (all : List SchemaPlace)
      → Within (places_of_keywords number uri above p ms) all → HasBelow all p (object ms)
  has_below ms above p all w =
      record {
        one = λ k u e a. w (p ++ k ∷ []) u (keyword_at ms k u above p (p ++ k ∷ []) u a
            (λ at is. subst (λ h. ListsPlace (p ++ k ∷ []) u (places_held h (places_at number uri above at u)
            (places_in_list number uri above at u) (places_in_object number uri above at u))) (sym e)
            (subst (λ r. ListsPlace r u (places_at number uri above at u)) is (first_at u above at))));
        listed = λ k l i u e a g. w (p ++ k ∷ decimal i ∷ []) u (keyword_at ms k l above p (p ++ k ∷ decimal i ∷ []) u a
            (λ at is. subst (λ h. ListsPlace (p ++ k ∷ decimal i ∷ []) u (places_held h (places_at number uri above at
            l) (places_in_list number uri above at l) (places_in_object number uri above at l))) (sym e)
            (subst (λ r. ListsPlace r u (places_in_list number uri above at l))
            (ap (λ b. b ++ decimal i ∷ []) is ∙ two_tokens p k (decimal i)) (in_list_at l i above at u g))));
        named = λ k l n u e a b. w (p ++ k ∷ n ∷ []) u (keyword_at ms k l above p (p ++ k ∷ n ∷ []) u a
            (λ at is. subst (λ h. ListsPlace (p ++ k ∷ n ∷ []) u (places_held h (places_at number uri above at l)
            (places_in_list number uri above at l) (places_in_object number uri above at l))) (sym e)
            (subst (λ r. ListsPlace r u (places_in_object number uri above at l))
            (ap (λ c. c ++ n ∷ []) is ∙ two_tokens p k n) (in_object_at l n above at u b))));
      }

  nothing_below : (v : Value) (p : Tokens) (all : List SchemaPlace) → members_of v ≡ [] → HasBelow all p v
  nothing_below v p all e =
      record {
        one = λ k u h a. absurd (subst (λ ms. Among (k, u) ms) e a);
        listed = λ k l i u h a g. absurd (subst (λ ms. Among (k, l) ms) e a);
        named = λ k l n u h a b. absurd (subst (λ ms. Among (k, l) ms) e a);
      }

  module _ (all : List SchemaPlace) where
    abbrev Has : SchemaPlace → Type 0
    Has t = HasBelow all t.spot.pointer t.spot.schema

    closed_by : (h : Holding) (a b c : List SchemaPlace) → Within (places_held h a b c) all
        → (Within a all → AllByRecursion Has a) → (Within b all → AllByRecursion Has b)
        → (Within c all → AllByRecursion Has c) → AllByRecursion Has (places_held h a b c)
    closed_by One a b c w f g k = f w
    closed_by Listed a b c w f g k = g w
    closed_by Named a b c w f g k = k w
    closed_by Nothing a b c w f g k = tt

    mutual
      pub closed : (v : Value) (above : List Located) (p : Tokens) → Within (places_at number uri above p v) all
          → AllByRecursion Has (places_at number uri above p v)
      closed null above p w = (nothing_below null p all refl, tt)
      closed (truth b) above p w = (nothing_below (truth b) p all refl, tt)
      closed (whole z) above p w = (nothing_below (whole z) p all refl, tt)
      closed (text s) above p w = (nothing_below (text s) p all refl, tt)
      closed (list vs) above p w = (nothing_below (list vs) p all refl, tt)
      closed (object ms) above p w =
          let below = above ++ record { pointer = p; schema = object ms } ∷ [] in
          (has_below ms below p all (λ q u h. w q u (inr h)), closed_keywords ms below p (λ q u h. w q u (inr h)))

      closed_keywords : (ms : Members) (above : List Located) (p : Tokens) → Within
          (places_of_keywords number uri above p ms) all → AllByRecursion Has (places_of_keywords number uri above p ms)
      closed_keywords no_members above p w = tt
      closed_keywords (member k v ms) above p w =
          let q = p ++ k ∷ [] in
          let held = places_held (holding k) (places_at number uri above q v) (places_in_list number uri above q v)
          (places_in_object number uri above q v) in
          let rest = places_of_keywords number uri above p ms in
          all_append Has held rest
          (closed_by (holding k) (places_at number uri above q v) (places_in_list number uri above q v)
          (places_in_object number uri above q v) (λ r u h. w r u (lists_left r u held rest h)) (closed v above q)
          (closed_list v above q) (closed_object v above q))
          (closed_keywords ms above p (λ r u h. w r u (lists_right r u held rest h)))

      closed_list : (v : Value) (above : List Located) (p : Tokens) → Within (places_in_list number uri above p v) all
          → AllByRecursion Has (places_in_list number uri above p v)
      closed_list (list vs) above p w = closed_items vs above p 0 w
      closed_list _ above p w = tt

      closed_items : (vs : Items) (above : List Located) (p : Tokens) (i : ℕ) → Within
          (places_of_items number uri above p i vs) all → AllByRecursion Has (places_of_items number uri above p i vs)
      closed_items no_items above p i w = tt
      closed_items (item v vs) above p i w =
          let xs = places_at number uri above (p ++ decimal i ∷ []) v in
          let ys = places_of_items number uri above p (suc i) vs in
          all_append Has xs ys (closed v above (p ++ decimal i ∷ []) (λ r u h. w r u (lists_left r u xs ys h)))
          (closed_items vs above p (suc i) (λ r u h. w r u (lists_right r u xs ys h)))

      closed_object : (v : Value) (above : List Located) (p : Tokens) → Within (places_in_object number uri above p v)
          all → AllByRecursion Has (places_in_object number uri above p v)
      closed_object (object ms) above p w = closed_members ms above p w
      closed_object _ above p w = tt

      closed_members : (ms : Members) (above : List Located) (p : Tokens) → Within
          (places_of_members number uri above p ms) all → AllByRecursion Has (places_of_members number uri above p ms)
      closed_members no_members above p w = tt
      closed_members (member n v ms) above p w =
          let xs = places_at number uri above (p ++ n ∷ []) v in
          let ys = places_of_members number uri above p ms in
          all_append Has xs ys (closed v above (p ++ n ∷ []) (λ r u h. w r u (lists_left r u xs ys h)))
          (closed_members ms above p (λ r u h. w r u (lists_right r u xs ys h)))

  has_at : (all xs : List SchemaPlace) (p : Tokens) (v : Value)
      → AllByRecursion (λ t. HasBelow all t.spot.pointer t.spot.schema) xs → ListsPlace p v xs → HasBelow all p v
  has_at all [] p v c h = absurd h
  has_at all (t ∷ xs) p v c (inl e) =
      subst (λ q. HasBelow all q v) e.0 (subst (λ w. HasBelow all t.spot.pointer w) e.1 c.0)
  has_at all (t ∷ xs) p v c (inr h) = has_at all xs p v c.1 h

  module _ (root : Value) where
    abbrev listed_of : List SchemaPlace
    listed_of = places_at number uri [] [] root

    has_in : (p : Tokens) (v : Value) → ListsPlace p v listed_of → HasBelow listed_of p v
    has_in p v h = has_at listed_of listed_of p v (closed listed_of root [] [] (λ q u g. g)) h

    pub complete : (p : Tokens) (v : Value) → IsPlace root p v → ListsPlace p v listed_of
    complete p v at_root = first_at root [] []
    complete p v (in_keyword p' v' k u q h e a is) = subst (λ r. ListsPlace r u listed_of) (sym is)
        ((has_in p' v' (complete p' v' h)).one k u e (is-among (k, u) (members_of v') a.0 a.1.0 a.1.1))
    complete p v (in_list p' v' k l i u q h e a g is) =
        subst (λ r. ListsPlace r u listed_of) (sym is)
        ((has_in p' v' (complete p' v' h)).listed k l i u e (is-among (k, l) (members_of v') a.0 a.1.0 a.1.1) g)
    complete p v (in_object p' v' k l n u q h e a b is) =
        subst (λ r. ListsPlace r u listed_of) (sym is) ((has_in p' v' (complete p' v' h)).named k l n u e
        (is-among (k, l) (members_of v') a.0 a.1.0 a.1.1) (is-among (n, u) (members_of l) b.0 b.1.0 b.1.1))

pub listing : (number : ℕ) (uri : Parts) (root : Value) → IsListOf root (places_at number uri [] [] root)
listing number uri root =
    record { sound = sound number uri root root [] [] at_root; complete = complete number uri root }
