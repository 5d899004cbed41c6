-- What the schema of a place holds has its number among those that are kept of the place.
use Rattle.std.proofs.Common.{◌≡◌, ℕ, zero, suc, ◌+◌, List, [], ◌∷◌, ◌++◌, inl, inr, Bool, true, false, ◌||◌}
use Rattle.std.proofs.Common.{if◌then◌else◌, filter, map, Option, None, unwrap_or}
use Rattle.std.proofs.Common.{decimal, Some, slice_get, refl, sym, ap, ◌∙◌, subst, arith}
use Rattle.std.specs.List.{list_all}
use Rattle.std.specs.Str.{bytes_eq}
use Rattle.std.proofs.lemmas.Bool.{and_parts}
use Rattle.url.specs.Parts.{Parts}
use Rattle.js_doc.specs.Members.{get}
use Rattle.js_doc.specs.Pointer.{Tokens}
use Rattle.js_doc.specs.Value.{Value, null, truth, whole, text, list, object, Items}
use Rattle.js_doc.specs.Value.{no_items, item, Members, no_members, member}
use Rattle.js_doc.specs.Parts.{member_list}
use Rattle.js_doc.proofs.TokenLookup.{is_text-refl, is_text-sound}
use Rattle.js_keyword.specs.contracts.keyword.KeywordPartialEq.TheImpl.{ghosts}
use Rattle.js_keyword.specs.declared.argument_form.Holding.{Holding}
use Rattle.js_keyword.specs.declared.argument_form.Holding.TheVariants.{One, Listed, Named, Nothing}
use Rattle.js_bundle.specs.Keyword.{Text}
use Rattle.js_keyword.specs.Keyword.{row_of, subschemas, keywords, among, which_keyword}
use Rattle.js_keyword.specs.declared.keyword.Keyword.{Keyword}
use Rattle.js_keyword.specs.declared.keyword.Keyword.TheVariants.{Other}
use Rattle.js_keyword.specs.declared.other_keyword.OtherKeyword.TheVariants.{Unknown}
use Rattle.js_bundle.specs.Place.{holding, values, Located}
use Rattle.js_bundle.specs.Place.{SchemaPlace, places_held, places_at, places_of_keywords, places_in_list}
use Rattle.js_bundle.specs.Place.{places_of_items, places_in_object, places_of_members}
use Rattle.js_bundle.specs.code.Edges.{HeldNumbers, count, count_of_keyword, one_entry, numbers_held}
use Rattle.js_bundle.specs.code.Edges.{numbers_of_items, numbers_of_members, held_by_keywords}
use Rattle.js_bundle.specs.code.PlaceBelow.{numbers_of_keyword}
use Rattle.js_bundle.proofs.Listing.PlacesCounted.{StandsFrom, first_there, front_there, back_there}
use Rattle.js_bundle.proofs.Listing.PlacesCounted.{place_count, keyword_count}
use Rattle.js_bundle.proofs.Listing.LeastSetListed.{Among}
use Rattle.js_bundle.proofs.Indexing.FirstFound.{get_first}
use Rattle.js_bundle.proofs.Finding.RankOfName.{some_first, some_is}

-- ---- the keywords that hold schemas are distinguished by which keyword of the standard they are

abbrev holds_some : Holding → Bool
holds_some Nothing = false
holds_some _ = true

abbrev holders : List Keyword → List Keyword
holders ks = filter (λ k. holds_some (subschemas k)) ks

abbrev names_of : List Keyword → List Text
names_of ks = map (λ k. (row_of k).name) ks

abbrev all_names : List Text
all_names = names_of (holders keywords)

abbrev same : Bool → Bool → Bool
same true b = b
same false true = false
same false false = true

same_is : (a b : Bool) → same a b ≡ true → a ≡ b
same_is true true e = refl
same_is true false e = absurd (cc)
same_is false true e = absurd (cc)
same_is false false e = refl

kept_apart : list_all (λ k.
    list_all (λ l. same (ghosts.eq (which_keyword k) (which_keyword l)) (bytes_eq k l)) all_names) all_names ≡ true
unfolding which_keyword
kept_apart = refl

of_all : {A : Type 0} (f : A → Bool) (xs : List A) (x : A) → list_all f xs ≡ true → Among x xs → f x ≡ true
of_all f [] x h a = absurd a
of_all f (y ∷ ys) x h (inl e) = ap f e ∙ (and_parts (f y) (list_all f ys) h).0
of_all f (y ∷ ys) x h (inr a) = of_all f ys x (and_parts (f y) (list_all f ys) h).1 a

holder_among : (ks : List Keyword) (name : Text) (k : Keyword) → among ks name ≡ Some k
    → holds_some (subschemas k) ≡ true → Among name (names_of (holders ks))
holder_among [] name k e h = absurd (cc)
holder_among (l ∷ ls) name k e h =
    at (bytes_eq name (row_of l).name) (holds_some (subschemas l)) refl refl e (holder_among ls name k)
  where
    at : (b c : Bool) → bytes_eq name (row_of l).name ≡ b → holds_some (subschemas l) ≡ c
        → (if b then Some l else among ls name) ≡ Some k
        → (among ls name ≡ Some k → holds_some (subschemas k) ≡ true → Among name (names_of (holders ls)))
        → Among name (names_of (if c then l ∷ holders ls else holders ls))
    at true true is some e later = inl (is_text-sound name (row_of l).name is)
    at true false is some e later =
        let same : l ≡ k = cc in
        let no : true ≡ false = sym h ∙ (ap (λ m. holds_some (subschemas m)) (sym same) ∙ some) in
        absurd (cc)
    at false true is some e later = inr (later e h)
    at false false is some e later = later e h

some_held : (h : Holding) → ¬ (h ≡ Nothing) → holds_some h ≡ true
some_held One n = refl
some_held Listed n = refl
some_held Named n = refl
some_held Nothing n = absurd (n refl)

holds_name : (name : Text) → ¬ (holding name ≡ Nothing) → Among name all_names
unfolding holding which_keyword
holds_name name n = at (among keywords name) refl n where
  at : (o : Option Keyword) → among keywords name ≡ o → ¬ (subschemas (unwrap_or o (Other Unknown)) ≡ Nothing)
      → Among name all_names
  at None e n = absurd (n refl)
  at (Some k) e n = holder_among keywords name k e (some_held (subschemas k) n)

pub names_apart : (k l : Text) → ¬ (holding k ≡ Nothing) → ¬ (holding l ≡ Nothing)
    → ghosts.eq (which_keyword k) (which_keyword l) ≡ bytes_eq k l
names_apart k l n m =
    let row = of_all
    (λ j. list_all (λ i. same (ghosts.eq (which_keyword j) (which_keyword i)) (bytes_eq j i)) all_names)
    all_names k kept_apart (holds_name k n) in
    same_is (ghosts.eq (which_keyword k) (which_keyword l)) (bytes_eq k l) (of_all
    (λ i. same (ghosts.eq (which_keyword k) (which_keyword i)) (bytes_eq k i)) all_names l row (holds_name l m))

-- ---- what a keyword has

entry_here : (k : Text) (ns : List ℕ) (rest : List HeldNumbers) (h : Holding) → ¬ (h ≡ Nothing)
    → ghosts.eq (which_keyword k) (which_keyword k) ≡ true
    → numbers_of_keyword (which_keyword k) (one_entry h (which_keyword k, ns) ++ rest) ≡ ns
entry_here k ns rest One n e = ap (λ b. if b then ns else numbers_of_keyword (which_keyword k) rest) e
entry_here k ns rest Listed n e = ap (λ b. if b then ns else numbers_of_keyword (which_keyword k) rest) e
entry_here k ns rest Named n e = ap (λ b. if b then ns else numbers_of_keyword (which_keyword k) rest) e
entry_here k ns rest Nothing n e = absurd (n refl)

entry_other : (k l : Text) (ns : List ℕ) (rest : List HeldNumbers) (h : Holding) → h ≡ holding l
    → ¬ (holding k ≡ Nothing) → bytes_eq l k ≡ false
    → numbers_of_keyword (which_keyword k) (one_entry h (which_keyword l, ns) ++ rest)
    ≡ numbers_of_keyword (which_keyword k) rest
entry_other k l ns rest One is n e =
    ap (λ b. if b then ns else numbers_of_keyword (which_keyword k) rest)
    (names_apart l k (λ no. let x : One ≡ Nothing = is ∙ no in absurd (cc)) n ∙ e)
entry_other k l ns rest Listed is n e =
    ap (λ b. if b then ns else numbers_of_keyword (which_keyword k) rest)
    (names_apart l k (λ no. let x : Listed ≡ Nothing = is ∙ no in absurd (cc)) n ∙ e)
entry_other k l ns rest Named is n e =
    ap (λ b. if b then ns else numbers_of_keyword (which_keyword k) rest)
    (names_apart l k (λ no. let x : Named ≡ Nothing = is ∙ no in absurd (cc)) n ∙ e)
entry_other k l ns rest Nothing is n e = refl

other_way : (k l : Text) (b : Bool) → bytes_eq l k ≡ b → bytes_eq k l ≡ false → bytes_eq l k ≡ false
other_way k l true e n =
    let no : true ≡ false = sym (is_text-refl k) ∙ ap (bytes_eq k) (sym (is_text-sound l k e)) ∙ n in
    absurd (cc)
other_way k l false e n = e

-- ---- where it stands

-- a place with this number stands at the pointer of the document
pub record StandsAt (all : List SchemaPlace) (d : ℕ) (q : Tokens) (n : ℕ) : Type 0 where
  pub place : SchemaPlace
  pub found : slice_get all n ≡ Some place
  pub document : place.document ≡ d
  pub pointer : place.spot.pointer ≡ q

module _ (all : List SchemaPlace) (d : ℕ) (uri : Parts) where
  abbrev place_here : List Located → Tokens → Value → SchemaPlace
  place_here above p v =
      record { document = d; uri = uri; above = above; spot = record { pointer = p; schema = v } }

  stands_here : (v : Value) (above : List Located) (p : Tokens) (n : ℕ)
      → slice_get all n ≡ Some (place_here above p v) → StandsAt all d p n
  stands_here v above p n found =
      record { place = place_here above p v; found = found; document = refl; pointer = refl }

  pub head_there : (v : Value) (above : List Located) (p : Tokens) (n : ℕ)
      → StandsFrom (places_at d uri above p v) n all → StandsAt all d p n
  head_there (object ms) above p n s = stands_here (object ms) above p n (first_there _ _ n all s)
  head_there null above p n s = stands_here null above p n (first_there _ _ n all s)
  head_there (truth b) above p n s = stands_here (truth b) above p n (first_there _ _ n all s)
  head_there (whole z) above p n s = stands_here (whole z) above p n (first_there _ _ n all s)
  head_there (text t) above p n s = stands_here (text t) above p n (first_there _ _ n all s)
  head_there (list vs) above p n s = stands_here (list vs) above p n (first_there _ _ n all s)

  -- the number of an item
  pub item_there : (vs : Items) (above : List Located) (p : Tokens) (i n r : ℕ) (u : Value)
      → StandsFrom (places_of_items d uri above p i vs) n all → slice_get (values vs) r ≡ Some u
      → (m : ℕ) × (slice_get (numbers_of_items n vs) r ≡ Some m) × StandsAt all d (p ++ decimal (i + r) ∷ []) m
  item_there no_items above p i n r u s e = absurd (cc)
  item_there (item v vs) above p i n zero u s e =
      let here : i + 0 ≡ i = omega arith in (
        n,
        refl,
        subst (λ j. StandsAt all d (p ++ decimal j ∷ []) n) (sym here)
            (head_there v above (p ++ decimal i ∷ []) n (front_there (places_at d uri above (p ++ decimal i ∷ []) v)
            (places_of_items d uri above p (suc i) vs) n all s)),
      )
  item_there (item v vs) above p i n (suc r) u s e =
      let q = p ++ decimal i ∷ [] in
      let next : suc i + r ≡ i + suc r = omega arith in
      let more = item_there vs above p (suc i) (n + count v) r u (back_there (places_at d uri above q v)
      (places_of_items d uri above p (suc i) vs) n (count v) all (place_count d uri v above q) s) e in
      (more.0, more.1, subst (λ j. StandsAt all d (p ++ decimal j ∷ []) more.0) next more.2)

  -- and of a member
  pub member_there : (ms : Members) (above : List Located) (p : Tokens) (n r : ℕ) (name : Text) (u : Value)
      → StandsFrom (places_of_members d uri above p ms) n all
      → slice_get (member_list ms) r ≡ Some (name, u)
      → (m : ℕ) × (slice_get (numbers_of_members n ms) r ≡ Some m) × StandsAt all d (p ++ name ∷ []) m
  member_there no_members above p n r name u s e = absurd (cc)
  member_there (member l v ms) above p n zero name u s e =
      let here = some_first (l, v) (name, u) e in (
        n,
        refl,
        subst (λ x. StandsAt all d (p ++ x ∷ []) n) here (head_there v above (p ++ l ∷ []) n
            (front_there (places_at d uri above (p ++ l ∷ []) v) (places_of_members d uri above p ms) n all s)),
      )
  member_there (member l v ms) above p n (suc r) name u s e =
      let q = p ++ l ∷ [] in
      member_there ms above p (n + count v) r name u (back_there (places_at d uri above q v)
      (places_of_members d uri above p ms) n (count v) all (place_count d uri v above q) s) e

  -- and what a keyword holds, as a whole
  pub record KeywordThere (above : List Located) (p : Tokens) (k : Text) (v : Value) (numbers : List ℕ) : Type 0 where
    pub first : ℕ
    pub are : numbers ≡ numbers_held (holding k) first v
    pub places : StandsFrom (places_held (holding k) (places_at d uri above (p ++ k ∷ []) v)
        (places_in_list d uri above (p ++ k ∷ []) v) (places_in_object d uri above (p ++ k ∷ []) v)) first all

  pub keyword_there : (ms : Members) (above : List Located) (p : Tokens) (n : ℕ) (k : Text) (v : Value)
      → StandsFrom (places_of_keywords d uri above p ms) n all
      → get k (member_list ms) ≡ Some v → ¬ (holding k ≡ Nothing)
      → KeywordThere above p k v (numbers_of_keyword (which_keyword k) (held_by_keywords n ms))
  keyword_there no_members above p n k v s e h = absurd (cc)
  keyword_there (member l w ms) above p n k v s e h =
      let q = p ++ l ∷ [] in
      let c = count_of_keyword l w in
      let here = places_held (holding l) (places_at d uri above q w) (places_in_list d uri above q w)
      (places_in_object d uri above q w) in
      let more = places_of_keywords d uri above p ms in
      by_name (bytes_eq k l) refl (sym (get_first k l w (member_list ms)) ∙ e) (front_there here more n all s)
      (λ g. keyword_there ms above p (n + c) k v
      (back_there here more n c all (keyword_count d uri (holding l) w above q) s) g h)
    where
      by_name : (b : Bool) → bytes_eq k l ≡ b → (if bytes_eq k l then Some w else get k (member_list ms)) ≡ Some v
          → StandsFrom (places_held (holding l) (places_at d uri above (p ++ l ∷ []) w)
          (places_in_list d uri above (p ++ l ∷ []) w) (places_in_object d uri above (p ++ l ∷ []) w)) n all
          → (get k (member_list ms) ≡ Some v → KeywordThere above p k v
          (numbers_of_keyword (which_keyword k) (held_by_keywords (n + count_of_keyword l w) ms)))
          → KeywordThere above p k v (numbers_of_keyword (which_keyword k) (held_by_keywords n (member l w ms)))
      by_name true is got stands next =
          let name : l ≡ k = sym (is_text-sound k l is) in
          let value = some_is w v (sym (ap (λ b. if b then Some w else get k (member_list ms)) is) ∙ got) in
          let itself : ghosts.eq (which_keyword k) (which_keyword k) ≡ true = names_apart k k h h ∙ is_text-refl k in
          let rest = held_by_keywords (n + count_of_keyword l w) ms in
          record {
            first = n;
            are = ap (λ x. numbers_of_keyword (which_keyword k)
                (one_entry (holding x) (which_keyword x, numbers_held (holding x) n w) ++ rest)) name
                ∙ entry_here k (numbers_held (holding k) n w) rest (holding k) h itself
                ∙ ap (numbers_held (holding k) n) value;
            places = subst (λ x. StandsFrom (places_held (holding k) (places_at d uri above (p ++ k ∷ []) x)
                (places_in_list d uri above (p ++ k ∷ []) x)
                (places_in_object d uri above (p ++ k ∷ []) x)) n all) value
                (subst (λ x. StandsFrom (places_held (holding x) (places_at d uri above (p ++ x ∷ []) w) (places_in_list
                d uri above (p ++ x ∷ []) w) (places_in_object d uri above (p ++ x ∷ []) w)) n all) name stands);
          }
      by_name false is got stands next =
          let more = next (sym (ap (λ b. if b then Some w else get k (member_list ms)) is) ∙ got) in
          record {
            first = more.first;
            are = entry_other k l (numbers_held (holding l) n w) (held_by_keywords (n + count_of_keyword l w) ms)
                (holding l) refl h (other_way k l (bytes_eq l k) refl is) ∙ more.are;
            places = more.places;
          }
