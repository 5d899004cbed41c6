-- Where each listed place stands, its document has the place's schema.
use Rattle.std.proofs.Common.{◌≡◌, ℕ, zero, suc, ◌+◌, ◌<◌, ◌≤◌, ◌^◌, List, [], ◌∷◌, ◌++◌, Bool, true}
use Rattle.std.proofs.Common.{false, map, inl, inr, decimal, Option, Some, None, option_and_then}
use Rattle.std.proofs.Common.{slice_get, refl, sym, ap, ◌∙◌, subst, arith}
use Rattle.std.specs.List.{AllByRecursion}
use Rattle.std.proofs.lemmas.Fmt.{decimal_injective}
use Rattle.url.specs.Parts.{Parts}
use Rattle.js_doc.specs.Lookup.{is_text, item_named, member_named, part_named, at}
use Rattle.js_doc.specs.Members.{NamesAscend, NamesAscendInItems, NamesAscendInMembers}
use Rattle.js_doc.specs.Pointer.{Tokens}
use Rattle.js_doc.specs.Short.{item_count, IsShort, AreShortItems, AreShortMembers}
use Rattle.js_doc.specs.Value.{Value, null, truth, whole, text, list, object, Items}
use Rattle.js_doc.specs.Value.{no_items, item, Members, no_members, member}
use Rattle.js_doc.specs.Parts.{member_list, members_of}
use Rattle.js_doc.proofs.TokenLookup.{is_text-refl, is_text-sound}
use Rattle.js_keyword.specs.declared.argument_form.Holding.{Holding}
use Rattle.js_keyword.specs.declared.argument_form.Holding.TheVariants.{One, Listed, Named, Nothing}
use Rattle.js_bundle.specs.Document.{Document, Documents}
use Rattle.js_bundle.specs.Keyword.{Text}
use Rattle.js_bundle.specs.Place.{holding, values, items_in, IsPlace, at_root, in_keyword, in_list, in_object, Located}
use Rattle.js_bundle.specs.Place.{SchemaPlace, places_held, places_at, places_of_keywords, places_in_list}
use Rattle.js_bundle.specs.Place.{places_of_items, places_in_object, places_of_members, places_from}
use Rattle.js_bundle.specs.Resource.{Site, site, sites}
use Rattle.js_bundle.specs.Seen.{AreOrdered, AreShort}
use Rattle.js_bundle.proofs.Listing.LeastSetListed.{Among, is-among, all_append, sound}
use Rattle.js_bundle.proofs.Listing.PlacesApart.{below_all, less_apart, all_as}

-- ---- one token further

other_text : (k l : Text) (b : Bool) → is_text k l ≡ b → ¬ (k ≡ l) → is_text k l ≡ false
other_text k l true e n = absurd (n (is_text-sound k l e))
other_text k l false e n = e

-- a name that ascends past another isn't it
pub member_found : (k : Text) (u : Value) (ms : Members) → NamesAscendInMembers ms → Among (k, u) (member_list ms)
    → member_named k ms ≡ Some u
member_found k u no_members a h = absurd h
member_found k u (member l v ms) a (inl e) =
    let same : is_text k l ≡ true = ap (is_text k) (sym (ap (λ m. m.0) e)) ∙ is_text-refl k in
    rw same (ap Some (sym (ap (λ m. m.1) e)))
member_found k u (member l v ms) a (inr h) =
    let other : is_text k l ≡ false =
    other_text k l (is_text k l) refl (λ e. less_apart l k (below_all l ms a.0 a.2 k u h) (sym e)) in
    rw other (member_found k u ms a.2 h)

pub within_count : (vs : Items) (i : ℕ) (u : Value) → slice_get (values vs) i ≡ Some u → i < item_count vs
within_count no_items zero u e = absurd (cc)
within_count no_items (suc i) u e = absurd (cc)
within_count (item v vs) zero u e = omega arith
within_count (item v vs) (suc i) u e = omega (arith, within_count vs i u e)

pub item_found : (vs : Items) (n i : ℕ) (u : Value) → n + item_count vs ≤ 2 ^ 64 → slice_get (values vs) i ≡ Some u
    → item_named (decimal (n + i)) n vs ≡ Some u
item_found no_items n zero u s e = absurd (cc)
item_found no_items n (suc i) u s e = absurd (cc)
item_found (item v vs) n zero u s e =
    let at : n + 0 ≡ n = omega arith in
    let same : is_text (decimal (n + 0)) (decimal n) ≡ true = ap (λ m. is_text (decimal m) (decimal n)) at
    ∙ is_text-refl (decimal n) in
    rw same e
item_found (item v vs) n (suc i) u s e =
    let low : i < item_count vs = within_count vs i u e in
    let next : n + suc i ≡ (n + 1) + i = omega arith in
    let other : is_text (decimal (n + suc i)) (decimal n)
    ≡ false = other_text (decimal (n + suc i)) (decimal n) (is_text (decimal (n + suc i)) (decimal n)) refl
    (λ same. absurd (let j : n + suc i ≡ n =
    decimal_injective (n + suc i) n (omega (arith, low, s)) (omega (arith, low, s)) same in omega (arith, j))) in
    rw other (ap (λ m. item_named (decimal m) (n + 1) vs) next ∙ item_found vs (n + 1) i u (omega (arith, s)) e)

-- a value that a token leads to, as good as the one that it stands in
pub record Below (k : Text) (v u : Value) : Type 0 where
  pub found : part_named k v ≡ Some u
  pub ascends : NamesAscend u
  pub short : IsShort u

among_ascends : (k : Text) (u : Value) (ms : Members) → NamesAscendInMembers ms
    → Among (k, u) (member_list ms) → NamesAscend u
among_ascends k u no_members a h = absurd h
among_ascends k u (member l v ms) a (inl e) = subst (λ w. NamesAscend w) (sym (ap (λ m. m.1) e)) a.1
among_ascends k u (member l v ms) a (inr h) = among_ascends k u ms a.2 h

among_short : (k : Text) (u : Value) (ms : Members) → AreShortMembers ms → Among (k, u) (member_list ms) → IsShort u
among_short k u no_members a h = absurd h
among_short k u (member l v ms) a (inl e) = subst (λ w. IsShort w) (sym (ap (λ m. m.1) e)) a.0
among_short k u (member l v ms) a (inr h) = among_short k u ms a.1 h

pub below_member : (k : Text) (v u : Value) → NamesAscend v → IsShort v → Among (k, u) (members_of v) → Below k v u
below_member k null u a s h = absurd h
below_member k (truth b) u a s h = absurd h
below_member k (whole z) u a s h = absurd h
below_member k (text t) u a s h = absurd h
below_member k (list vs) u a s h = absurd h
below_member k (object ms) u a s h =
    record { found = member_found k u ms a h; ascends = among_ascends k u ms a h; short = among_short k u ms s h }

item_ascends : (vs : Items) (i : ℕ) (u : Value) → NamesAscendInItems vs
    → slice_get (values vs) i ≡ Some u → NamesAscend u
item_ascends no_items zero u a e = absurd (cc)
item_ascends no_items (suc i) u a e = absurd (cc)
item_ascends (item v vs) zero u a e = let same : v ≡ u = cc in subst (λ w. NamesAscend w) same a.0
item_ascends (item v vs) (suc i) u a e = item_ascends vs i u a.1 e

item_short : (vs : Items) (i : ℕ) (u : Value) → AreShortItems vs → slice_get (values vs) i ≡ Some u → IsShort u
item_short no_items zero u a e = absurd (cc)
item_short no_items (suc i) u a e = absurd (cc)
item_short (item v vs) zero u a e = let same : v ≡ u = cc in subst (λ w. IsShort w) same a.0
item_short (item v vs) (suc i) u a e = item_short vs i u a.1 e

none_some : {A : Type 0} (i : ℕ) (u : A) → ¬ (slice_get [] i ≡ Some u)
none_some zero u e = absurd (cc)
none_some (suc i) u e = absurd (cc)

pub below_item : (i : ℕ) (v u : Value) → NamesAscend v → IsShort v → slice_get (items_in v) i ≡ Some u
    → Below (decimal i) v u
below_item i null u a s e = absurd (none_some i u e)
below_item i (truth b) u a s e = absurd (none_some i u e)
below_item i (whole z) u a s e = absurd (none_some i u e)
below_item i (text t) u a s e = absurd (none_some i u e)
below_item i (object ms) u a s e = absurd (none_some i u e)
below_item i (list vs) u a s e =
    let at : 0 + i ≡ i = omega arith in
    record {
      found = ap (λ m. item_named (decimal m) 0 vs) (sym at) ∙ item_found vs 0 i u (omega (arith, s.0)) e;
      ascends = item_ascends vs i u a e;
      short = item_short vs i u s.1 e;
    }

-- ---- a pointer further

step : (p q : Tokens) (k : Text) (v u : Value) (o : Option Value) → part_named k v ≡ o → at (k ∷ p) v ≡ Some u
    → ((w : Value) → at p w ≡ Some u → at (p ++ q) w ≡ at q u) → at (k ∷ p ++ q) v ≡ at q u
step p q k v u None is e more = let none : at (k ∷ p) v ≡ None = ap (option_and_then (at p)) is in absurd (cc)
step p q k v u (Some w) is e more = ap (option_and_then (at (p ++ q))) is
    ∙ more w (sym (ap (option_and_then (at p)) is) ∙ e)

pub at_append : (p q : Tokens) (v u : Value) → at p v ≡ Some u → at (p ++ q) v ≡ at q u
at_append [] q v u e = let same : v ≡ u = cc in ap (at q) same
at_append (k ∷ p) q v u e = step p q k v u (part_named k v) refl e (λ w there. at_append p q w u there)

-- what stands at the pointer in a document with this root
pub record StandsIn (root : Value) (p : Tokens) (v : Value) : Type 0 where
  pub found : at p root ≡ Some v
  pub ascends : NamesAscend v
  pub short : IsShort v

pub one_further : (root : Value) (p : Tokens) (k : Text) (v u : Value) (q : Tokens) → StandsIn root p v → Below k v u
    → q ≡ p ++ k ∷ [] → StandsIn root q u
one_further root p k v u q h b is =
    record {
      found = ap (λ r. at r root) is ∙ at_append p (k ∷ []) root v h.found
          ∙ ap (option_and_then (at [])) b.found;
      ascends = b.ascends;
      short = b.short;
    }

pub two_further : (root : Value) (p : Tokens) (k n : Text) (v l u : Value) (q : Tokens) → StandsIn root p v
    → Below k v l → Below n l u → q ≡ p ++ k ∷ n ∷ [] → StandsIn root q u
two_further root p k n v l u q h b c is =
    record {
      found = ap (λ r. at r root) is ∙ at_append p (k ∷ n ∷ []) root v h.found
          ∙ ap (option_and_then (at (n ∷ []))) b.found ∙ ap (option_and_then (at [])) c.found;
      ascends = c.ascends;
      short = c.short;
    }

pub place_stands : (root : Value) (p : Tokens) (v : Value) → NamesAscend root → IsShort root
    → IsPlace root p v → StandsIn root p v
place_stands root p v a s at_root = record { found = refl; ascends = a; short = s }
place_stands root p v a s (in_keyword p' v' k u q h e m is) =
    let up = place_stands root p' v' a s h in
    one_further root p' k v' u q up
    (below_member k v' u up.ascends up.short (is-among (k, u) (members_of v') m.0 m.1.0 m.1.1)) is
place_stands root p v a s (in_list p' v' k l i u q h e m g is) =
    let up = place_stands root p' v' a s h in
    let held = below_member k v' l up.ascends up.short (is-among (k, l) (members_of v') m.0 m.1.0 m.1.1) in
    two_further root p' k (decimal i) v' l u q up held (below_item i l u held.ascends held.short g) is
place_stands root p v a s (in_object p' v' k l n u q h e m b is) =
    let up = place_stands root p' v' a s h in
    let held = below_member k v' l up.ascends up.short (is-among (k, l) (members_of v') m.0 m.1.0 m.1.1) in
    two_further root p' k n v' l u q up held
    (below_member n l u held.ascends held.short (is-among (n, u) (members_of l) b.0 b.1.0 b.1.1)) is

-- ---- over all documents

module _ (number : ℕ) (uri : Parts) where
  abbrev pub OfThis : SchemaPlace → Type 0
  OfThis t = (t.document ≡ number) × (t.uri ≡ uri)

  chosen_of : (h : Holding) (a b c : List SchemaPlace) → AllByRecursion OfThis a → AllByRecursion OfThis b
      → AllByRecursion OfThis c → AllByRecursion OfThis (places_held h a b c)
  chosen_of One a b c f g k = f
  chosen_of Listed a b c f g k = g
  chosen_of Named a b c f g k = k
  chosen_of Nothing a b c f g k = tt

  mutual
    pub of_source : (v : Value) (above : List Located) (p : Tokens)
        → AllByRecursion OfThis (places_at number uri above p v)
    of_source null above p = ((refl, refl), tt)
    of_source (truth b) above p = ((refl, refl), tt)
    of_source (whole z) above p = ((refl, refl), tt)
    of_source (text s) above p = ((refl, refl), tt)
    of_source (list vs) above p = ((refl, refl), tt)
    of_source (object ms) above p =
        ((refl, refl), of_keywords ms (above ++ record { pointer = p; schema = object ms } ∷ []) p)

    of_keywords : (ms : Members) (above : List Located) (p : Tokens)
        → AllByRecursion OfThis (places_of_keywords number uri above p ms)
    of_keywords no_members above p = tt
    of_keywords (member k v ms) above p =
        let q = p ++ k ∷ [] in
        all_append OfThis (places_held (holding k) (places_at number uri above q v) (places_in_list number uri above q
        v) (places_in_object number uri above q v)) (places_of_keywords number uri above p ms)
        (chosen_of (holding k) (places_at number uri above q v) (places_in_list number uri above q v)
        (places_in_object number uri above q v) (of_source v above q) (of_list v above q) (of_object v above q))
        (of_keywords ms above p)

    of_list : (v : Value) (above : List Located) (p : Tokens)
        → AllByRecursion OfThis (places_in_list number uri above p v)
    of_list (list vs) above p = of_items vs above p 0
    of_list _ above p = tt

    of_items : (vs : Items) (above : List Located) (p : Tokens) (i : ℕ)
        → AllByRecursion OfThis (places_of_items number uri above p i vs)
    of_items no_items above p i = tt
    of_items (item v vs) above p i =
        all_append OfThis (places_at number uri above (p ++ decimal i ∷ []) v) (places_of_items number uri above p
        (suc i) vs) (of_source v above (p ++ decimal i ∷ [])) (of_items vs above p (suc i))

    of_object : (v : Value) (above : List Located) (p : Tokens)
        → AllByRecursion OfThis (places_in_object number uri above p v)
    of_object (object ms) above p = of_members ms above p
    of_object _ above p = tt

    of_members : (ms : Members) (above : List Located) (p : Tokens)
        → AllByRecursion OfThis (places_of_members number uri above p ms)
    of_members no_members above p = tt
    of_members (member n v ms) above p =
        all_append OfThis (places_at number uri above (p ++ n ∷ []) v) (places_of_members number uri above p ms)
        (of_source v above (p ++ n ∷ [])) (of_members ms above p)

pub of_document : (number : ℕ) (uri : Parts) (v : Value) (above : List Located) (p : Tokens)
    → AllByRecursion (λ t. t.document ≡ number) (places_at number uri above p v)
of_document number uri v above p = all_as (OfThis number uri) (λ t. t.document ≡ number) (λ t e. e.0)
    (places_at number uri above p v) (of_source number uri v above p)

-- the place is one of its document, which stands among these, where the first has the number n
pub record IsOf (n : ℕ) (ds : Documents) (t : SchemaPlace) : Type 0 where
  pub index : ℕ
  pub numbered : t.document ≡ n + index
  pub document : Document
  pub found : slice_get ds index ≡ Some document
  pub uri : t.uri ≡ document.uri
  pub place : IsPlace document.root t.spot.pointer t.spot.schema

both_all : (P Q R : SchemaPlace → Type 0) → ((t : SchemaPlace) → P t → Q t → R t) → (xs : List SchemaPlace)
    → AllByRecursion P xs → AllByRecursion Q xs → AllByRecursion R xs
both_all P Q R f [] h g = tt
both_all P Q R f (x ∷ xs) h g = (f x h.0 g.0, both_all P Q R f xs h.1 g.1)

pub all_of : (n : ℕ) (ds : Documents) → AllByRecursion (IsOf n ds) (places_from n ds)
all_of n [] = tt
all_of n (d ∷ ds) =
    all_append (IsOf n (d ∷ ds)) (places_at n d.uri [] [] d.root) (places_from (suc n) ds)
    (both_all (OfThis n d.uri) (λ t. IsPlace d.root t.spot.pointer t.spot.schema) (IsOf n (d ∷ ds))
    (λ t e h. record { index = 0; numbered = omega (arith, e.0); document = d; found = refl; uri = e.1; place = h })
    (places_at n d.uri [] [] d.root) (of_source n d.uri d.root [] []) (sound n d.uri d.root d.root [] [] at_root))
    (all_as (IsOf (suc n) ds) (IsOf n (d ∷ ds)) (λ t o. record {
      index = suc o.index;
      numbered = omega (arith, o.numbered);
      document = o.document;
      found = o.found;
      uri = o.uri;
      place = o.place;
    }) (places_from (suc n) ds) (all_of (suc n) ds))

-- ---- by number

pub all_at : {A : Type 0} (P : A → Type 0) (xs : List A) (n : ℕ) (x : A) → AllByRecursion P xs
    → slice_get xs n ≡ Some x → P x
all_at P [] n x h e = absurd (none_some n x e)
all_at P (y ∷ xs) zero x h e = let same : y ≡ x = cc in subst P same h.0
all_at P (y ∷ xs) (suc n) x h e = all_at P xs n x h.1 e

-- what has the number in a list of what others are made
pub record IsMade {A B : Type 0} (f : A → B) (xs : List A) (n : ℕ) (y : B) : Type 0 where
  pub from : A
  pub found : slice_get xs n ≡ Some from
  pub is : y ≡ f from

pub made_at : {A B : Type 0} (f : A → B) (xs : List A) (n : ℕ) (y : B)
    → slice_get (map f xs) n ≡ Some y → IsMade f xs n y
made_at f [] n y e = absurd (none_some n y e)
made_at f (x ∷ xs) zero y e = record { from = x; found = refl; is = cc }
made_at f (x ∷ xs) (suc n) y e = let m = made_at f xs n y e in record { from = m.from; found = m.found; is = m.is }

-- where a site stands: in a document, at a pointer that leads to its schema
pub record Standing (documents : Documents) (s : Site) : Type 0 where
  pub document : Document
  pub held : slice_get documents s.document ≡ Some document
  pub found : at s.pointer document.root ≡ Some s.schema
  pub place : IsPlace document.root s.pointer s.schema
  pub ascends : NamesAscend s.schema
  pub short : IsShort s.schema

place_standing : (documents : Documents) (t : SchemaPlace) → AreOrdered documents → AreShort documents
    → IsOf 0 documents t → Standing documents (site t)
place_standing documents t a h o =
    let number : t.document ≡ o.index = omega (arith, o.numbered) in
    let ascends = all_at (λ d. NamesAscend d.root) documents o.index o.document a o.found in
    let short = all_at (λ d. IsShort d.root) documents o.index o.document h o.found in
    let there = place_stands o.document.root t.spot.pointer t.spot.schema ascends short o.place in
    record {
      document = o.document;
      held = ap (slice_get documents) number ∙ o.found;
      found = there.found;
      place = o.place;
      ascends = there.ascends;
      short = there.short;
    }

-- each place stands in its document, where its pointer leads to its schema
pub standing : (documents : Documents) → AreOrdered documents → AreShort documents → (n : ℕ) (s : Site)
    → slice_get (sites documents) n ≡ Some s → Standing documents s
standing documents a h n s e =
    let m = made_at site (places_from 0 documents) n s e in
    subst (λ x. Standing documents x) (sym m.is) (place_standing documents m.from a h
    (all_at (IsOf 0 documents) (places_from 0 documents) n m.from (all_of 0 documents) m.found))
