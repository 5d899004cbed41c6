-- What a keyword of a place holds is a place, and is found below it.
use Rattle.std.proofs.Common.{◌≡◌, ℕ, zero, suc, ◌+◌, List, [], ◌∷◌, ◌++◌, Bool, true, false, if◌then◌else◌}
use Rattle.std.proofs.Common.{inl, inr, decimal, Option, Some, None, option_map, option_and_then, slice_get}
use Rattle.std.proofs.Common.{find, refl, sym, ap, ◌∙◌, subst, arith}
use Rattle.std.specs.List.{position_from}
use Rattle.std.specs.Str.{bytes_eq}
use Rattle.std.proofs.lemmas.Option.{slice_get-map}
use Rattle.js_doc.specs.Members.{get}
use Rattle.js_doc.specs.Pointer.{Tokens}
use Rattle.js_doc.specs.Value.{Value}
use Rattle.js_doc.specs.Parts.{members_of}
use Rattle.js_doc.proofs.TokenLookup.{is_text-sound}
use Rattle.js_bundle.specs.Document.{Document, Documents}
use Rattle.js_bundle.specs.Keyword.{Text}
use Rattle.js_bundle.specs.Names.{stands_at}
use Rattle.js_bundle.specs.Place.{holding, IsPlace, in_keyword, in_list, in_object, SchemaPlace, places_at, places_from}
use Rattle.js_bundle.specs.PlaceLaws.{ListsPlace}
use Rattle.js_bundle.specs.Resource.{Site, site, sites}
use Rattle.js_bundle.specs.PlaceNumber.{place_at}
use Rattle.js_bundle.specs.Schemas.{Finds, FindsSchema, Holds, Step, Alone, Index, Name, fits, step_tokens, below}
use Rattle.js_bundle.specs.Seen.{AreOrdered, AreShort, AreRead}
use Rattle.js_bundle.proofs.Listing.LeastSetListed.{Among, among-is, complete}
use Rattle.js_bundle.proofs.Indexing.FirstFound.{get_first}
use Rattle.js_bundle.proofs.Standing.{standing, of_document, all_at}
use Rattle.js_bundle.proofs.Listing.EachListedOnce.{number_of, found_there}

-- ---- each place of a document has a number

pub record IsListed (xs : List SchemaPlace) (p : Tokens) (v : Value) : Type 0 where
  pub index : ℕ
  pub place : SchemaPlace
  pub stands : slice_get xs index ≡ Some place
  pub pointer : place.spot.pointer ≡ p
  pub schema : place.spot.schema ≡ v

listed_at : (xs : List SchemaPlace) (p : Tokens) (v : Value) → ListsPlace p v xs → IsListed xs p v
listed_at [] p v h = absurd h
listed_at (x ∷ xs) p v (inl e) = record { index = 0; place = x; stands = refl; pointer = e.0; schema = e.1 }
listed_at (x ∷ xs) p v (inr h) = let m = listed_at xs p v h in
    record { index = suc m.index; place = m.place; stands = m.stands; pointer = m.pointer; schema = m.schema }

none_at : {A : Type 0} (i : ℕ) (x : A) → ¬ (slice_get [] i ≡ Some x)
none_at i x e = absurd (cc)

left_at : {A : Type 0} (xs ys : List A) (i : ℕ) (x : A) → slice_get xs i ≡ Some x → slice_get (xs ++ ys) i ≡ Some x
left_at [] ys i x e = absurd (none_at i x e)
left_at (y ∷ xs) ys zero x e = e
left_at (y ∷ xs) ys (suc i) x e = left_at xs ys i x e

right_at : {A : Type 0} (xs ys : List A) (i : ℕ) (x : A) → slice_get ys i ≡ Some x
    → (k : ℕ) × (slice_get (xs ++ ys) k ≡ Some x)
right_at [] ys i x e = (i, e)
right_at (y ∷ xs) ys i x e = let r = right_at xs ys i x e in (suc r.0, r.1)

-- a place of a document is one of all
among_all : (n : ℕ) (ds : Documents) (j m : ℕ) (d : Document) (i : ℕ) (t : SchemaPlace) → m ≡ n + j
    → slice_get ds j ≡ Some d → slice_get (places_at m d.uri [] [] d.root) i ≡ Some t
    → (k : ℕ) × (slice_get (places_from n ds) k ≡ Some t)
among_all n [] j m d i t is e h = absurd (none_at j d e)
among_all n (c ∷ ds) zero m d i t is e h =
    let same : d ≡ c = cc in
    let number : m ≡ n = omega (arith, is) in (
      i,
      left_at (places_at n c.uri [] [] c.root) (places_from (suc n) ds) i t (subst (λ r. slice_get (places_at r c.uri
          [] [] c.root) i ≡ Some t) number (subst (λ b. slice_get (places_at m b.uri [] [] b.root) i ≡ Some t) same h)),
    )
among_all n (c ∷ ds) (suc j) m d i t is e h =
    let r = among_all (suc n) ds j m d i t (omega (arith, is)) e h in
    right_at (places_at n c.uri [] [] c.root) (places_from (suc n) ds) r.0 t r.1

-- a place with a number, that stands at the pointer of the document, with this schema
pub record IsThere (documents : Documents) (d : ℕ) (p : Tokens) (v : Value) : Type 0 where
  pub number : ℕ
  pub place : Site
  pub stands : slice_get (sites documents) number ≡ Some place
  pub document : place.document ≡ d
  pub pointer : place.pointer ≡ p
  pub schema : place.schema ≡ v

pub place_there : (documents : Documents) (d : ℕ) (document : Document) (p : Tokens) (v : Value)
    → slice_get documents d ≡ Some document → IsPlace document.root p v → IsThere documents d p v
place_there documents d document p v e h =
    let listed = places_at d document.uri [] [] document.root in
    let m = listed_at listed p v (complete d document.uri document.root p v h) in
    let r = among_all 0 documents d d document m.index m.place (omega arith) e m.stands in
    record {
      number = r.0;
      place = site m.place;
      stands = slice_get-map site (places_from 0 documents) r.0 ∙ ap (option_map site) r.1;
      document = all_at (λ t. t.document ≡ d) listed m.index m.place
          (of_document d document.uri document.root [] []) m.stands;
      pointer = m.pointer;
      schema = m.schema;
    }

-- ---- what a place holds at a step

among_by : (k l : Text) (v u : Value) (ms : List (Text × Value)) (b : Bool) → bytes_eq k l ≡ b
    → (if b then Some v else get k ms) ≡ Some u → (get k ms ≡ Some u → Among (k, u) ms) → Among (k, u) ((l, v) ∷ ms)
among_by k l v u ms true e h more =
    let name : k ≡ l = is_text-sound k l e in
    let value : v ≡ u = cc in
    inl (λ i. (name i, sym value i))
among_by k l v u ms false e h more = inr (more h)

pub get_among : (k : Text) (u : Value) (ms : List (Text × Value)) → get k ms ≡ Some u → Among (k, u) ms
get_among k u [] h = absurd (cc)
get_among k u (m ∷ ms) h =
    among_by k m.0 m.1 u ms (bytes_eq k m.0) refl (sym (get_first k m.0 m.1 ms) ∙ h) (get_among k u ms)

held_fits : (schema : Value) (k : Text) (step : Step) (u : Value) → Holds schema k step u → fits (holding k) step ≡ true
held_fits schema k Alone u h = ap (λ x. fits x Alone) h.0
held_fits schema k (Index i) u h = ap (λ x. fits x (Index i)) h.0
held_fits schema k (Name n) u h = ap (λ x. fits x (Name n)) h.0

held_place : (root : Value) (p : Tokens) (schema : Value) (k : Text) (step : Step) (u : Value) → IsPlace root p schema
    → Holds schema k step u → IsPlace root (p ++ k ∷ step_tokens step) u
held_place root p schema k Alone u is h = in_keyword p schema k u (p ++ k ∷ []) is h.0
    (among-is (k, u) (members_of schema) (get_among k u (members_of schema) h.1)) refl
held_place root p schema k (Index i) u is h =
    in_list p schema k h.1.0 i u (p ++ k ∷ decimal i ∷ []) is h.0
    (among-is (k, h.1.0) (members_of schema) (get_among k h.1.0 (members_of schema) h.1.1)) h.1.2 refl
held_place root p schema k (Name n) u is h =
    in_object p schema k h.1.0 n u (p ++ k ∷ n ∷ []) is h.0
    (among-is (k, h.1.0) (members_of schema) (get_among k h.1.0 (members_of schema) h.1.1))
    (among-is (n, u) (members_of h.1.0) (get_among n u (members_of h.1.0) h.1.2)) refl

-- a place is found below it, with the schema that is held
pub record IsHeld (documents : Documents) (s : Site) (k : Text) (step : Step) (u : Value) : Type 0 where
  pub number : ℕ
  pub place : Site
  pub found : below documents s k step ≡ Some place
  pub numbered : position_from (stands_at s.document (s.pointer ++ k ∷ step_tokens step)) 0
      (sites documents) ≡ Some number
  pub stands : slice_get (sites documents) number ≡ Some place
  pub document : place.document ≡ s.document
  pub pointer : place.pointer ≡ s.pointer ++ k ∷ step_tokens step
  pub schema : place.schema ≡ u

pub held : (documents : Documents) → AreOrdered documents → AreShort documents → (n : ℕ) (s : Site)
    → slice_get (sites documents) n ≡ Some s
    → (k : Text) (step : Step) (u : Value) → Holds s.schema k step u → IsHeld documents s k step u
held documents a h n s e k step u g =
    let here = standing documents a h n s e in
    let q = s.pointer ++ k ∷ step_tokens step in
    let there = place_there documents s.document here.document q u here.held
    (held_place here.document.root s.pointer s.schema k step u here.place g) in
    let found : find (stands_at s.document q) (sites documents) ≡ Some there.place =
    ap (λ d. find (stands_at d q) (sites documents)) (sym there.document)
    ∙ ap (λ p. find (stands_at there.place.document p) (sites documents)) (sym there.pointer)
    ∙ found_there documents a h there.number there.place there.stands in
    let numbered : position_from (stands_at s.document q) 0 (sites documents) ≡ Some there.number =
    ap (λ d. position_from (stands_at d q) 0 (sites documents)) (sym there.document)
    ∙ ap (λ p. position_from (stands_at there.place.document p) 0 (sites documents)) (sym there.pointer)
    ∙ number_of documents a h there.number there.place there.stands in
    record {
      number = there.number;
      place = there.place;
      found = ap (λ b. if b then find (stands_at s.document q) (sites documents) else None)
          (held_fits s.schema k step u g) ∙ found;
      numbered = numbered;
      stands = there.stands;
      document = there.document;
      pointer = there.pointer;
      schema = there.schema;
    }

-- ---- what is found by number

held_by : (documents : Documents) → AreOrdered documents → AreShort documents
    → (place : ℕ) (k : Text) (step : Step) (r : Option ℕ) (o : Option Site) → o ≡ place_at documents place
    → Finds documents r (option_and_then (λ s. below documents s k step) o) → (s : Site) (u : Value) → o ≡ Some s
    → Holds s.schema k step u → FindsSchema documents r u
held_by documents a h place k step None o is f s u e g =
    let there = held documents a h place s (sym is ∙ e) k step u g in
    let none : below documents s k step ≡ None = sym (ap (option_and_then (λ t. below documents t k step)) e) ∙ f in
    let some : below documents s k step ≡ Some there.place = there.found in
    absurd (cc)
held_by documents a h place k step (Some n) o is f s u e g =
    let there = held documents a h place s (sym is ∙ e) k step u g in
    let found : Some there.place ≡ Some f.0 = sym there.found
    ∙ sym (ap (option_and_then (λ t. below documents t k step)) e) ∙ f.1 in
    let same : there.place ≡ f.0 = cc in
    (f.0, f.2, ap (λ t. t.schema) (sym same) ∙ there.schema)

pub held_found : (docs documents : Documents) → docs ≡ documents → AreRead docs
    → (place : ℕ) (k : Text) (step : Step) (r : Option ℕ)
    → Finds documents r (option_and_then (λ s. below documents s k step) (place_at documents place))
    → (s : Site) (u : Value) → place_at documents place ≡ Some s
    → Holds s.schema k step u → FindsSchema documents r u
held_found docs documents same h place k step r f s u e g =
    let read : AreRead documents = subst (λ ds. AreRead ds) same h in
    held_by documents read.ordered read.short place k step r (place_at documents place) refl f s u e g
