-- What a place's schema holds is found by the numbers that are kept of the place.
use Rattle.std.proofs.Common.{◌≡◌, ℕ, zero, suc, ◌+◌, ◌<◌, List, [], ◌∷◌, ◌++◌, map, length, false, Option, Some}
use Rattle.std.proofs.Common.{option_map, slice_get, decimal, refl, sym, ap, ◌∙◌, subst, append_assoc, arith}
use Rattle.std.specs.List.{position_from}
use Rattle.std.specs.Option.{option_map_or}
use Rattle.std.specs.Ordering.{is_lt}
use Rattle.std.proofs.lemmas.Option.{slice_get-map, slice_get_within, get_or_from_slice_get}
use Rattle.url.specs.Parts.{Parts}
use Rattle.js_doc.specs.Members.{name_cmp, NamesAscend, NamesAscendInMembers}
use Rattle.js_doc.specs.Pointer.{Tokens}
use Rattle.js_doc.specs.Value.{Value, null, truth, whole, text, list, object, Members, no_members, member}
use Rattle.js_doc.specs.Parts.{member_list}
use Rattle.js_bundle.specs.declared.index.edges.Edges.{Edges}
use Rattle.js_keyword.specs.declared.argument_form.Holding.TheVariants.{One, Listed, Named, Nothing}
use Rattle.js_keyword.specs.declared.keyword.Keyword.{Keyword}
use Rattle.js_bundle.specs.declared.check.checked_site.CheckedSite as rust
use Rattle.js_bundle.specs.Document.{Documents}
use Rattle.js_bundle.specs.Keyword.{Text, argument}
use Rattle.js_keyword.specs.Keyword.{which_keyword}
use Rattle.js_bundle.specs.Names.{stands_at}
use Rattle.js_bundle.specs.Place.{holding, items_in, Located, SchemaPlace, places_held, places_at, places_in_list}
use Rattle.js_bundle.specs.Place.{places_in_object, places_of_members, places_from, places_of_keywords}
use Rattle.js_bundle.specs.Resource.{Site, site, sites}
use Rattle.js_bundle.specs.PlaceNumber.{place_at}
use Rattle.js_bundle.specs.Schemas.{Finds, Holds, Step, Alone, Index, Name, step_tokens, below}
use Rattle.js_bundle.specs.Seen.{AreRead}
use Rattle.js_bundle.specs.code.Edges.{count, edges_from, edges_of, held_by_place, numbers_held, numbers_of_members}
use Rattle.js_bundle.specs.code.PlaceBelow.{numbers_of_keyword, stands_before, ends_before, IsRankOf, IsNumberAt}
use Rattle.js_bundle.specs.code.CheckedSite.{CheckedSite, checked_site, checked_site_of}
use Rattle.js_bundle.proofs.Listing.PlacesCounted.{StandsFrom, root_of, rest_there}
use Rattle.js_bundle.proofs.Listing.EachListedOnce.{number_of}
use Rattle.js_bundle.proofs.Finding.HeldIsFound.{held}
use Rattle.js_bundle.proofs.Finding.HeldHasNumber.{StandsAt, head_there, item_there, member_there}
use Rattle.js_bundle.proofs.Finding.HeldHasNumber.{KeywordThere, keyword_there}
use Rattle.js_bundle.proofs.Finding.RankOfName.{rank_there, before_rank, from_rank, last_token, some_is}
use Rattle.js_bundle.proofs.Standing.{standing, made_at}

holds_alone : (k : Text) → holding k ≡ One → ¬ (holding k ≡ Nothing)
holds_alone k e n = let x : One ≡ Nothing = sym e ∙ n in absurd (cc)

holds_list : (k : Text) → holding k ≡ Listed → ¬ (holding k ≡ Nothing)
holds_list k e n = let x : Listed ≡ Nothing = sym e ∙ n in absurd (cc)

pub holds_object : (k : Text) → holding k ≡ Named → ¬ (holding k ≡ Nothing)
holds_object k e n = let x : Named ≡ Nothing = sym e ∙ n in absurd (cc)

none_some : {A : Type 0} (i : ℕ) (u : A) → ¬ (slice_get [] i ≡ Some u)
none_some i u e = absurd (cc)

two_tokens : (p : Tokens) (k n : Text) → (p ++ k ∷ []) ++ n ∷ [] ≡ p ++ k ∷ n ∷ []
two_tokens p k n = append_assoc p (k ∷ []) (n ∷ [])

-- ---- the rank of a name

-- what stands at a number is before a name as its own name is
by_name : (all : List SchemaPlace) (checked_sites : List CheckedSite) (d : ℕ) (p : Tokens) (k n name : Text) (m : ℕ)
    → checked_sites ≡ map (λ t. checked_site (site t)) all → StandsAt all d (p ++ k ∷ n ∷ []) m
    → stands_before checked_sites name m ≡ is_lt (name_cmp n name)
by_name all checked_sites d p k n name m are s =
    let there : slice_get checked_sites m ≡ Some (checked_site (site s.place)) = ap (λ xs. slice_get xs m) are
    ∙ slice_get-map (λ t. checked_site (site t)) all m ∙ ap (option_map (λ t. checked_site (site t))) s.found in
    ap (λ o. option_map_or (λ x. ends_before name x.pointer) o false) there ∙ ap (ends_before name) s.pointer
    ∙ last_token p k n name

-- a list of numbers, one for each member, each of the place with its name
pub record AreNamed (all : List SchemaPlace) (d : ℕ) (p : Tokens) (k : Text) (ms : Members)
    (numbers : List ℕ) : Type 0 where
  pub many : length numbers ≡ length (member_list ms)
  pub named : (r : ℕ) (name : Text) (u : Value) → slice_get (member_list ms) r ≡ Some (name, u)
      → (m : ℕ) × (slice_get numbers r ≡ Some m) × StandsAt all d (p ++ k ∷ name ∷ []) m

numbers_many : (n : ℕ) (ms : Members) → length (numbers_of_members n ms) ≡ length (member_list ms)
numbers_many n no_members = refl
numbers_many n (member name v ms) = ap suc (numbers_many (n + count v) ms)

pub are_named : (all : List SchemaPlace) (d : ℕ) (uri : Parts) (ms : Members) (above : List Located) (p : Tokens)
    (k : Text) (n : ℕ) → StandsFrom (places_of_members d uri above (p ++ k ∷ []) ms) n all
    → AreNamed all d p k ms (numbers_of_members n ms)
are_named all d uri ms above p k n s = record {
  many = numbers_many n ms;
  named = λ r name u e.
      let m = member_there all d uri ms above (p ++ k ∷ []) n r name u s e in
      (m.0, m.1, subst (λ q. StandsAt all d q m.0) (two_tokens p k name) m.2);
}

get_within : {A : Type 0} (xs : List A) (i : ℕ) → i < length xs → (x : A) × (slice_get xs i ≡ Some x)
get_within [] i low = absurd (omega (arith, low))
get_within (x ∷ xs) zero low = (x, refl)
get_within (x ∷ xs) (suc i) low = get_within xs i (omega (arith, low))

pub rank_of_name : (all : List SchemaPlace) (checked_sites : List CheckedSite) (d : ℕ) (p : Tokens) (k name : Text)
    (u : Value) (ms : Members) (numbers : List ℕ) (r : ℕ) → checked_sites ≡ map (λ t. checked_site (site t)) all
    → NamesAscendInMembers ms → AreNamed all d p k ms numbers → slice_get (member_list ms) r ≡ Some (name, u)
    → IsRankOf checked_sites name numbers r
rank_of_name all checked_sites d p k name u ms numbers r are up h here = (
  omega (arith, h.many, slice_get_within (member_list ms) r (name, u) here),
  (
    λ i x low within.
        let low_there : i < length (member_list ms) =
        omega (arith, within, slice_get_within (member_list ms) r (name, u) here) in
        let one = get_within (member_list ms) i low_there in
        let m = h.named i one.0.0 one.0.1 one.1 in
        ap (stands_before checked_sites name) (get_or_from_slice_get numbers i m.0 x m.1)
        ∙ by_name all checked_sites d p k
        one.0.0 name m.0 are m.2 ∙ before_rank ms i r one.0.0 name one.0.1 u up within one.1 here,
    λ i x low within.
        let low_there : i < length (member_list ms) = omega (arith, within, h.many) in
        let one = get_within (member_list ms) i low_there in
        let m = h.named i one.0.0 one.0.1 one.1 in
        ap (stands_before checked_sites name) (get_or_from_slice_get numbers i m.0 x m.1)
        ∙ by_name all checked_sites d p k
        one.0.0 name m.0 are m.2 ∙ from_rank ms i r one.0.0 name one.0.1 u up low one.1 here,
  ),
)

ascends_at : (ms : Members) (r : ℕ) (k : Text) (l : Value) → NamesAscendInMembers ms
    → slice_get (member_list ms) r ≡ Some (k, l) → NamesAscend l
ascends_at no_members r k l a e = absurd (cc)
ascends_at (member j w ms) zero k l a e =
    subst (λ x. NamesAscend x) (ap (λ m. m.1) (some_is (j, w) (k, l) e)) a.1
ascends_at (member j w ms) (suc r) k l a e = ascends_at ms r k l a.2 e

-- names ascend in a keyword's argument as in its schema
pub argument_ascends : (v : Value) (k : Text) (l : Value) → NamesAscend v → argument k v ≡ Some l → NamesAscend l
argument_ascends null k l a e = absurd (cc)
argument_ascends (truth b) k l a e = absurd (cc)
argument_ascends (whole z) k l a e = absurd (cc)
argument_ascends (text t) k l a e = absurd (cc)
argument_ascends (list vs) k l a e = absurd (cc)
argument_ascends (object ms) k l a e = let r = rank_there k l ms e in ascends_at ms r.0 k l a r.1

-- ---- what a keyword holds at a step

pub record IsLed (all : List SchemaPlace) (checked_sites : List CheckedSite) (d : ℕ) (p : Tokens) (k : Text)
    (step : Step)
    (numbers : List ℕ) : Type 0 where
  pub number : ℕ
  pub stands : StandsAt all d (p ++ k ∷ step_tokens step) number
  pub is : IsNumberAt checked_sites numbers step number

module _ (all : List SchemaPlace) (checked_sites : List CheckedSite) (d : ℕ) (uri : Parts)
    (are : checked_sites ≡ map (λ t. checked_site (site t)) all) where
  -- where the keyword's argument is known
  led_alone : (above : List Located) (p : Tokens) (k : Text) (u : Value) (numbers : List ℕ) → holding k ≡ One
      → KeywordThere all d uri above p k u numbers → IsLed all checked_sites d p k Alone numbers
  led_alone above p k u numbers e h =
      let places = subst (λ x. StandsFrom (places_held x (places_at d uri above (p ++ k ∷ []) u) (places_in_list d uri
      above (p ++ k ∷ []) u) (places_in_object d uri above (p ++ k ∷ []) u)) h.first all) e h.places in
      record {
        number = h.first;
        stands = head_there all d uri u above (p ++ k ∷ []) h.first places;
        is = ap (λ xs. slice_get xs 0) (h.are ∙ ap (λ x. numbers_held x h.first u) e);
      }

  led_item : (above : List Located) (p : Tokens) (k : Text) (l u : Value) (i : ℕ) (numbers : List ℕ)
      → holding k ≡ Listed → slice_get (items_in l) i ≡ Some u → KeywordThere all d uri above p k l numbers
      → IsLed all checked_sites d p k (Index i) numbers
  led_item above p k null u i numbers e g h = absurd (none_some i u g)
  led_item above p k (truth b) u i numbers e g h = absurd (none_some i u g)
  led_item above p k (whole z) u i numbers e g h = absurd (none_some i u g)
  led_item above p k (text t) u i numbers e g h = absurd (none_some i u g)
  led_item above p k (object ms) u i numbers e g h = absurd (none_some i u g)
  led_item above p k (list vs) u i numbers e g h =
      let q = p ++ k ∷ [] in
      let places = subst (λ x. StandsFrom (places_held x (places_at d uri above q (list vs)) (places_in_list d uri above
      q (list vs)) (places_in_object d uri above q (list vs))) h.first all) e h.places in
      let here : 0 + i ≡ i = omega arith in
      let m = item_there all d uri vs above q 0 h.first i u places g in
      record {
        number = m.0;
        stands = subst (λ x. StandsAt all d x m.0)
            (two_tokens p k (decimal (0 + i)) ∙ ap (λ j. p ++ k ∷ decimal j ∷ []) here) m.2;
        is = ap (λ xs. slice_get xs i) (h.are ∙ ap (λ x. numbers_held x h.first (list vs)) e) ∙ m.1;
      }

  led_member : (above : List Located) (p : Tokens) (k : Text) (l u : Value) (name : Text) (numbers : List ℕ)
      → holding k ≡ Named → NamesAscend l → argument name l ≡ Some u → KeywordThere all d uri above p k l numbers
      → IsLed all checked_sites d p k (Name name) numbers
  led_member above p k null u name numbers e a g h = absurd (cc)
  led_member above p k (truth b) u name numbers e a g h = absurd (cc)
  led_member above p k (whole z) u name numbers e a g h = absurd (cc)
  led_member above p k (text t) u name numbers e a g h = absurd (cc)
  led_member above p k (list vs) u name numbers e a g h = absurd (cc)
  led_member above p k (object ms) u name numbers e a g h =
      let q = p ++ k ∷ [] in
      let places = subst (λ x. StandsFrom (places_held x (places_at d uri above q (object ms)) (places_in_list d uri
      above q (object ms)) (places_in_object d uri above q (object ms))) h.first all) e h.places in
      let named = are_named all d uri ms above p k h.first places in
      let same = h.are ∙ ap (λ x. numbers_held x h.first (object ms)) e in
      let r = rank_there name u ms g in
      let m = named.named r.0 name u r.1 in
      record {
        number = m.0;
        stands = m.2;
        is = (
          r.0,
          ap (λ xs. slice_get xs r.0) same ∙ m.1,
          subst (λ xs. IsRankOf checked_sites name xs r.0) (sym same)
              (rank_of_name all checked_sites d p k name u ms (numbers_of_members h.first ms) r.0 are a named r.1),
        );
      }

  -- the keyword of a schema of which the place is known
  pub keyword_at : (n : ℕ) (above : List Located) (p : Tokens) (v : Value) (k : Text) (l : Value)
      → StandsFrom (places_at d uri above p v) n all → argument k v ≡ Some l → ¬ (holding k ≡ Nothing)
      → (below : List Located)
      × KeywordThere all d uri below p k l (numbers_of_keyword (which_keyword k) (held_by_place n v))
  keyword_at n above p null k l s e h = absurd (cc)
  keyword_at n above p (truth b) k l s e h = absurd (cc)
  keyword_at n above p (whole z) k l s e h = absurd (cc)
  keyword_at n above p (text t) k l s e h = absurd (cc)
  keyword_at n above p (list vs) k l s e h = absurd (cc)
  keyword_at n above p (object ms) k l s e h =
      let below = above ++ record { pointer = p; schema = object ms } ∷ [] in (
        below,
        keyword_there all d uri ms below p (suc n) k l
            (rest_there _ (places_of_keywords d uri below p ms) n all s) e h,
      )

  led_at : (n : ℕ) (above : List Located) (p : Tokens) (v : Value) (k : Text) (step : Step) (u : Value) → NamesAscend v
      → StandsFrom (places_at d uri above p v) n all → Holds v k step u
      → IsLed all checked_sites d p k step (numbers_of_keyword (which_keyword k) (held_by_place n v))
  led_at n above p v k Alone u a s h =
      let there = keyword_at n above p v k u s h.1 (holds_alone k h.0) in
      led_alone there.0 p k u (numbers_of_keyword (which_keyword k) (held_by_place n v)) h.0 there.1
  led_at n above p v k (Index i) u a s h =
      let there = keyword_at n above p v k h.1.0 s h.1.1 (holds_list k h.0) in
      led_item there.0 p k h.1.0 u i (numbers_of_keyword (which_keyword k) (held_by_place n v)) h.0 h.1.2 there.1
  led_at n above p v k (Name name) u a s h =
      let there = keyword_at n above p v k h.1.0 s h.1.1 (holds_object k h.0) in
      led_member there.0 p k h.1.0 u name (numbers_of_keyword (which_keyword k) (held_by_place n v)) h.0
      (argument_ascends v k h.1.0 a h.1.1) h.1.2 there.1

-- ---- over all documents

-- a number that has the step's rank
pub record IsFound (documents : Documents) (checked_sites : List CheckedSite) (s : Site) (k : Text) (step : Step)
    (numbers : List ℕ) : Type 0 where
  pub number : ℕ
  pub is : IsNumberAt checked_sites numbers step number
  pub finds : Finds documents (Some number) (below documents s k step)

pub kept_sites_are : (documents : Documents)
    → map checked_site (sites documents) ≡ map (λ t. checked_site (site t)) (places_from 0 documents)
kept_sites_are documents = map-twice (places_from 0 documents)
  where
    map-twice : (xs : List SchemaPlace) → map checked_site (map site xs) ≡ map (λ t. checked_site (site t)) xs
    map-twice [] = refl
    map-twice (x ∷ xs) = ap (λ ys. checked_site (site x) ∷ ys) (map-twice xs)

-- the number of the place that stands where the step leads
pub finds_standing : (documents : Documents) → AreRead documents → (n : ℕ) (s : Site)
    (e : slice_get (sites documents) n ≡ Some s) (k : Text) (step : Step) (u : Value) → Holds s.schema k step u
    → (number : ℕ) → StandsAt (places_from 0 documents) (made_at site (places_from 0 documents) n s e).from.document
    ((made_at site (places_from 0 documents) n s e).from.spot.pointer ++ k ∷ step_tokens step) number
    → Finds documents (Some number) (below documents s k step)
finds_standing documents read n s e k step u h number stands =
    let all = places_from 0 documents in
    let made = made_at site all n s e in
    let place : slice_get (sites documents) number ≡ Some (site stands.place) = slice_get-map site all number
    ∙ ap (option_map site) stands.found in
    let there = held documents read.ordered read.short n s e k step u h in
    let document : stands.place.document ≡ s.document = stands.document ∙ ap (λ x. x.document) (sym made.is) in
    let pointer : stands.place.spot.pointer ≡ s.pointer ++ k ∷ step_tokens step = stands.pointer
    ∙ ap (λ x. x.pointer ++ k ∷ step_tokens step) (sym made.is) in
    let numbered : position_from (stands_at s.document (s.pointer ++ k ∷ step_tokens step)) 0
    (sites documents) ≡ Some number =
    ap (λ d. position_from (stands_at d (s.pointer ++ k ∷ step_tokens step)) 0 (sites documents)) (sym document)
    ∙ ap (λ p. position_from (stands_at stands.place.document p) 0 (sites documents)) (sym pointer)
    ∙ number_of documents read.ordered read.short number (site stands.place) place in
    let both : Some there.number ≡ Some number = sym there.numbered ∙ numbered in
    let same : there.number ≡ number = cc in
    (there.place, there.found, subst (λ m. slice_get (sites documents) m ≡ Some there.place) same there.stands)

pub found_by : (documents : Documents) → AreRead documents → (n : ℕ) (s : Site) → slice_get (sites documents) n ≡ Some s
    → (k : Text) (step : Step) (u : Value) → Holds s.schema k step u
    → IsFound documents (map checked_site (sites documents)) s k step
    (option_map_or (numbers_of_keyword (which_keyword k)) (slice_get (edges_from 0 documents) n) [])
found_by documents read n s e k step u h =
    let all = places_from 0 documents in
    let made = made_at site all n s e in
    let t = made.from in
    let root = root_of documents n t made.found in
    let holds : Holds t.spot.schema k step u = subst (λ x. Holds x.schema k step u) made.is h in
    let up = (standing documents read.ordered read.short n s e).ascends in
    let ascends = subst (λ x. NamesAscend x.schema) made.is up in
    let led = led_at all (map checked_site (sites documents)) t.document t.uri (kept_sites_are documents) n root.above
    t.spot.pointer t.spot.schema k step u ascends root.places holds in
    record {
      number = led.number;
      is = subst (λ o. IsNumberAt (map checked_site (sites documents))
          (option_map_or (numbers_of_keyword (which_keyword k)) o []) step led.number) (sym root.held) led.is;
      finds = finds_standing documents read n s e k step u h led.number led.stands;
    }

-- the number of a name, where its rank is known
pub name_rank : (checked_sites : List CheckedSite) (numbers : List ℕ) (name : Text) (rank n : ℕ)
    → ((m : ℕ) → IsRankOf checked_sites name numbers m → rank ≡ m) → IsNumberAt checked_sites numbers (Name name) n
    → slice_get numbers rank ≡ Some n
name_rank checked_sites numbers name rank n ranks h = ap (slice_get numbers) (ranks h.0 h.2) ∙ h.1

-- so what the code finds among the numbers that it keeps is what stands below
pub finds_by_number : (docs documents : Documents) (checked : List rust.CheckedSite) (edges : List Edges) (n place : ℕ)
    (k : Text) (step : Step) (which : Keyword) (numbers : List ℕ) (result : Option ℕ)
    → docs ≡ documents → n ≡ place → AreRead docs → map checked_site_of checked ≡ map checked_site (sites docs)
    → map edges_of edges ≡ edges_from 0 docs → which ≡ which_keyword k
    → numbers ≡ option_map_or (numbers_of_keyword which) (slice_get (map edges_of edges) n) []
    → ((m : ℕ) → IsNumberAt (map checked_site_of checked) numbers step m → result ≡ Some m)
    → (s : Site) (u : Value) → place_at documents place ≡ Some s → Holds s.schema k step u
    → Finds documents result (below documents s k step)
finds_by_number docs documents checked edges n place k step which numbers result same number read checked_sites has
    name are found s u e h =
    let f = found_by documents (subst (λ ds. AreRead ds) same read) place s e k step u h in
    let checked_sites_of : map checked_site_of checked ≡ map checked_site (sites documents) = checked_sites
    ∙ ap (λ ds. map checked_site (sites ds)) same in
    let numbers_are : numbers
    ≡ option_map_or (numbers_of_keyword (which_keyword k)) (slice_get (edges_from 0 documents) place) [] =
    are ∙ ap (λ w. option_map_or (numbers_of_keyword w) (slice_get (map edges_of edges) n) []) name ∙ ap
    (λ es. option_map_or (numbers_of_keyword (which_keyword k)) (slice_get es n) []) (has ∙ ap (edges_from 0) same)
    ∙ ap (λ m. option_map_or (numbers_of_keyword (which_keyword k)) (slice_get (edges_from 0 documents) m) []) number in
    let is : IsNumberAt (map checked_site_of checked) numbers step f.number =
    subst (λ xs. IsNumberAt xs numbers step f.number) (sym checked_sites_of)
    (subst (λ xs. IsNumberAt (map checked_site (sites documents)) xs step f.number) (sym numbers_are) f.is) in
    subst (λ r. Finds documents r (below documents s k step)) (sym (found f.number is)) f.finds
