-- What a keyword holds stands at the number that has its rank among those that are kept of the keyword.
use Rattle.std.proofs.Common.{◌≡◌, ℕ, zero, suc, List, [], ◌∷◌, ◌++◌, map, inl, inr, Option, Some, None, MatchOption}
use Rattle.std.proofs.Common.{option_map, option_and_then, slice_get, refl, sym, ap, ◌∙◌, subst}
use Rattle.std.specs.Option.{option_map_or}
use Rattle.js_doc.specs.Members.{get, NamesAscend, NamesAscendInMembers}
use Rattle.js_doc.specs.Pointer.{Tokens}
use Rattle.js_doc.specs.Value.{Value, null, truth, whole, text, list, object, Members, no_members, member}
use Rattle.js_doc.specs.Parts.{member_list, members_of}
use Rattle.js_doc.proofs.FiniteMaps.{get_here, get_past}
use Rattle.url.specs.Parts.{Parts}
use Rattle.js_bundle.specs.declared.index.edges.Edges.{Edges}
use Rattle.js_keyword.specs.declared.argument_form.Holding.TheVariants.{Named}
use Rattle.js_keyword.specs.declared.keyword.Keyword.{Keyword}
use Rattle.js_bundle.specs.Document.{Documents}
use Rattle.js_bundle.specs.Keyword.{Text, argument}
use Rattle.js_keyword.specs.Keyword.{which_keyword}
use Rattle.js_bundle.specs.Place.{holding, Located, SchemaPlace, places_held, places_at}
use Rattle.js_bundle.specs.Place.{places_in_list, places_in_object, places_from}
use Rattle.js_bundle.specs.Ranked.{HoldsAtRank}
use Rattle.js_bundle.specs.Resource.{Site, site, sites}
use Rattle.js_bundle.specs.PlaceNumber.{place_at}
use Rattle.js_bundle.specs.Schemas.{Finds, Holds, Step, Alone, Index, Name, below}
use Rattle.js_bundle.specs.Seen.{AreRead}
use Rattle.js_bundle.specs.code.Edges.{edges_from, edges_of, held_by_place, numbers_held}
use Rattle.js_bundle.specs.code.PlaceBelow.{numbers_of_keyword}
use Rattle.js_bundle.specs.code.CheckedSite.{CheckedSite, checked_site}
use Rattle.js_bundle.proofs.Listing.PlacesCounted.{StandsFrom, root_of}
use Rattle.js_bundle.proofs.Finding.HeldIsFound.{held_found}
use Rattle.js_bundle.proofs.Finding.HeldByNumber.{are_named, argument_ascends, finds_standing, found_by}
use Rattle.js_bundle.proofs.Finding.HeldByNumber.{holds_object, keyword_at, kept_sites_are}
use Rattle.js_bundle.proofs.Finding.HeldHasNumber.{StandsAt, KeywordThere}
use Rattle.js_bundle.proofs.Listing.LeastSetListed.{Among}
use Rattle.js_bundle.proofs.Listing.PlacesApart.{below_all, less_apart}
use Rattle.js_bundle.proofs.Finding.RankOfName.{some_is}
use Rattle.js_bundle.proofs.SchemaBelow.{is_one, is_listed, is_named}
use Rattle.js_bundle.proofs.Finding.StepsFit.{applies_fits}
use Rattle.js_bundle.proofs.Standing.{standing, made_at}

-- ---- a member with a rank is the one of its name

among_at : (ms : Members) (r : ℕ) (n : Text) (u : Value) → slice_get (member_list ms) r ≡ Some (n, u)
    → Among (n, u) (member_list ms)
among_at no_members r n u e = absurd (cc)
among_at (member l v ms) zero n u e = inl (sym (some_is (l, v) (n, u) e))
among_at (member l v ms) (suc r) n u e = inr (among_at ms r n u e)

get_at : (ms : Members) (r : ℕ) (n : Text) (u : Value) → NamesAscendInMembers ms
    → slice_get (member_list ms) r ≡ Some (n, u) → get n (member_list ms) ≡ Some u
get_at no_members r n u a e = absurd (cc)
get_at (member l v ms) zero n u a e =
    subst (λ x. get x.0 ((l, v) ∷ member_list ms) ≡ Some x.1) (some_is (l, v) (n, u) e) (get_here l v (member_list ms))
get_at (member l v ms) (suc r) n u a e =
    get_past n (l, v) (member_list ms)
    (λ same. less_apart l n (below_all l ms a.0 a.2 n u (among_at ms r n u e)) (sym same)) ∙ get_at ms r n u a.2 e

argument_at : (l : Value) (r : ℕ) (n : Text) (u : Value) → NamesAscend l → slice_get (members_of l) r ≡ Some (n, u)
    → argument n l ≡ Some u
argument_at null r n u a e = absurd (cc)
argument_at (truth b) r n u a e = absurd (cc)
argument_at (whole z) r n u a e = absurd (cc)
argument_at (text t) r n u a e = absurd (cc)
argument_at (list vs) r n u a e = absurd (cc)
argument_at (object ms) r n u a e = get_at ms r n u a e

holds_ranked : (v : Value) (k : Text) (step : Step) (r : ℕ) (u : Value) → NamesAscend v
    → HoldsAtRank v k step r u → Holds v k step u
holds_ranked v k Alone r u a h = (is_one (holding k) (applies_fits k Alone h.0), h.1.1 ∙ ap Some h.1.2.0)
holds_ranked v k (Index i) r u a h = (is_listed (holding k) i (applies_fits k (Index i) h.0), (h.1.0, h.1.1, h.1.2.0))
holds_ranked v k (Name n) r u a h = (
  is_named (holding k) n (applies_fits k (Name n) h.0),
  (h.1.0, h.1.1, argument_at h.1.0 r n u (argument_ascends v k h.1.0 a h.1.1) h.1.2),
)

-- ---- the number with that rank

pub record IsRanked (documents : Documents) (s : Site) (k : Text) (step : Step) (r : ℕ)
    (numbers : List ℕ) : Type 0 where
  pub number : ℕ
  pub is : slice_get numbers r ≡ Some number
  pub finds : Finds documents (Some number) (below documents s k step)

two_tokens : (p : Tokens) (k n : Text) → (p ++ k ∷ []) ++ n ∷ [] ≡ p ++ k ∷ n ∷ []
two_tokens [] k n = refl
two_tokens (x ∷ p) k n = ap (λ q. x ∷ q) (two_tokens p k n)

module _ (all : List SchemaPlace) (checked_sites : List CheckedSite) (d : ℕ) (uri : Parts)
    (are : checked_sites ≡ map (λ t. checked_site (site t)) all) where
  member_ranked : (above : List Located) (p : Tokens) (k name : Text) (l u : Value) (r : ℕ) (numbers : List ℕ)
      → holding k ≡ Named → slice_get (members_of l) r ≡ Some (name, u)
      → KeywordThere all d uri above p k l numbers
      → (m : ℕ) × (slice_get numbers r ≡ Some m) × StandsAt all d (p ++ k ∷ name ∷ []) m
  member_ranked above p k name null u r numbers e g h = absurd (cc)
  member_ranked above p k name (truth b) u r numbers e g h = absurd (cc)
  member_ranked above p k name (whole z) u r numbers e g h = absurd (cc)
  member_ranked above p k name (text t) u r numbers e g h = absurd (cc)
  member_ranked above p k name (list vs) u r numbers e g h = absurd (cc)
  member_ranked above p k name (object ms) u r numbers e g h =
      let q = p ++ k ∷ [] in
      let places = subst (λ x. StandsFrom (places_held x (places_at d uri above q (object ms)) (places_in_list d uri
      above q (object ms)) (places_in_object d uri above q (object ms))) h.first all) e h.places in
      let m = (are_named all d uri ms above p k h.first places).named r name u g in
      (m.0, ap (λ xs. slice_get xs r) (h.are ∙ ap (λ x. numbers_held x h.first (object ms)) e) ∙ m.1, m.2)

  pub ranked_at : (n : ℕ) (above : List Located) (p : Tokens) (v : Value) (k name : Text) (l u : Value) (r : ℕ)
      → StandsFrom (places_at d uri above p v) n all → holding k ≡ Named
      → argument k v ≡ Some l → slice_get (members_of l) r ≡ Some (name, u) → (m : ℕ) × (slice_get
      (numbers_of_keyword (which_keyword k) (held_by_place n v)) r ≡ Some m) × StandsAt all d (p ++ k ∷ name ∷ []) m
  ranked_at n above p v k name l u r s e f g =
      let there = keyword_at all checked_sites d uri are n above p v k l s f (holds_object k e) in
      member_ranked there.0 p k name l u r (numbers_of_keyword (which_keyword k) (held_by_place n v)) e g there.1

pub ranked_by : (documents : Documents) → AreRead documents → (n : ℕ) (s : Site) → slice_get (sites documents) n
    ≡ Some s → (k : Text) (step : Step) (r : ℕ) (u : Value) → HoldsAtRank s.schema k step r u
    → IsRanked documents s k step r
    (option_map_or (numbers_of_keyword (which_keyword k)) (slice_get (edges_from 0 documents) n) [])
ranked_by documents read n s e k Alone r u h =
    let ascends = (standing documents read.ordered read.short n s e).ascends in
    let f = found_by documents read n s e k Alone u (holds_ranked s.schema k Alone r u ascends h) in
    let numbers = option_map_or (numbers_of_keyword (which_keyword k)) (slice_get (edges_from 0 documents) n) [] in
    record
    { number = f.number; is = subst (λ i. slice_get numbers i ≡ Some f.number) (sym h.1.2.1) f.is; finds = f.finds }
ranked_by documents read n s e k (Index i) r u h =
    let ascends = (standing documents read.ordered read.short n s e).ascends in
    let f = found_by documents read n s e k (Index i) u (holds_ranked s.schema k (Index i) r u ascends h) in
    let numbers = option_map_or (numbers_of_keyword (which_keyword k)) (slice_get (edges_from 0 documents) n) [] in
    record
    { number = f.number; is = subst (λ j. slice_get numbers j ≡ Some f.number) (sym h.1.2.1) f.is; finds = f.finds }
ranked_by documents read n s e k (Name name) r u h =
    let all = places_from 0 documents in
    let made = made_at site all n s e in
    let t = made.from in
    let root = root_of documents n t made.found in
    let ascends = (standing documents read.ordered read.short n s e).ascends in
    let at : HoldsAtRank t.spot.schema k (Name name) r u =
    subst (λ x. HoldsAtRank x.schema k (Name name) r u) made.is h in
    let m = ranked_at all (map checked_site (sites documents)) t.document t.uri (kept_sites_are documents) n root.above
    t.spot.pointer t.spot.schema k name at.1.0 u r root.places
    (is_named (holding k) name (applies_fits k (Name name) at.0)) at.1.1 at.1.2 in
    record {
      number = m.0;
      is = subst (λ o. slice_get (option_map_or (numbers_of_keyword (which_keyword k)) o []) r
          ≡ Some m.0) (sym root.held) m.1;
      finds = finds_standing documents read n s e k (Name name) u
          (holds_ranked s.schema k (Name name) r u ascends h) m.0 m.2;
    }

-- ---- as the code finds it

finds_at : (documents : Documents) (place : ℕ) (k : Text) (step : Step) (r : ℕ) (v u : Value) (result : Option ℕ)
    → (o : Option Site) → place_at documents place ≡ o → option_map (λ s. s.schema) o ≡ Some v
    → HoldsAtRank v k step r u → ((s : Site) → place_at documents place ≡ Some s → HoldsAtRank s.schema k step r u
    → Finds documents result (below documents s k step))
    → Finds documents result (option_and_then (λ s. below documents s k step) o)
finds_at documents place k step r v u result None is e h found = absurd (cc)
finds_at documents place k step r v u result (Some s) is e h found =
    let same : v ≡ s.schema = cc in
    found s is (subst (λ x. HoldsAtRank x k step r u) same h)

pub finds_ranked : (docs documents : Documents) (edges : List Edges) (n place : ℕ) (k : Text) (step : Step) (r : ℕ)
    (v u : Value) (which : Keyword) (numbers : List ℕ) (result : Option ℕ)
    → docs ≡ documents → n ≡ place → AreRead docs → map edges_of edges ≡ edges_from 0 docs → which ≡ which_keyword k
    → numbers ≡ option_map_or (numbers_of_keyword which) (slice_get (map edges_of edges) n) []
    → ((m : ℕ) → slice_get numbers r ≡ Some m → result ≡ Some m)
    → option_map (λ s. s.schema) (place_at documents place) ≡ Some v → HoldsAtRank v k step r u
    → Finds documents result (option_and_then (λ s. below documents s k step) (place_at documents place))
finds_ranked docs documents edges n place k step r v u which numbers result same number read has name are found e h =
    let numbers_are : numbers
    ≡ option_map_or (numbers_of_keyword (which_keyword k)) (slice_get (edges_from 0 documents) place) [] =
    are ∙ ap (λ w. option_map_or (numbers_of_keyword w) (slice_get (map edges_of edges) n) []) name ∙ ap
    (λ es. option_map_or (numbers_of_keyword (which_keyword k)) (slice_get es n) []) (has ∙ ap (edges_from 0) same)
    ∙ ap (λ m. option_map_or (numbers_of_keyword (which_keyword k)) (slice_get (edges_from 0 documents) m) []) number in
    finds_at documents place k step r v u result (place_at documents place) refl e h
    (λ s is g.
    let f = ranked_by documents (subst (λ ds. AreRead ds) same read) place s is k step r u g in
    subst (λ o. Finds documents o (below documents s k step))
    (sym (found f.number (ap (λ xs. slice_get xs r) numbers_are ∙ f.is))) f.finds)

schema_at : (docs documents : Documents) → docs ≡ documents → AreRead docs → (place : ℕ) (k : Text) (step : Step)
    (r : ℕ) (v u : Value) (n : ℕ) → (o : Option Site) → place_at documents place ≡ o
    → option_map (λ s. s.schema) o ≡ Some v → HoldsAtRank v k step r u
    → Finds documents (Some n) (option_and_then (λ s. below documents s k step) (place_at documents place))
    → option_map (λ s. s.schema) (place_at documents n) ≡ Some u
schema_at docs documents same read place k step r v u n None is e h found = absurd (cc)
schema_at docs documents same read place k step r v u n (Some s) is e h found =
    let all : AreRead documents = subst (λ ds. AreRead ds) same read in
    let it : v ≡ s.schema = cc in
    let ascends = (standing documents all.ordered all.short place s is).ascends in
    let holds = holds_ranked s.schema k step r u ascends (subst (λ x. HoldsAtRank x k step r u) it h) in
    let there = held_found docs documents same read place k step (Some n) found s u is holds in
    ap (option_map (λ s. s.schema)) there.1 ∙ ap Some there.2

-- and what is held stands there
pub schema_ranked : (docs documents : Documents) → docs ≡ documents → AreRead docs
    → (place : ℕ) (k : Text) (step : Step) (r : ℕ) (v u : Value) (result : Option ℕ)
    → option_map (λ s. s.schema) (place_at documents place) ≡ Some v → HoldsAtRank v k step r u
    → Finds documents result (option_and_then (λ s. below documents s k step) (place_at documents place))
    → MatchOption result (Unit {0}) (λ n. option_map (λ s. s.schema) (place_at documents n) ≡ Some u)
schema_ranked docs documents same read place k step r v u None e h found = tt
schema_ranked docs documents same read place k step r v u (Some n) e h found =
    schema_at docs documents same read place k step r v u n (place_at documents place) refl e h found
