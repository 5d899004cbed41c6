-- How the table of resources is made: the number of each place's, and what `$dynamicAnchor` names in each.
use Rattle.std.proofs.Common.{◌≡◌, ℕ, zero, suc, ◌+◌, ◌<◌, ◌≤◌, List, [], ◌∷◌, ◌++◌, Bool, true, false, ◌||◌}
use Rattle.std.proofs.Common.{◌==◌, cond, filter, map, length, take, drop, get_or, Option, Some, option_map}
use Rattle.std.proofs.Common.{option_and_then, option_to_list, unwrap_or, slice_get, nat_eq, codes}
use Rattle.std.proofs.Common.{if◌then◌else◌, refl, sym, ap, ap₂, ◌∙◌, subst, arith}
use Rattle.std.specs.List.{AllByRecursion, list_any, position_from}
use Rattle.std.specs.BTreeMap.{is_at}
use Rattle.std.specs.Map.{lookup}
use Rattle.std.proofs.lemmas.Map.Text.{text_cmp}
use Rattle.std.proofs.lemmas.Bool.{and_parts, eqb-true, eqb-false}
use Rattle.std.proofs.lemmas.List.{append-nil, drop_all, drop_more, length-map, length-take, take_all}
use Rattle.std.proofs.lemmas.Option.{slice_get-map, slice_get-get_or, slice_get_within}
use Rattle.js_doc.specs.Pointer.{Tokens}
use Rattle.js_bundle.specs.declared.index.numbering.Numbering.{Numbering}
use Rattle.js_bundle.specs.declared.scan.site.Site as rust
use Rattle.js_bundle.specs.code.Index.{AreInserted, FindsFirst}
use Rattle.js_bundle.specs.Keyword.{text_argument}
use Rattle.js_bundle.specs.Names.{belongs_to, same_tokens, stands_at}
use Rattle.js_bundle.specs.Resource.{Site}
use Rattle.js_bundle.specs.ResourceNumber.{begins_resource, roots, number_of_resource}
use Rattle.js_bundle.specs.ResourceTable.{AreAnchors, AreEmpty, AreNamed, AreRooted, IsOpened, StandApart}
use Rattle.js_bundle.specs.ResourceTable.{count_begun, dynamic_names, rank_of_root, ranks_by, ranks_from}
use Rattle.js_bundle.specs.code.Scan.{site_of}
use Rattle.js_bundle.proofs.Listing.PlacesApart.{all_as}
use Rattle.js_bundle.proofs.Listing.EachListedOnce.{tokens-refl, tokens-sound, at_place, stands_itself}
use Rattle.js_bundle.proofs.Indexing.IndexFinds.{first_next, none_put}
use Rattle.js_bundle.proofs.Indexing.FirstFound.{nat_eq-refl}
use Rattle.js_bundle.proofs.Indexing.PlaceNext.{map_take_more, piece_next}
use Rattle.js_bundle.proofs.Indexing.ResourceNumbers.{filtered, root_of_number}
use Rattle.js_bundle.proofs.Standing.{all_at}

-- ---- the rank of a root is its number

-- at most one passes
abbrev IsOnce : (Site → Bool) → List Site → Type 0
IsOnce f [] = Unit {0}
IsOnce f (x ∷ xs) = (f x ≡ true → AllByRecursion (λ s. ¬ (f s ≡ true)) xs) × IsOnce f xs

once_apart : (d : ℕ) (r : Tokens) (xs : List Site) → StandApart xs → IsOnce (stands_at d r) xs
once_apart d r [] h = tt
once_apart d r (x ∷ xs) h = (
  (λ e. let a = at_place d r x e in all_as (λ s. ¬ (stands_at x.document x.pointer s ≡ true)) (λ s. ¬ (stands_at d r
      s ≡ true)) (λ s n g. n (ap₂ (λ e q. stands_at e q s) a.document a.pointer ∙ g)) xs h.0),
  once_apart d r xs h.1,
)

none_passes : (f : Site → Bool) (xs : List Site) → AllByRecursion (λ s. ¬ (f s ≡ true)) xs
    → ¬ (list_any f (roots xs) ≡ true)
none_passes f [] h e = absurd (cc)
none_passes f (x ∷ xs) h e = by_root (begins_resource x) (f x) refl e (none_passes f xs h.1)
  where
    by_root : (d b : Bool) → f x ≡ b → list_any f (cond d (x ∷ roots xs) (roots xs)) ≡ true
        → ¬ (list_any f (roots xs) ≡ true) → ⊥
    by_root false b g e n = n e
    by_root true true g e n = h.0 g
    by_root true false g e n = n (sym (ap (λ c. c || list_any f (roots xs)) g) ∙ e)

record IsRanked (f : Site → Bool) (k c : ℕ) (xs : List Site) : Type 0 where
  pub index : ℕ
  pub first : position_from f k xs ≡ Some (k + index)
  pub rank : ℕ
  pub ranked : slice_get (ranks_from c xs) index ≡ Some rank
  pub number : position_from f c (roots xs) ≡ Some rank

module _ (f : Site → Bool) (x : Site) (xs : List Site) (k c : ℕ) where
  ranked_by : (b d : Bool) → f x ≡ b → begins_resource x ≡ d → ((m : ℕ) → list_any f (roots xs) ≡ true
      → IsRanked f (k + 1) m xs) → (f x ≡ true → AllByRecursion (λ s. ¬ (f s ≡ true)) xs)
      → list_any f (cond d (x ∷ roots xs) (roots xs)) ≡ true → IsRanked f k c (x ∷ xs)
  ranked_by true true e g more once h =
      record {
        index = 0;
        first = ap (λ b. cond b (Some k) (position_from f (k + 1) xs)) e ∙ ap Some (omega arith);
        rank = c;
        ranked = refl;
        number = ap (λ d. position_from f c (cond d (x ∷ roots xs) (roots xs))) g
            ∙ ap (λ b. cond b (Some c) (position_from f (c + 1) (roots xs))) e;
      }
  ranked_by true false e g more once h = absurd (none_passes f xs (once e) h)
  ranked_by false true e g more once h =
      let next = more (c + 1) (sym (ap (λ b. b || list_any f (roots xs)) e) ∙ h) in
      record {
        index = suc next.index;
        first = ap (λ b. cond b (Some k) (position_from f (k + 1) xs)) e ∙ next.first ∙ ap Some (omega arith);
        rank = next.rank;
        ranked = ap (λ d. slice_get (ranks_from (if d then c + 1 else c) xs) next.index) g ∙ next.ranked;
        number = ap (λ d. position_from f c (cond d (x ∷ roots xs) (roots xs))) g
            ∙ ap (λ b. cond b (Some c) (position_from f (c + 1) (roots xs))) e ∙ next.number;
      }
  ranked_by false false e g more once h =
      let next = more c h in
      record {
        index = suc next.index;
        first = ap (λ b. cond b (Some k) (position_from f (k + 1) xs)) e ∙ next.first ∙ ap Some (omega arith);
        rank = next.rank;
        ranked = ap (λ d. slice_get (ranks_from (if d then c + 1 else c) xs) next.index) g ∙ next.ranked;
        number = ap (λ d. position_from f c (cond d (x ∷ roots xs) (roots xs))) g ∙ next.number;
      }

ranked : (f : Site → Bool) (xs : List Site) (k c : ℕ) → IsOnce f xs → list_any f (roots xs) ≡ true → IsRanked f k c xs
ranked f [] k c once h = absurd (cc)
ranked f (x ∷ xs) k c once h =
    ranked_by f x xs k c (f x) (begins_resource x) refl refl (λ m g. ranked f xs (k + 1) m once.1 g) once.0 h

rank_is : (all : List Site) → StandApart all → (place : Site) → list_any (stands_at place.document place.own.resource)
    (roots all) ≡ true → Some (rank_of_root all place) ≡ number_of_resource all place
rank_is all apart place h =
    let test = stands_at place.document place.own.resource in
    let r = ranked test all 0 0 (once_apart place.document place.own.resource all apart) h in
    let index : 0 + r.index ≡ r.index = omega arith in
    ap (λ o. Some (unwrap_or (option_and_then (slice_get (ranks_from 0 all)) o) 0)) r.first
    ∙ ap (λ i. Some (unwrap_or (slice_get (ranks_from 0 all) i) 0)) index
    ∙ ap (λ o. Some (unwrap_or o 0)) r.ranked ∙ sym r.number

mapped : {A : Type 0} (f : Site → A) (g : Site → Option A) (xs : List Site) → AllByRecursion (λ s. Some (f s) ≡ g s) xs
    → map Some (map f xs) ≡ map g xs
mapped f g [] h = refl
mapped f g (x ∷ xs) h = ap₂ (λ y ys. y ∷ ys) h.0 (mapped f g xs h.1)

pub ranks_are_numbers : (all : List Site) → AreRooted all
    → map Some (map (rank_of_root all) all) ≡ map (number_of_resource all) all
ranks_are_numbers all h =
    mapped (rank_of_root all) (number_of_resource all) all
    (all_as (λ s. list_any (stands_at s.document s.own.resource) (roots all) ≡ true)
    (λ s. Some (rank_of_root all s) ≡ number_of_resource all s) (rank_is all h.apart) all h.rooted)

-- ---- the roots, one place further on

pub record AreOpened (marks : List Bool) (i : ℕ) (before : List ℕ) (opened : List Numbering) : Type 0 where
  pub ranks : before ++ ranks_by (length opened) (drop i marks) ≡ ranks_by 0 marks
  pub many : length opened + count_begun (drop i marks) ≡ count_begun marks
  pub empty : AreEmpty opened

rest_of : (b : Bool) (old new : ℕ) (rest : List Bool) (whole : ℕ) → new ≡ (if b then old + 1 else old)
    → old + count_begun (b ∷ rest) ≡ whole → new + count_begun rest ≡ whole
rest_of true old new rest whole e h = omega (arith, e, h)
rest_of false old new rest whole e h = omega (arith, e, h)

pub opened_next : (marks : List Bool) (i rank : ℕ) (begins : Bool) (old_ranks new_ranks : List ℕ)
    (old new : List Numbering) → i < length marks → begins ≡ get_or marks i begins
    → new_ranks ≡ old_ranks ++ rank ∷ [] → rank ≡ length old → IsOpened begins old new
    → AreOpened marks i old_ranks old → AreOpened marks (i + 1) new_ranks new
opened_next marks i rank begins old_ranks new_ranks old new low is pushed counted opened h =
    let rest = drop (i + 1) marks in
    let more : drop i marks ≡ begins ∷ rest = drop_more marks i begins low ∙ ap (λ b. b ∷ rest) (sym is) in
    record {
      ranks = piece_next old_ranks new_ranks (length old ∷ []) (ranks_by (length new) rest) (ranks_by 0 marks)
          (pushed ∙ ap (λ n. old_ranks ++ n ∷ []) counted)
          (ap (λ n. old_ranks ++ length old ∷ ranks_by n rest) opened.many
          ∙ subst (λ bs. old_ranks ++ ranks_by (length old) bs ≡ ranks_by 0 marks) more h.ranks);
      many = rest_of begins (length old) (length new) rest (count_begun marks) opened.many
          (subst (λ bs. length old + count_begun bs ≡ count_begun marks) more h.many);
      empty = opened.empty h.empty;
    }

pub ranks_whole : (marks : List Bool) (i : ℕ) (ranks : List ℕ) (opened : List Numbering) → length marks ≤ i
    → AreOpened marks i ranks opened → ranks ≡ ranks_by 0 marks
ranks_whole marks i ranks opened low h = sym (append-nil ranks)
    ∙ ap (λ bs. ranks ++ ranks_by (length opened) bs) (sym (drop_all i marks low)) ∙ h.ranks

pub many_whole : (marks : List Bool) (i : ℕ) (ranks : List ℕ) (opened : List Numbering) → length marks ≤ i
    → AreOpened marks i ranks opened → length opened ≡ count_begun marks
many_whole marks i ranks opened low h =
    let many : length opened + 0 ≡ count_begun marks =
    subst (λ bs. length opened + count_begun bs ≡ count_begun marks) (drop_all i marks low) h.many in
    omega (arith, many)

-- as many as there are roots
pub begun_are_roots : (all : List Site) → count_begun (map begins_resource all) ≡ length (roots all)
begun_are_roots [] = refl
begun_are_roots (x ∷ xs) = by_test (begins_resource x) (begun_are_roots xs)
  where
    by_test : (b : Bool) → count_begun (map begins_resource xs) ≡ length (roots xs)
        → count_begun (b ∷ map begins_resource xs) ≡ length (cond b (x ∷ roots xs) (roots xs))
    by_test true e = ap suc e
    by_test false e = e

-- ---- the number of a root

all_filter : {A : Type 0} (P : A → Type 0) (f : A → Bool) (xs : List A) → AllByRecursion P xs
    → AllByRecursion P (filter f xs)
all_filter P f [] h = tt
all_filter P f (x ∷ xs) h = by_test (f x) (all_filter P f xs h.1)
  where
    by_test : (b : Bool) → AllByRecursion P (filter f xs) → AllByRecursion P (cond b (x ∷ filter f xs) (filter f xs))
    by_test true g = (h.0, g)
    by_test false g = g

apart_filter : (f : Site → Bool) (xs : List Site) → StandApart xs → StandApart (filter f xs)
apart_filter f [] h = tt
apart_filter f (x ∷ xs) h =
    by_test (f x) (all_filter (λ s. ¬ (stands_at x.document x.pointer s ≡ true)) f xs h.0) (apart_filter f xs h.1)
  where
    by_test : (b : Bool) → AllByRecursion (λ s. ¬ (stands_at x.document x.pointer s ≡ true)) (filter f xs)
        → StandApart (filter f xs) → StandApart (cond b (x ∷ filter f xs) (filter f xs))
    by_test true g k = (g, k)
    by_test false g k = k

other_place : (x root : Site) (b : Bool) → stands_at root.document root.pointer x ≡ b
    → ¬ (stands_at x.document x.pointer root ≡ true) → stands_at root.document root.pointer x ≡ false
other_place x root false e n = e
other_place x root true e n =
    let a = at_place root.document root.pointer x e in
    absurd (n (ap₂ (λ d p. stands_at d p root) a.document a.pointer ∙ stands_itself root))

number_in : (root : Site) (xs : List Site) (n k m : ℕ) → m ≡ k + n → StandApart xs → slice_get xs n ≡ Some root
    → position_from (stands_at root.document root.pointer) k xs ≡ Some m
number_in root [] n k m is h e = absurd (cc)
number_in root (x ∷ xs) zero k m is h e =
    let same : x ≡ root = cc in
    let here : stands_at root.document root.pointer x ≡ true = ap (λ y. stands_at root.document root.pointer y) same
    ∙ stands_itself root in
    let number : k ≡ m = omega (arith, is) in
    ap (λ b. cond b (Some k) (position_from (stands_at root.document root.pointer) (k + 1) xs)) here ∙ ap Some number
number_in root (x ∷ xs) (suc n) k m is h e =
    let other = other_place x root (stands_at root.document root.pointer x) refl
    (all_at (λ s. ¬ (stands_at x.document x.pointer s ≡ true)) xs n root h.0 e) in
    ap (λ b. cond b (Some k) (position_from (stands_at root.document root.pointer) (k + 1) xs)) other
    ∙ number_in root xs n (k + 1) m (omega (arith, is)) h.1 e

-- the root of the resource that begins at a place is the place
pub root_itself : (all : List Site) (n : ℕ) (place : Site) → StandApart all → slice_get all n ≡ Some place
    → begins_resource place ≡ true
    → position_from (stands_at place.document place.own.resource) 0 all ≡ Some n
root_itself all n place h e begins =
    ap (λ p. position_from (stands_at place.document p) 0 all)
    (sym (tokens-sound place.pointer place.own.resource begins)) ∙ number_in place all n 0 n (omega arith) h e

pub root_rank : (all : List Site) (n : ℕ) (place : Site) (ranks : List ℕ) (rank : ℕ) → StandApart all
    → ranks ≡ ranks_from 0 all → slice_get all n ≡ Some place → begins_resource place ≡ true
    → rank ≡ unwrap_or (slice_get ranks n) 0 → rank ≡ rank_of_root all place
root_rank all n place ranks rank h same e begins is =
    is ∙ ap (λ rs. unwrap_or (slice_get rs n) 0) same ∙ ap
    (λ o. unwrap_or (option_and_then (slice_get (ranks_from 0 all)) o) 0) (sym (root_itself all n place h e begins))

-- marks say of each place whether it is a root
pub root_marked : (all : List Site) (n : ℕ) (place : Site) (marks : List Bool) (answer : Bool)
    → marks ≡ map begins_resource all → slice_get all n ≡ Some place
    → answer ≡ unwrap_or (slice_get marks n) false → answer ≡ true → begins_resource place ≡ true
root_marked all n place marks answer same e is h =
    let there : unwrap_or (slice_get (map begins_resource all) n) false ≡ begins_resource place =
    ap (λ o. unwrap_or o false) (slice_get-map begins_resource all n)
    ∙ ap (λ o. unwrap_or (option_map begins_resource o) false) e in
    sym there ∙ ap (λ bs. unwrap_or (slice_get bs n) false) (sym same) ∙ sym is ∙ h

-- places of one resource have one rank
pub same_rank : (all : List Site) (before place : Site) → belongs_to place.document place.own.resource before ≡ true
    → rank_of_root all before ≡ rank_of_root all place
same_rank all before place e =
    let parts = and_parts _ _ e in
    ap₂ (λ d r. unwrap_or (option_and_then (slice_get (ranks_from 0 all)) (position_from (stands_at d r) 0 all)) 0)
    (eqb-true before.document place.document parts.0) (tokens-sound before.own.resource place.own.resource parts.1)

-- each root's resource has the root's number
pub number_of_root : (all : List Site) (n : ℕ) (root : Site) → StandApart all → slice_get (roots all) n ≡ Some root
    → number_of_resource all root ≡ Some n
number_of_root all n root h e =
    let begins = all_at (λ x. begins_resource x ≡ true) (roots all) n root (filtered begins_resource all) e in
    ap (λ p. position_from (stands_at root.document p) 0 (roots all))
    (sym (tokens-sound root.pointer root.own.resource begins))
    ∙ number_in root (roots all) n 0 n (omega arith) (apart_filter begins_resource all h) e

-- ---- the names, one place further on

pub none_named : (all : List Site) (anchors : List Numbering) → length anchors ≡ length (roots all) → AreEmpty anchors
    → AreAnchors (roots all) anchors []
none_named all anchors many h = record {
  many = many;
  first = λ n root names e g. record
      { first = λ key. ap (lookup (is_at (text_cmp key))) (all_at (λ a. a.first.entries ≡ []) anchors n names h g) };
}

belongs_is : (root place : Site) → root.document ≡ place.document → root.own.resource ≡ place.own.resource
    → belongs_to root.document root.own.resource place ≡ true
belongs_is root place e g =
    ap₂ (λ d r. belongs_to d r place) e g ∙ rw (nat_eq-refl place.document, tokens-refl place.own.resource) refl

module _ (all : List Site) (rooted : AreRooted all) (old new : List Numbering) (before : List Site) (place : Site)
    (i m : ℕ) (count : i ≡ length before)
    (number : number_of_resource all place ≡ Some m) (put : AreNamed old m (option_to_list
    (text_argument (codes "$dynamicAnchor") place.schema)) i new) (h : AreAnchors (roots all) old before) where
  -- in the place's own resource
  named_here : (root : Site) (b : Numbering) → slice_get (roots all) m ≡ Some root → slice_get new m ≡ Some b
      → FindsFirst (dynamic_names root) b (before ++ place ∷ [])
  named_here root b e g =
      let r = root_of_number all place m number in
      let both : Some r.root ≡ Some root = sym r.found ∙ e in
      let is : r.root ≡ root = cc in
      let belongs = belongs_is root place (ap (λ x. x.document) (sym is) ∙ r.document)
      (ap (λ x. x.own.resource) (sym is) ∙ r.resource) in
      let a = get_or old m b in
      let high = slice_get_within new m b g in
      let low : m < length old = omega (arith, high, put.many) in
      let there : slice_get old m ≡ Some a = slice_get-get_or old m b low in
      let names : option_to_list (text_argument (codes "$dynamicAnchor") place.schema) ≡ dynamic_names root place =
      sym (ap (λ c. if c then option_to_list (text_argument (codes "$dynamicAnchor") place.schema) else []) belongs) in
      first_next (dynamic_names root) a b before place i count (h.first m root a e there)
      (subst (λ keys. AreInserted a keys i b) names (put.here a b there g))

  -- in another
  named_beside : (n : ℕ) (root : Site) (b : Numbering) → ¬ (n ≡ m) → slice_get (roots all) n ≡ Some root
      → slice_get new n ≡ Some b → FindsFirst (dynamic_names root) b (before ++ place ∷ [])
  named_beside n root b other e g =
      let none : dynamic_names root place ≡ [] = ap (λ c. if c then option_to_list (text_argument (codes
      "$dynamicAnchor") place.schema) else []) (apart (belongs_to root.document root.own.resource place) refl) in
      first_next (dynamic_names root) b b before place i count (h.first n root b e (sym (put.others n other) ∙ g))
      (subst (λ keys. AreInserted b keys i b) (sym none) (none_put b i))
    where
      apart : (c : Bool) → belongs_to root.document root.own.resource place ≡ c
          → belongs_to root.document root.own.resource place ≡ false
      apart false f = f
      apart true f =
          let parts = and_parts (place.document == root.document)
          (same_tokens place.own.resource root.own.resource) f in
          let same : number_of_resource all place ≡ number_of_resource all root =
          ap₂ (λ d r. position_from (stands_at d r) 0 (roots all)) (eqb-true place.document root.document parts.0)
          (tokens-sound place.own.resource root.own.resource parts.1) in
          let numbers : Some n ≡ Some m = sym (number_of_root all n root rooted.apart e) ∙ sym same ∙ number in
          absurd (other cc)

  named_at : (n : ℕ) (root : Site) (b : Numbering) (c : Bool) → nat_eq n m ≡ c → slice_get (roots all) n ≡ Some root
      → slice_get new n ≡ Some b → FindsFirst (dynamic_names root) b (before ++ place ∷ [])
  named_at n root b true e f g =
      let same : n ≡ m = eqb-true n m e in
      named_here root b (ap (slice_get (roots all)) (sym same) ∙ f) (ap (slice_get new) (sym same) ∙ g)
  named_at n root b false e f g = named_beside n root b (eqb-false n m e) f g

  pub named_more : AreAnchors (roots all) new (before ++ place ∷ [])
  named_more = record { many = put.many ∙ h.many; first = λ n root b e g. named_at n root b (nat_eq n m) refl e g }

-- the same of the code's lists
pub number_under : (ss : List rust.Site) (numbers : List ℕ) (i : ℕ) (x : rust.Site)
    → map Some numbers ≡ map (number_of_resource (map site_of ss)) (map site_of ss) → i < length ss → x ≡ get_or ss i x
    → number_of_resource (map site_of ss) (site_of x) ≡ Some (get_or numbers i 0)
number_under ss numbers i x e low is =
    let all = map site_of ss in
    let n = get_or numbers i 0 in
    let many : length numbers ≡ length ss = sym (length-map numbers Some) ∙ ap length e
    ∙ length-map all (number_of_resource all) ∙ length-map ss site_of in
    let within : i < length numbers = omega (arith, low, many) in
    let left : slice_get (map Some numbers) i ≡ Some (Some n) = slice_get-map Some numbers i
    ∙ ap (option_map Some) (slice_get-get_or numbers i 0 within) in
    let right : slice_get (map (number_of_resource all) all) i ≡ Some (number_of_resource all (site_of x)) =
    slice_get-map (number_of_resource all) all i ∙ ap (option_map (number_of_resource all))
    (slice_get-map site_of ss i ∙ ap (option_map site_of) (slice_get-get_or ss i x low ∙ ap Some (sym is))) in
    let both : Some (number_of_resource all (site_of x)) ≡ Some (Some n) = sym right
    ∙ ap (λ l. slice_get l i) (sym e) ∙ left in
    cc

pub resource_there : (ss : List rust.Site) (i n : ℕ) (x : rust.Site) (anchors : List Numbering) → number_of_resource
    (map site_of ss) (site_of x) ≡ Some n → length anchors ≡ length (roots (map site_of ss)) → n < length anchors
resource_there ss i n x anchors e many =
    let r = root_of_number (map site_of ss) (site_of x) n e in
    let low = slice_get_within (roots (map site_of ss)) n r.root r.found in
    omega (arith, low, many)

pub named_next : (ss : List rust.Site) (numbers : List ℕ) (i : ℕ) (x : rust.Site) (old new : List Numbering)
    → AreRooted (map site_of ss)
    → map Some numbers ≡ map (number_of_resource (map site_of ss)) (map site_of ss) → i < length ss → x ≡ get_or ss i x
    → AreNamed old (get_or numbers i 0) (option_to_list (text_argument (codes "$dynamicAnchor") (site_of x).schema)) i
    new → AreAnchors (roots (map site_of ss)) old (map site_of (take i ss))
    → AreAnchors (roots (map site_of ss)) new (map site_of (take (i + 1) ss))
named_next ss numbers i x old new rooted e low is put h =
    let count : length (take i ss) ≡ i = let t = length-take i ss in omega (arith, low, t) in
    let number : i ≡ length (map site_of (take i ss)) = sym count ∙ sym (length-map (take i ss) site_of) in
    subst (AreAnchors (roots (map site_of ss)) new) (sym (map_take_more site_of ss i x low is))
    (named_more (map site_of ss) rooted old new (map site_of (take i ss)) (site_of x) i (get_or numbers i 0) number
    (number_under ss numbers i x e low is) put h)

pub named_whole : (ss : List rust.Site) (i : ℕ) (anchors : List Numbering) → length ss ≤ i → AreAnchors (roots
    (map site_of ss)) anchors (map site_of (take i ss)) → AreAnchors (roots (map site_of ss)) anchors (map site_of ss)
named_whole ss i anchors low h =
    subst (λ l. AreAnchors (roots (map site_of ss)) anchors (map site_of l)) (take_all i ss low) h
