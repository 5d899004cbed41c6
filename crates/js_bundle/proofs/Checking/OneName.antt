-- Where documents aren't refused, a URI names at most one place.
use Rattle.std.proofs.Common.{◌≡◌, ℕ, zero, suc, ◌<◌, List, [], ◌∷◌, ◌++◌, length, Bool, true, false, not, ◌&&◌}
use Rattle.std.proofs.Common.{◌||◌, ◌==◌, nat_lt, nat_le, ◌⊎◌, inl, inr, codes, bytes_eq, if◌then◌else◌, Ok, Err}
use Rattle.std.proofs.Common.{Option, Some, None, option_map, option_and_then, is_some, slice_get, take, refl, sym}
use Rattle.std.proofs.Common.{ap, ◌∙◌, subst, append_assoc, arith}
use Rattle.std.specs.List.{flat_map, list_any, position_from}
use Rattle.std.specs.Option.{option_map_or}
use Rattle.std.proofs.lemmas.Bool.{and_parts, eqb-true}
use Rattle.std.proofs.lemmas.List.{append-nil}
use Rattle.url.specs.Parts.{Parts}
use Rattle.url.specs.Parser.{Parsed, parse_url}
use Rattle.js_doc.specs.Pointer.{Tokens}
use Rattle.js_doc.specs.PointerReading.{pointer_of}
use Rattle.js_doc.specs.Value.{Value, null, truth, whole, text, list, object}
use Rattle.js_doc.specs.Parts.{members_of}
use Rattle.js_doc.proofs.TokenLookup.{is_text-sound}
use Rattle.js_keyword.proofs.KeywordNames.{which_by_name}
use Rattle.js_keyword.specs.Keyword.{which_keyword}
use Rattle.js_keyword.specs.declared.keyword.Keyword.{Keyword}
use Rattle.js_keyword.specs.declared.keyword.Keyword.TheVariants.{Other}
use Rattle.js_keyword.specs.declared.other_keyword.OtherKeyword.TheVariants.{Id, Anchor, DynamicAnchor}
use Rattle.js_bundle.specs.declared.refusal.RefusalKind.TheVariants.{BadAnchor, BadId, BadKeyword}
use Rattle.js_bundle.specs.declared.refusal.RefusalKind.TheVariants.{DuplicateAnchor, DuplicateUri, NotASchema}
use Rattle.js_bundle.specs.declared.refusal.RefusalKind.TheVariants.{TooManyPlaces, UriTooLong}
use Rattle.js_bundle.specs.Candidate.{IsClear}
use Rattle.js_bundle.specs.Document.{Documents}
use Rattle.js_bundle.specs.Shape.{is_shaped, is_schema}
use Rattle.js_bundle.specs.Keyword.{Text, argument, as_text}
use Rattle.js_bundle.specs.NameLaws.{AreOne}
use Rattle.js_bundle.specs.Names.{same_tokens, is_root, is_known_as, root_named, stands_at}
use Rattle.js_bundle.specs.Names.{belongs_to, makes, by_pointer, by_anchor, by_dynamic_anchor}
use Rattle.js_bundle.specs.Names.{is_pointer, is_named_by, names, is_anchor_name}
use Rattle.js_bundle.specs.Place.{SchemaPlace, places_from}
use Rattle.js_bundle.specs.Refusals.{when, decided, is_taken, is_made, rules_of_text, text_rules, name_rules}
use Rattle.js_bundle.specs.Refusals.{assertion_rules, at_joined_id, at_id, at_place, at_member, at_site}
use Rattle.js_bundle.specs.Refusals.{first_pass, second_pass, candidates, most_places}
use Rattle.js_bundle.specs.Url.{is_empty}
use Rattle.js_bundle.specs.Resource.{Site, site, sites, joined, identified_by, identified, scope_or}
use Rattle.js_bundle.specs.Seen.{AreRead}
use Rattle.js_bundle.specs.Url.{longest_uri, without_fragment, printed, raw_fragment, decoded_fragment, parsed}
use Rattle.js_bundle.proofs.Listing.EachListedOnce.{at_place as standing_at, number_of, tokens-sound}
use Rattle.js_bundle.proofs.Finding.HeldIsFound.{get_among}
use Rattle.js_bundle.proofs.Listing.LeastSetListed.{Among}
use Rattle.js_bundle.proofs.Standing.{made_at}
use Rattle.js_bundle.proofs.Checking.CheckStops.{clear_here, clear_there}
use Rattle.js_bundle.proofs.Checking.TargetsFound.{never, not_when, clear_among}

-- ---- a place of which the rules are clear, and one before it

clear_of : (before all : List Site) (m : ℕ) (t : Site) → IsClear (first_pass before all) → slice_get all m ≡ Some t
    → IsClear (at_site (before ++ take m all) t)
clear_of before [] m t h e = absurd (cc)
clear_of before (x ∷ all) zero t h e =
    let same : x ≡ t = cc in
    subst (λ b. IsClear (at_site b t)) (sym (append-nil before)) (subst (λ y. IsClear (at_site before y)) same
    (clear_here (at_site before x) (first_pass (before ++ x ∷ []) all) h))
clear_of before (x ∷ all) (suc m) t h e =
    subst (λ b. IsClear (at_site b t)) (append_assoc before (x ∷ []) (take m all))
    (clear_of (before ++ x ∷ []) all m t (clear_there (at_site before x) (first_pass (before ++ x ∷ []) all) h) e)

is_before : (all : List Site) (n m : ℕ) (s : Site) → n < m → slice_get all n ≡ Some s → Among s (take m all)
is_before [] n m s low e = absurd (cc)
is_before (x ∷ all) n zero s low e = absurd (omega (arith, low))
is_before (x ∷ all) zero (suc m) s low e = let same : s ≡ x = cc in inl same
is_before (x ∷ all) (suc n) (suc m) s low e = inr (is_before all n m s (omega (arith, low)) e)

-- the rules of the later of two places, and the earlier among those before it
pub record IsAfter (t s : Site) : Type 0 where
  pub before : List Site
  pub clear : IsClear (at_site before t)
  pub among : Among s before

after : (documents : Documents) → IsClear (candidates documents) → (n m : ℕ) (s t : Site) → n < m
    → slice_get (sites documents) n ≡ Some s → slice_get (sites documents) m ≡ Some t → IsAfter t s
after documents h n m s t low e f =
    let all = sites documents in
    record {
      before = take m all;
      clear = clear_of [] all m t (clear_here (first_pass [] all) (second_pass all) h) f;
      among = is_before all n m s low e;
    }

any_among : (f : Site → Bool) (s : Site) (xs : List Site) → Among s xs → f s ≡ true → list_any f xs ≡ true
any_among f s [] a e = absurd a
any_among f s (x ∷ xs) (inl same) e = let here : f x ≡ true = ap f (sym same) ∙ e in rw here refl
any_among f s (x ∷ xs) (inr a) e = or_right (f x) (list_any f xs) (any_among f s xs a e)
  where
    or_right : (b c : Bool) → c ≡ true → (b || c) ≡ true
    or_right true c g = refl
    or_right false c g = g

-- two numbers of which neither is below the other
neither : (n m : ℕ) → ¬ (n < m) → ¬ (m < n) → n ≡ m
neither n m h g = omega (arith, h, g)

one_of : (documents : Documents) → IsClear (candidates documents) → (Is : Site → Type 0)
    → ((n m : ℕ) (s t : Site) → slice_get (sites documents) n ≡ Some s → slice_get (sites documents) m ≡ Some t
    → IsAfter t s → Is s → Is t → ⊥) → AreOne documents Is
one_of documents h Is never_both n m s t e f i j =
    neither n m (λ low. never_both n m s t e f (after documents h n m s t low e f) i j)
    (λ low. never_both m n t s f e (after documents h m n t s low f e) j i)

-- ---- the rules of one keyword

keyword_clear : (before : List Site) (t : Site) (k : Text) (v : Value) → IsClear (at_site before t)
    → argument k t.schema ≡ Some v → IsClear (at_member before t (k, v))
keyword_clear before t k v h e =
    clear_among (at_member before t) (members_of t.schema) (k, v) (clear_there (at_place before t)
    (flat_map (at_member before t) (members_of t.schema)) h) (get_among k v (members_of t.schema) e)

text_clear : (before : List Site) (t : Site) (k u : Text) (which : Keyword) → which_keyword k ≡ which
    → IsClear (at_site before t) → argument k t.schema ≡ Some (text u)
    → IsClear (rules_of_text before t (k ∷ []) u which)
text_clear before t k u which is h e =
    let shape = when (not (is_shaped k (text u))) (decided t (k ∷ []) BadKeyword) in
    let rules = assertion_rules t k (text u) in
    let named = name_rules t k (text u) in
    subst (λ w. IsClear (rules_of_text before t (k ∷ []) u w)) is (clear_here (text_rules before t k u) named
    (clear_there rules (text_rules before t k u ++ named)
    (clear_there shape (rules ++ (text_rules before t k u ++ named)) (keyword_clear before t k (text u) h e))))

some_text : (v : Value) (u : Text) → as_text v ≡ Some u → v ≡ text u
some_text null u e = absurd (cc)
some_text (truth b) u e = absurd (cc)
some_text (whole z) u e = absurd (cc)
some_text (text w) u e = let same : w ≡ u = cc in ap text same
some_text (list vs) u e = absurd (cc)
some_text (object ms) u e = absurd (cc)

-- ---- a resource's URI

-- the base that an `$id` makes
pub record IsIdentified (above : Parts) (schema : Value) (base : Parts) : Type 0 where
  pub id : Text
  pub argument : argument (codes "$id") schema ≡ Some (text id)
  pub short : nat_lt longest_uri (length id) ≡ false
  pub uri : Parts
  pub read : parse_url (Some above) id ≡ Ok uri
  pub is : base ≡ without_fragment uri

read_as : (p : Parsed Parts) (u : Parts) → parsed p ≡ Some u → p ≡ Ok u
read_as (Ok v) u e = let same : v ≡ u = cc in ap Ok same
read_as (Err f) u e = absurd (cc)

identified_is : (above : Parts) (schema : Value) (base : Parts) → identified above schema ≡ Some base
    → IsIdentified above schema base
identified_is above schema base e = by_argument (argument (codes "$id") schema) refl e
  where
    by_url : (id : Text) (p : Parsed Parts) (b : Bool) → argument (codes "$id") schema ≡ Some (text id)
        → nat_lt longest_uri (length id) ≡ b → parse_url (Some above) id ≡ p
        → option_map without_fragment (if b then None else parsed p) ≡ Some base → IsIdentified above schema base
    by_url id p true a s r e = absurd (cc)
    by_url id (Ok u) false a s r e = let same : without_fragment u ≡ base = cc in
        record { id = id; argument = a; short = s; uri = u; read = r; is = sym same }
    by_url id (Err f) false a s r e = absurd (cc)

    by_text : (v : Value) (o : Option Text) → argument (codes "$id") schema ≡ Some v → as_text v ≡ o
        → option_map without_fragment (option_and_then (joined above) o) ≡ Some base → IsIdentified above schema base
    by_text v None a t e = absurd (cc)
    by_text v (Some id) a t e =
        by_url id (parse_url (Some above) id) (nat_lt longest_uri (length id))
        (a ∙ ap Some (some_text v id t)) refl refl e

    by_argument : (o : Option Value) → argument (codes "$id") schema ≡ o
        → option_and_then (identified_by above) o ≡ Some base → IsIdentified above schema base
    by_argument None a e = absurd (cc)
    by_argument (Some v) a e = by_text v (as_text v) a refl e

not_taken_joined : (before : List Site) (t : Site) (further : Tokens) (uri : Parts) (b : Bool)
    → IsClear (if b then when (is_taken before (without_fragment uri)) (decided t further DuplicateUri) else decided t
    further BadId) → is_taken before (without_fragment uri) ≡ false
not_taken_joined before t further uri true h =
    not_when (is_taken before (without_fragment uri)) t further DuplicateUri h
not_taken_joined before t further uri false h = absurd (never t further BadId h)

not_taken_id : (before : List Site) (t : Site) (further : Tokens) (uri : Parts) (id : Text) → nat_lt longest_uri
    (length id) ≡ false → parse_url (Some t.above.base) id ≡ Ok uri → IsClear (at_id before t further id)
    → is_taken before (without_fragment uri) ≡ false
not_taken_id before t further uri id s r h =
    let joined_clear : IsClear (at_joined_id before t further (parse_url (Some t.above.base) id)) =
    subst (λ b. IsClear (if b then decided t further UriTooLong else at_joined_id before t further
    (parse_url (Some t.above.base) id))) s h in
    not_taken_joined before t further uri (is_empty (raw_fragment uri))
    (subst (λ p. IsClear (at_joined_id before t further p)) r joined_clear)

-- what a place's `$id` makes is new
new_base : (before : List Site) (t : Site) → IsClear (at_site before t)
    → identified t.above.base t.schema ≡ Some t.own.base → is_taken before t.own.base ≡ false
new_base before t h e =
    let i = identified_is t.above.base t.schema t.own.base e in
    ap (is_taken before) i.is ∙ not_taken_id before t (codes "$id" ∷ []) i.uri i.id i.short i.read
    (text_clear before t (codes "$id") i.id (Other Id) (which_by_name (Other Id)) h i.argument)

-- so is a document's URI, at its root
new_root : (before : List Site) (t : Site) → IsClear (at_site before t) → is_root t ≡ true
    → is_taken before t.above.base ≡ false
new_root before t h e =
    let full = when (nat_le most_places (length before)) (decided t [] TooManyPlaces) in
    let shape = when (not (is_schema t.schema)) (decided t [] NotASchema) in
    let root = when (is_root t && is_taken before t.above.base) (decided t [] DuplicateUri) in
    let clear = clear_there shape root (clear_there full (shape ++ root)
    (clear_here (at_place before t) (flat_map (at_member before t) (members_of t.schema)) h)) in
    let both = not_when (is_root t && is_taken before t.above.base) t [] DuplicateUri clear in
    sym (ap (λ b. b && is_taken before t.above.base) e) ∙ both

known_by : (r i : Bool) (uri a b : Text) → list_any (bytes_eq uri) ((if r then a ∷ [] else [])
    ++ (if i then b ∷ [] else [])) ≡ true → ((r ≡ true) × (uri ≡ a)) ⊎ ((i ≡ true) × (uri ≡ b))
known_by true true uri a b e = first (bytes_eq uri a) refl e
  where
    first : (x : Bool) → bytes_eq uri a ≡ x → (x || (bytes_eq uri b || false)) ≡ true
        → ((true ≡ true) × (uri ≡ a)) ⊎ ((true ≡ true) × (uri ≡ b))
    first true is e = inl (refl, is_text-sound uri a is)
    first false is e = inr (refl, is_text-sound uri b (alone (bytes_eq uri b) e))
      where
        alone : (y : Bool) → (y || false) ≡ true → y ≡ true
        alone true e = refl
        alone false e = e
known_by true false uri a b e = inl (refl, is_text-sound uri a (alone (bytes_eq uri a) e))
  where
    alone : (y : Bool) → (y || false) ≡ true → y ≡ true
    alone true e = refl
    alone false e = e
known_by false true uri a b e = inr (refl, is_text-sound uri b (alone (bytes_eq uri b) e))
  where
    alone : (y : Bool) → (y || false) ≡ true → y ≡ true
    alone true e = refl
    alone false e = e
known_by false false uri a b e = absurd (cc)

-- the base of a place that identifies is the one that its `$id` makes
base_is : (o : Option Parts) (p : Tokens) (t : Site) → o ≡ identified t.above.base t.schema → is_some o ≡ true
    → t.own.base ≡ (scope_or o p t.above).base → identified t.above.base t.schema ≡ Some t.own.base
base_is None p t e s is = absurd (cc)
base_is (Some b) p t e s is = sym e ∙ ap Some (sym is)

identifies_place : (place : SchemaPlace) → (site place).identifies ≡ true
    → identified (site place).above.base (site place).schema ≡ Some (site place).own.base
identifies_place place i =
    base_is (identified (site place).above.base (site place).schema) place.spot.pointer (site place) refl i refl

identifies_is : (documents : Documents) (m : ℕ) (t : Site) → slice_get (sites documents) m ≡ Some t
    → t.identifies ≡ true → identified t.above.base t.schema ≡ Some t.own.base
identifies_is documents m t e i =
    let made = made_at site (places_from 0 documents) m t e in
    subst (λ x. x.identifies ≡ true
    → identified x.above.base x.schema ≡ Some x.own.base) (sym made.is) (identifies_place made.from) i

false-true : {A : Type 0} → (b : Bool) → b ≡ false → b ≡ true → A
false-true b e f = let no : false ≡ true = sym e ∙ f in absurd (cc)

pub one_resource : (documents : Documents) → IsClear (candidates documents) → (uri : Text)
    → AreOne documents (λ place. is_known_as uri place ≡ true)
one_resource documents h uri = one_of documents h (λ place. is_known_as uri place ≡ true) both
  where
    taken : (t s : Site) (before : List Site) (base : Parts) → Among s before → is_known_as uri s ≡ true
        → uri ≡ printed base → is_taken before base ≡ true
    taken t s before base a i e =
        any_among (is_known_as (printed base)) s before a (subst (λ u. is_known_as u s ≡ true) e i)

    both : (n m : ℕ) (s t : Site) → slice_get (sites documents) n ≡ Some s → slice_get (sites documents) m ≡ Some t
        → IsAfter t s → is_known_as uri s ≡ true → is_known_as uri t ≡ true → ⊥
    both n m s t e f a i j = by (known_by (is_root t) t.identifies uri (printed t.above.base) (printed t.own.base) j)
      where
        by : ((is_root t ≡ true) × (uri ≡ printed t.above.base))
            ⊎ ((t.identifies ≡ true) × (uri ≡ printed t.own.base)) → ⊥
        by (inl r) = false-true (is_taken a.before t.above.base) (new_root a.before t a.clear r.0)
            (taken t s a.before t.above.base a.among i r.1)
        by (inr r) = false-true (is_taken a.before t.own.base) (new_base a.before t a.clear
            (identifies_is documents m t f r.0)) (taken t s a.before t.own.base a.among i r.1)

-- ---- a place's name

one_standing : (documents : Documents) → AreRead documents → (d : ℕ) (p : Tokens)
    → AreOne documents (λ place. stands_at d p place ≡ true)
one_standing documents read d p n m s t e f i j =
    let first = standing_at d p s i in
    let second = standing_at d p t j in
    let low : position_from (stands_at d p) 0 (sites documents) ≡ Some n =
    ap (λ x. position_from (stands_at x p) 0 (sites documents)) (sym first.document)
    ∙ ap (λ q. position_from (stands_at s.document q) 0 (sites documents)) (sym first.pointer)
    ∙ number_of documents read.ordered read.short n s e in
    let high : position_from (stands_at d p) 0 (sites documents) ≡ Some m =
    ap (λ x. position_from (stands_at x p) 0 (sites documents)) (sym second.document)
    ∙ ap (λ q. position_from (stands_at t.document q) 0 (sites documents)) (sym second.pointer)
    ∙ number_of documents read.ordered read.short m t f in
    let same : Some n ≡ Some m = sym low ∙ high in
    cc

both_of : (b a d : Bool) → ((b && a) || (b && d)) ≡ true → (b ≡ true) × ((a || d) ≡ true)
both_of true a d e = (refl, e)
both_of false a d e = absurd (cc)

-- the place belongs to the resource with this root
pub record IsIn (d : ℕ) (p : Tokens) (place : Site) : Type 0 where
  pub document : place.document ≡ d
  pub resource : place.own.resource ≡ p

is_in : (d : ℕ) (p : Tokens) (place : Site) → belongs_to d p place ≡ true → IsIn d p place
is_in d p place e =
    let parts = and_parts (place.document == d) (same_tokens place.own.resource p) e in
    record { document = eqb-true place.document d parts.0; resource = tokens-sound place.own.resource p parts.1 }

beside : (root s t : Site) → belongs_to root.document root.pointer s ≡ true
    → belongs_to root.document root.pointer t ≡ true → belongs_to t.document t.own.resource s ≡ true
beside root s t e f =
    let there = is_in root.document root.pointer t f in
    ap (λ d. belongs_to d t.own.resource s) there.document ∙ ap (λ p. belongs_to root.document p s) there.resource ∙ e

and_true : (b c : Bool) → b ≡ true → c ≡ true → (b && c) ≡ true
and_true b c e f = rw (e, f) refl

made_before : (root s t : Site) (before : List Site) (name : Text) → Among s before
    → belongs_to root.document root.pointer s ≡ true → belongs_to root.document root.pointer t ≡ true
    → (makes (codes "$anchor") name s || makes (codes "$dynamicAnchor") name s) ≡ true → is_made before t name ≡ true
made_before root s t before name a e f g =
    any_among (λ x. belongs_to t.document t.own.resource x
    && (makes (codes "$anchor") name x || makes (codes "$dynamicAnchor") name x)) s before a
    (and_true (belongs_to t.document t.own.resource s)
    (makes (codes "$anchor") name s || makes (codes "$dynamicAnchor") name s) (beside root s t e f) g)

makes_text : (k name : Text) (t : Site) → makes k name t ≡ true → argument k t.schema ≡ Some (text name)
makes_text k name t e = by_argument (argument k t.schema) refl e
  where
    by_text : (v : Value) (o : Option Text) → argument k t.schema ≡ Some v → as_text v ≡ o
        → option_map_or (bytes_eq name) o false ≡ true → argument k t.schema ≡ Some (text name)
    by_text v None a is e = absurd (cc)
    by_text v (Some u) a is e = a ∙ ap Some (some_text v u is ∙ ap text (sym (is_text-sound name u e)))

    by_argument : (o : Option Value) → argument k t.schema ≡ o → option_map_or (bytes_eq name)
        (option_and_then as_text o) false ≡ true → argument k t.schema ≡ Some (text name)
    by_argument None a e = absurd (cc)
    by_argument (Some v) a e = by_text v (as_text v) a refl e

new_name_by : (before : List Site) (t : Site) (further : Tokens) (name : Text) (b : Bool) → IsClear
    (if b then when (is_made before t name) (decided t further DuplicateAnchor) else decided t further BadAnchor)
    → is_made before t name ≡ false
new_name_by before t further name true h = not_when (is_made before t name) t further DuplicateAnchor h
new_name_by before t further name false h = absurd (never t further BadAnchor h)

-- the name that a place makes is new
new_name : (before : List Site) (t : Site) (name : Text) (a d : Bool) → makes (codes "$anchor") name t ≡ a
    → makes (codes "$dynamicAnchor") name t ≡ d → (a || d) ≡ true → IsClear (at_site before t)
    → is_made before t name ≡ false
new_name before t name true d e f g h =
    new_name_by before t (codes "$anchor" ∷ []) name (is_anchor_name name)
    (text_clear before t (codes "$anchor") name (Other Anchor) (which_by_name (Other Anchor)) h
    (makes_text (codes "$anchor") name t e))
new_name before t name false true e f g h =
    new_name_by before t (codes "$dynamicAnchor" ∷ []) name (is_anchor_name name)
    (text_clear before t (codes "$dynamicAnchor") name (Other DynamicAnchor) (which_by_name (Other DynamicAnchor)) h
    (makes_text (codes "$dynamicAnchor") name t f))
new_name before t name false false e f g h = absurd (cc)

one_anchored : (documents : Documents) → IsClear (candidates documents) → (root : Site) (name : Text)
    → AreOne documents (λ place. (by_anchor root name place || by_dynamic_anchor root name place) ≡ true)
one_anchored documents h root name =
    one_of documents h (λ place. (by_anchor root name place || by_dynamic_anchor root name place) ≡ true) both
  where
    both : (n m : ℕ) (s t : Site) → slice_get (sites documents) n ≡ Some s
        → slice_get (sites documents) m ≡ Some t → IsAfter t s
        → (by_anchor root name s || by_dynamic_anchor root name s) ≡ true
        → (by_anchor root name t || by_dynamic_anchor root name t) ≡ true → ⊥
    both n m s t e f a i j =
        let first = both_of (belongs_to root.document root.pointer s) (makes (codes "$anchor") name s)
        (makes (codes "$dynamicAnchor") name s) i in
        let second = both_of (belongs_to root.document root.pointer t) (makes (codes "$anchor") name t)
        (makes (codes "$dynamicAnchor") name t) j in
        false-true (is_made a.before t name) (new_name a.before t name (makes (codes "$anchor") name t)
        (makes (codes "$dynamicAnchor") name t) refl refl second.1 a.clear)
        (made_before root s t a.before name a.among first.0 second.0 first.1)

one_by_pointer : (documents : Documents) → AreRead documents → (root : Site) (o : Option Tokens)
    → AreOne documents (λ place.
    option_map_or (λ tokens. stands_at root.document (root.pointer ++ tokens)) o (λ _. false) place ≡ true)
one_by_pointer documents read root None n m s t e f i j = absurd (cc)
one_by_pointer documents read root (Some tokens) n m s t e f i j =
    one_standing documents read root.document (root.pointer ++ tokens) n m s t e f i j

one_named_by : (documents : Documents) → AreRead documents → IsClear (candidates documents)
    → (root : Site) (name : Text) (b : Bool)
    → AreOne documents (λ place. (if b then by_pointer root name else
    (λ t. by_anchor root name t || by_dynamic_anchor root name t)) place ≡ true)
one_named_by documents read h root name true n m s t e f i j =
    one_by_pointer documents read root (pointer_of name) n m s t e f i j
one_named_by documents read h root name false n m s t e f i j = one_anchored documents h root name n m s t e f i j

one_named : (documents : Documents) → AreRead documents → IsClear (candidates documents)
    → (name : Text) (o : Option Site)
    → AreOne documents (λ place. option_map_or (λ root. is_named_by root name) o (λ _. false) place ≡ true)
one_named documents read h name None n m s t e f i j = absurd (cc)
one_named documents read h name (Some root) n m s t e f i j =
    one_named_by documents read h root name (is_pointer name) n m s t e f i j

pub one_place : (documents : Documents) → AreRead documents → IsClear (candidates documents) → (uri : Parts)
    → AreOne documents (λ place. names (sites documents) uri place ≡ true)
one_place documents read h uri = one_named documents read h (decoded_fragment uri) (root_named (sites documents) uri)
