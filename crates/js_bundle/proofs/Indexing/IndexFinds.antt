-- What an index has of the places that it was made of.
use Rattle.std.proofs.Common.{◌≡◌, ℕ, ◌+◌, ◌<◌, ◌≤◌, ◌^◌, take, get_or, option_and_then, List, [], ◌∷◌, ◌++◌, map}
use Rattle.std.proofs.Common.{length, Bool, true, false, ◌||◌, cond, if◌then◌else◌, ◌&&◌, ◌==◌, find, codes, decimal}
use Rattle.std.proofs.Common.{option_to_list, Option, Some, None, is_some, option_map, slice_get, string_bytes, String}
use Rattle.std.proofs.Common.{Global, refl, sym, ap, ap₂, ◌∙◌, subst, arith}
use Rattle.std.specs.List.{AllByRecursion, list_any, position_from}
use Rattle.std.specs.Option.{option_or, option_map_or}
use Rattle.std.specs.Str.{bytes_eq}
use Rattle.std.proofs.lemmas.Bool.{and_parts, eqb-true}
use Rattle.std.proofs.lemmas.Cmp.{nat_list_eq_equiv}
use Rattle.std.proofs.lemmas.Fmt.{decimal_injective}
use Rattle.std.proofs.lemmas.List.{length-map, length-take, take_all}
use Rattle.url.specs.Parts.{Parts}
use Rattle.js_doc.specs.Pointer.{Tokens, pointer_text}
use Rattle.js_doc.specs.PointerReading.{pointer_of}
use Rattle.js_doc.proofs.TokenLookup.{is_text-refl, is_text-sound}
use Rattle.js_doc.proofs.PointerTexts.{pointer_of-text}
use Rattle.js_bundle.specs.declared.index.Index.{Index}
use Rattle.js_bundle.specs.declared.index.place_by_uri.Root.{Root}
use Rattle.js_bundle.specs.declared.index.numbering.Numbering.{Numbering}
use Rattle.js_bundle.specs.declared.scan.site.Site as rust
use Rattle.js_bundle.specs.code.PlaceNumbers.{number_named}
use Rattle.js_bundle.specs.Keyword.{Text, text_argument}
use Rattle.js_bundle.specs.code.Index.{number_of_key, AreInserted, FindsFirst, IsIndexOf, HasPlaceAdded, place_key}
use Rattle.js_bundle.specs.code.Index.{place_keys, name_key, name_keys, name_keys_by, number_standing, number_making}
use Rattle.js_bundle.specs.code.Index.{number_in, number_under, standing, standing_of}
use Rattle.js_bundle.specs.code.Scan.{site_of}
use Rattle.js_bundle.specs.Names.{known_as, is_known_as, root_named, same_tokens, stands_at, belongs_to, makes}
use Rattle.js_bundle.specs.Names.{by_pointer, by_anchor, by_dynamic_anchor, is_named_by, is_pointer}
use Rattle.js_bundle.specs.Resource.{Site}
use Rattle.js_bundle.specs.Url.{decoded_fragment, printed, without_fragment}
use Rattle.js_bundle.proofs.Listing.EachListedOnce.{at_place, stands_itself, tokens-refl, tokens-sound}
use Rattle.js_bundle.proofs.Listing.LeastSetListed.{all_append}
use Rattle.js_bundle.proofs.Indexing.FoundByText.{found_at, none_found}
use Rattle.js_bundle.proofs.Indexing.FirstFound.{nat_eq-refl}
use Rattle.js_bundle.proofs.Indexing.PlaceNext.{map_take_more}

-- ---- numbers under texts

or_none : {A : Type 0} (o : Option A) → o ≡ option_or o None
or_none None = refl
or_none (Some x) = refl

or_or : {A : Type 0} (o p q : Option A) → option_or (option_or o p) q ≡ option_or o (option_or p q)
or_or None p q = refl
or_or (Some x) p q = refl

pub none_put : (old : Numbering) (n : ℕ) → AreInserted old [] n old
none_put old n = record { recorded = λ key. or_none (number_of_key old key) }

past_one : {X : Type 0} (b : Bool) (o p q : Option X) (v : X) → o ≡ option_or p q
    → cond b (Some v) o ≡ option_or (cond b (Some v) p) q
past_one true o p q v h = refl
past_one false o p q v h = h

put_by : (b : Bool) (o : Option ℕ) (n : ℕ) → (b ≡ true → o ≡ None)
    → cond b (Some n) o ≡ option_or o (if b || false then Some n else None)
put_by true o n none = ap (λ p. option_or p (Some n)) (sym (none refl))
put_by false o n none = or_none o

-- the text has none
pub new_put : (old new : Numbering) (text : String Global) (n : ℕ) → number_of_key old (string_bytes text) ≡ None
    → ((key : Text) → number_of_key new key ≡ cond (bytes_eq (string_bytes text) key) (Some n)
    (number_of_key old key)) → AreInserted old (string_bytes text ∷ []) n new
new_put old new text n absent put = record {
  recorded = λ key. put key
      ∙ ap (λ b. cond b (Some n) (number_of_key old key)) (nat_list_eq_equiv.symm (string_bytes text) key)
      ∙ put_by (bytes_eq key (string_bytes text)) (number_of_key old key) n
      (λ same. ap (number_of_key old) (is_text-sound key (string_bytes text) same) ∙ absent);
}

or_any : {A : Type 0} (b c : Bool) (x : A)
    → option_or (if b then Some x else None) (if c then Some x else None) ≡ (if b || c then Some x else None)
or_any true c x = refl
or_any false c x = refl

pub any_append : {A : Type 0} (f : A → Bool) (xs ys : List A) → list_any f (xs ++ ys) ≡ (list_any f xs || list_any f ys)
any_append f [] ys = refl
any_append f (x ∷ xs) ys = by_test (f x) (list_any f (xs ++ ys)) (list_any f xs) (list_any f ys) (any_append f xs ys)
  where
    by_test : (b c d e : Bool) → c ≡ (d || e) → (b || c) ≡ ((b || d) || e)
    by_test true c d e h = refl
    by_test false c d e h = h

-- one list of keys after another
pub both_put : (old mid new : Numbering) (xs ys : List Text) (n : ℕ) → AreInserted old xs n mid
    → AreInserted mid ys n new → AreInserted old (xs ++ ys) n new
both_put old mid new xs ys n h g = record {
  recorded = λ key. let b = list_any (bytes_eq key) xs in let c = list_any (bytes_eq key) ys in
      g.recorded key ∙ ap (λ o. option_or o (if c then Some n else None)) (h.recorded key)
      ∙ or_or (number_of_key old key) (if b then Some n else None) (if c then Some n else None)
      ∙ ap (option_or (number_of_key old key))
      (or_any b c n ∙ ap (λ d. if d then Some n else None) (sym (any_append (bytes_eq key) xs ys)));
}

-- ---- the first that passes

first_more : {A : Type 0} (f : A → Bool) (k : ℕ) (xs : List A) (x : A) (n : ℕ) → n ≡ k + length xs
    → option_or (position_from f k xs) (if f x then Some n else None) ≡ position_from f k (xs ++ x ∷ [])
first_more f k [] x n e = by_test (f x)
  where
    by_test : (b : Bool) → (if b then Some n else None) ≡ cond b (Some k) None
    by_test true = ap Some (omega (arith, e))
    by_test false = refl
first_more f k (y ∷ xs) x n e =
    sym (past_one (f y) (position_from f (k + 1) (xs ++ x ∷ [])) (position_from f (k + 1) xs)
    (if f x then Some n else None) k (sym (first_more f (k + 1) xs x n (omega (arith, e)))))

pub first_next : (keys : Site
    → List Text) (old new : Numbering) (before : List Site) (place : Site) (n : ℕ) → n ≡ length before
    → FindsFirst keys old before → AreInserted old (keys place) n new → FindsFirst keys new (before ++ place ∷ [])
first_next keys old new before place n e h p = record {
  first = λ key. let f = λ (s : Site). list_any (bytes_eq key) (keys s) in
      p.recorded key ∙ ap (λ o. option_or o (if f place then Some n else None)) (h.first key)
      ∙ first_more f 0 before place n (omega (arith, e));
}

pub any_first : {A : Type 0} (f : A → Bool) (k : ℕ) (xs : List A) → is_some (position_from f k xs) ≡ list_any f xs
any_first f k [] = refl
any_first f k (x ∷ xs) = by_test (f x) (position_from f (k + 1) xs) (list_any f xs) (any_first f (k + 1) xs)
  where
    by_test : (b : Bool) (o : Option ℕ) (c : Bool) → is_some o ≡ c → is_some (cond b (Some k) o) ≡ (b || c)
    by_test true o c h = refl
    by_test false o c h = h

pub or_left : (b c : Bool) → b ≡ true → (b || c) ≡ true
or_left b c e = ap (λ x. x || c) e

pub or_right : (b c : Bool) → c ≡ true → (b || c) ≡ true
or_right true c e = refl
or_right false c e = e

-- ---- keys distinguish places

bool_by : (b c : Bool) → (b ≡ true → c ≡ true) → (c ≡ true → b ≡ true) → b ≡ c
bool_by true c f g = sym (f refl)
bool_by false true f g = g refl
bool_by false false f g = refl

some_is : {A : Type 0} (x y : A) → Some x ≡ Some y → x ≡ y
some_is x y e = cc

-- a pointer's text determines its tokens
text_determines : (p q : Tokens) → pointer_text p ≡ pointer_text q → p ≡ q
text_determines p q e = some_is p q (sym (pointer_of-text p) ∙ ap pointer_of e ∙ pointer_of-text q)

pub key_determines : (d e : ℕ) (p q : Tokens) → d < 2 ^ 64 → e < 2 ^ 64
    → place_key d p ≡ place_key e q → (d ≡ e) × (p ≡ q)
key_determines d e p q low small h =
    let same : decimal d ∷ p ≡ decimal e ∷ q = text_determines (decimal d ∷ p) (decimal e ∷ q) h in
    let document : decimal d ≡ decimal e = cc in
    (decimal_injective d e low small document, cc)

same_place : (d : ℕ) (p : Tokens) (s : Site) → d ≡ s.document → p ≡ s.pointer → stands_at d p s ≡ true
same_place d p s e f = ap (λ x. stands_at x p s) e ∙ ap (λ q. stands_at s.document q s) f ∙ stands_itself s

or_none_is : (b : Bool) → (b || false) ≡ b
or_none_is true = refl
or_none_is false = refl

and_both : (b c : Bool) → b ≡ true → c ≡ true → (b && c) ≡ true
and_both b c e f = ap (λ x. x && c) e ∙ f

and_none : (b : Bool) → (b && false) ≡ false
and_none true = refl
and_none false = refl

key_is : (d : ℕ) (p : Tokens) (s : Site) → d < 2 ^ 64 → s.document < 2 ^ 64
    → bytes_eq (place_key d p) (place_key s.document s.pointer) ≡ stands_at d p s
key_is d p s low small = bool_by (bytes_eq (place_key d p) (place_key s.document s.pointer)) (stands_at d p s)
    (λ e. let t = key_determines d s.document p s.pointer low small
    (is_text-sound (place_key d p) (place_key s.document s.pointer) e) in same_place d p s t.0 t.1)
    (λ e. let a = at_place d p s e in
    let same : place_key d p ≡ place_key s.document s.pointer = ap (λ x. place_key x p) (sym a.document)
    ∙ ap (place_key s.document) (sym a.pointer) in
    ap (λ k. bytes_eq k (place_key s.document s.pointer)) same ∙ is_text-refl (place_key s.document s.pointer))

standing_is : (d : ℕ) (p : Tokens) → d < 2 ^ 64 → (s : Site) → s.document < 2 ^ 64
    → list_any (bytes_eq (place_key d p)) (place_keys s) ≡ stands_at d p s
standing_is d p low s small = or_none_is (bytes_eq (place_key d p) (place_key s.document s.pointer))
    ∙ key_is d p s low small

-- the key of a text that a place may make
text_is : (d : ℕ) (r : Tokens) (name : Text) (e : ℕ) (q : Tokens) (o : Option Text) → d < 2 ^ 64 → e < 2 ^ 64
    → list_any (bytes_eq (name_key d r name)) (option_to_list (option_map (name_key e q) o))
    ≡ ((e == d && same_tokens q r) && option_map_or (bytes_eq name) o false)
text_is d r name e q None low small = sym (and_none (e == d && same_tokens q r))
text_is d r name e q (Some t) low small = or_none_is (bytes_eq (name_key d r name) (name_key e q t))
    ∙ bool_by (bytes_eq (name_key d r name) (name_key e q t)) ((e == d && same_tokens q r) && bytes_eq name t)
    (λ h. let k = key_determines d e (name ∷ r) (t ∷ q) low small
    (is_text-sound (name_key d r name) (name_key e q t) h) in
    let tokens : name ∷ r ≡ t ∷ q = k.1 in
    let named : name ≡ t = cc in
    let root : r ≡ q = cc in
    and_both (e == d && same_tokens q r) (bytes_eq name t)
    (and_both (e == d) (same_tokens q r) (ap (λ x. e == x) k.0 ∙ nat_eq-refl e)
    (ap (same_tokens q) root ∙ tokens-refl q))
    (ap (λ x. bytes_eq x t) named ∙ is_text-refl t))
    (λ h. let parts = and_parts (e == d && same_tokens q r) (bytes_eq name t) h in
    let place = and_parts (e == d) (same_tokens q r) parts.0 in
    let same : name_key d r name ≡ name_key e q t =
    ap (λ x. name_key x r name) (sym (eqb-true e d place.0)) ∙ ap (λ p. name_key e p name)
    (sym (tokens-sound q r place.1)) ∙ ap (name_key e q) (is_text-sound name t parts.1) in
    ap (λ k. bytes_eq k (name_key e q t)) same ∙ is_text-refl (name_key e q t))

abbrev makes_either : ℕ → Tokens → Text → Site → Bool
makes_either d r name s = belongs_to d r s && (makes (codes "$anchor") name s || makes (codes "$dynamicAnchor") name s)

spread : (b c d : Bool) → ((b && c) || (b && d)) ≡ (b && (c || d))
spread true c d = refl
spread false c d = refl

making_is : (d : ℕ) (r : Tokens) (name : Text) → d < 2 ^ 64 → (s : Site) → s.document < 2 ^ 64
    → list_any (bytes_eq (name_key d r name)) (name_keys s) ≡ makes_either d r name s
making_is d r name low s small =
    let key = bytes_eq (name_key d r name) in
    let by = λ (k : Text). text_is d r name s.document s.own.resource (text_argument k s.schema) low small in
    any_append key (name_keys_by (codes "$anchor") s) (name_keys_by (codes "$dynamicAnchor") s)
    ∙ ap₂ (λ b c. b || c) (by (codes "$anchor")) (by (codes "$dynamicAnchor"))
    ∙ spread (belongs_to d r s) (makes (codes "$anchor") name s) (makes (codes "$dynamicAnchor") name s)

-- ---- tests that agree on a list

abbrev IsCounted : Site → Type 0
IsCounted s = s.document < 2 ^ 64

same_first : (f g : Site → Bool) → ((s : Site) → IsCounted s → f s ≡ g s) → (k : ℕ) (xs : List Site)
    → AllByRecursion IsCounted xs → position_from f k xs ≡ position_from g k xs
same_first f g e k [] h = refl
same_first f g e k (x ∷ xs) h = ap₂ (λ b o. cond b (Some k) o) (e x h.0) (same_first f g e (k + 1) xs h.1)

same_any : (f g : Site → Bool) → ((s : Site) → IsCounted s → f s ≡ g s) → (xs : List Site) → AllByRecursion IsCounted xs
    → list_any f xs ≡ list_any g xs
same_any f g e [] h = refl
same_any f g e (x ∷ xs) h = ap₂ (λ b c. b || c) (e x h.0) (same_any f g e xs h.1)

found_by : (f : Site → Bool) (y : Site) (xs : List Site) (x : Site) (b : Bool) → IsCounted y
    → (find f xs ≡ Some x → IsCounted x) → cond b (Some y) (find f xs) ≡ Some x → IsCounted x
found_by f y xs x true low later e = subst IsCounted (some_is y x e) low
found_by f y xs x false low later e = later e

found_counted : (f : Site → Bool) (xs : List Site) (x : Site) → AllByRecursion IsCounted xs
    → find f xs ≡ Some x → IsCounted x
found_counted f [] x h e = absurd (cc)
found_counted f (y ∷ xs) x h e = found_by f y xs x (f y) h.0 (found_counted f xs x h.1) e

-- ---- what the code asks

pub taken_is : (numbers : Numbering) (before : List Site) (uri : Text) → FindsFirst known_as numbers before
    → is_some (number_of_key numbers uri) ≡ list_any (is_known_as uri) before
taken_is numbers before uri h = ap is_some (h.first uri) ∙ any_first (is_known_as uri) 0 before

pub made_is : (index : Index) (before : List Site) (place : Site) (name : Text)
    → IsIndexOf index before → IsCounted place
    → is_some (number_of_key index.names (name_key place.document place.own.resource name))
    ≡ list_any (λ t. belongs_to place.document place.own.resource t
    && (makes (codes "$anchor") name t || makes (codes "$dynamicAnchor") name t)) before
made_is index before place name h low =
    let key = λ (s : Site). list_any (bytes_eq (name_key place.document place.own.resource name)) (name_keys s) in
    ap is_some (h.named.first (name_key place.document place.own.resource name)) ∙ any_first key 0 before
    ∙ same_any key (makes_either place.document place.own.resource name)
    (making_is place.document place.own.resource name low) before h.counted

pub standing_found : (index : Index) (all : List Site) (d : ℕ) (p : Tokens) → IsIndexOf index all → d < 2 ^ 64
    → number_standing index d p ≡ position_from (stands_at d p) 0 all
standing_found index all d p h low =
    h.standing.first (place_key d p) ∙ same_first (λ s. list_any (bytes_eq (place_key d p)) (place_keys s))
    (stands_at d p) (standing_is d p low) 0 all h.counted

making_found : (index : Index) (all : List Site) (root : Site) (name : Text) → IsIndexOf index all → IsCounted root
    → number_making index root.document root.pointer name
    ≡ position_from (λ s. by_anchor root name s || by_dynamic_anchor root name s) 0 all
making_found index all root name h low =
    h.named.first (name_key root.document root.pointer name)
    ∙ same_first (λ s. list_any (bytes_eq (name_key root.document root.pointer name)) (name_keys s))
    (λ s. by_anchor root name s || by_dynamic_anchor root name s)
    (λ s c. making_is root.document root.pointer name low s c ∙ sym (spread (belongs_to root.document root.pointer s)
    (makes (codes "$anchor") name s) (makes (codes "$dynamicAnchor") name s))) 0 all h.counted

pointed_found : (index : Index) (all : List Site) (root : Site) (o : Option Tokens)
    → IsIndexOf index all → IsCounted root
    → option_and_then (λ tokens. number_standing index root.document (root.pointer ++ tokens)) o ≡ position_from
    (option_map_or (λ tokens. stands_at root.document (root.pointer ++ tokens)) o (λ _. false)) 0 all
pointed_found index all root None h low = sym (none_found 0 all)
pointed_found index all root (Some tokens) h low = standing_found index all root.document (root.pointer ++ tokens) h low

in_root : (index : Index) (all : List Site) (root : Site) (f : Text) → IsIndexOf index all → IsCounted root
    → number_in index root.document root.pointer f ≡ position_from (is_named_by root f) 0 all
in_root index all root f h low = by_kind (is_pointer f)
  where
    by_kind : (b : Bool) → (if b then option_and_then (λ tokens. number_standing index root.document
        (root.pointer ++ tokens)) (pointer_of f) else number_making index root.document root.pointer f)
        ≡ position_from (if b then by_pointer root f else
        (λ place. by_anchor root f place || by_dynamic_anchor root f place)) 0 all
    by_kind true = pointed_found index all root (pointer_of f) h low
    by_kind false = making_found index all root f h low

under_root : (index : Index) (all : List Site) (f : Text) (root : Option Root) (named : Option Site)
    → IsIndexOf index all → ((s : Site) → named ≡ Some s → IsCounted s)
    → option_map standing_of root ≡ option_map standing named
    → number_under index root f ≡ position_from (option_map_or (λ r. is_named_by r f) named (λ _. false)) 0 all
under_root index all f None None h low e = sym (none_found 0 all)
under_root index all f None (Some s) h low e = absurd (cc)
under_root index all f (Some r) None h low e = absurd (cc)
under_root index all f (Some r) (Some s) h low e =
    let same : standing_of r ≡ standing s = some_is (standing_of r) (standing s) e in
    ap (λ x. number_in index x.document x.pointer f) same ∙ in_root index all s f h (low s refl)

-- the place that a URI names, by the root of its resource
pub named_found : (index : Index) (all : List Site) (uri : Parts) (root : Option Root) → IsIndexOf index all
    → option_map standing_of root ≡ option_map standing (root_named all uri)
    → number_under index root (decoded_fragment uri) ≡ number_named all uri
named_found index all uri root h e = under_root index all (decoded_fragment uri) root (root_named all uri) h
    (λ s f. found_counted (is_known_as (printed (without_fragment uri))) all s h.counted f) e

-- what stands at the number of a resource's URI
pub known_at : {A : Type 0} (f : Site → A) (index : Index) (all : List Site) (uri : Text) (n : Option ℕ)
    → IsIndexOf index all → n ≡ number_of_key index.known uri
    → option_map f (option_and_then (slice_get all) n) ≡ option_map f (find (is_known_as uri) all)
known_at f index all uri n h e =
    ap (option_map f) (ap (option_and_then (slice_get all)) (e ∙ h.known.first uri) ∙ found_at (is_known_as uri) all)

-- ---- one place more, and all

pub index_next : (old new : Index) (before : List Site) (place : Site) (n : ℕ) → n ≡ length before
    → IsIndexOf old before → HasPlaceAdded old place n new → IsIndexOf new (before ++ place ∷ [])
index_next old new before place n e h a = record {
  counted = all_append IsCounted before (place ∷ []) h.counted (a.counted, tt);
  known = first_next known_as old.known new.known before place n e h.known a.known;
  standing = first_next place_keys old.places new.places before place n e h.standing a.standing;
  named = first_next name_keys old.names new.names before place n e h.named a.named;
}

pub index_more : (ss : List rust.Site) (i : ℕ) (x : rust.Site) (old new : Index) → i < length ss → x ≡ get_or ss i x
    → IsIndexOf old (map site_of (take i ss)) → HasPlaceAdded old (site_of x) i new
    → IsIndexOf new (map site_of (take (i + 1) ss))
index_more ss i x old new low is h a =
    let count : length (take i ss) ≡ i = let t = length-take i ss in omega (arith, low, t) in
    let number : i ≡ length (map site_of (take i ss)) = sym count ∙ sym (length-map (take i ss) site_of) in
    subst (IsIndexOf new) (sym (map_take_more site_of ss i x low is))
    (index_next old new (map site_of (take i ss)) (site_of x) i number h a)

pub index_whole : (ss : List rust.Site) (i : ℕ) (index : Index) → length ss ≤ i
    → IsIndexOf index (map site_of (take i ss)) → IsIndexOf index (map site_of ss)
index_whole ss i index low h = subst (λ l. IsIndexOf index (map site_of l)) (take_all i ss low) h
