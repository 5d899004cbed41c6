-- No two of the listed places stand at one pointer.
use Rattle.std.proofs.Common.{◌≡◌, ℕ, suc, ◌+◌, ◌<◌, ◌≤◌, ◌^◌, List, [], ◌∷◌, ◌++◌, inl, inr, decimal}
use Rattle.std.proofs.Common.{Less, Equal, refl, sym, ap, ◌∙◌, append_assoc, arith}
use Rattle.std.specs.List.{AllByRecursion}
use Rattle.std.specs.Cmp.{tied_itself}
use Rattle.std.proofs.lemmas.Cmp.{nat_list_cmp_total}
use Rattle.std.proofs.lemmas.Fmt.{decimal_injective}
use Rattle.std.proofs.lemmas.List.{append-nil}
use Rattle.url.specs.Parts.{Parts}
use Rattle.js_doc.specs.Members.{name_cmp, IsBelowFirst, NamesAscend, NamesAscendInItems, NamesAscendInMembers}
use Rattle.js_doc.specs.Pointer.{Tokens}
use Rattle.js_doc.specs.Short.{item_count, IsShort, AreShortItems, AreShortMembers}
use Rattle.js_doc.specs.Value.{Value, null, truth, whole, text, list, object, Items}
use Rattle.js_doc.specs.Value.{no_items, item, Members, no_members, member}
use Rattle.js_doc.specs.Parts.{member_list}
use Rattle.js_keyword.specs.declared.argument_form.Holding.{Holding}
use Rattle.js_keyword.specs.declared.argument_form.Holding.TheVariants.{One, Listed, Named, Nothing}
use Rattle.js_bundle.specs.Keyword.{Text}
use Rattle.js_bundle.specs.Place.{holding, Located, SchemaPlace, places_held, places_at, places_of_keywords}
use Rattle.js_bundle.specs.Place.{places_in_list, places_of_items, places_in_object, places_of_members}
use Rattle.js_bundle.specs.PlaceLaws.{AreApart}
use Rattle.js_bundle.proofs.Listing.LeastSetListed.{Among, all_append}

-- ---- names and pointers

pub below_all : (k : Text) (ms : Members) → IsBelowFirst k ms → NamesAscendInMembers ms → (l : Text) (w : Value)
    → Among (l, w) (member_list ms) → name_cmp k l ≡ Less
below_all k no_members b a l w h = absurd h
below_all k (member l' w' ms) b a l w (inl e) = ap (name_cmp k) (ap (λ m. m.0) e) ∙ b
below_all k (member l' w' ms) b a l w (inr h) = nat_list_cmp_total.trans k l' l b (below_all l' ms a.0 a.2 l w h)

pub less_apart : (k l : Text) → name_cmp k l ≡ Less → ¬ (k ≡ l)
less_apart k l h e =
    let same : name_cmp k l ≡ Equal = ap (λ x. name_cmp x l) e ∙ tied_itself nat_list_cmp_total l in
    absurd (cc)

tokens_apart : (p : Tokens) (k l : Text) (r s : Tokens) → ¬ (k ≡ l) → ¬ ((p ++ k ∷ []) ++ r ≡ (p ++ l ∷ []) ++ s)
tokens_apart [] k l r s n e = let same : k ≡ l = cc in n same
tokens_apart (x ∷ p) k l r s n e = let tail : (p ++ k ∷ []) ++ r ≡ (p ++ l ∷ []) ++ s = cc in
    tokens_apart p k l r s n tail

itself_apart : (p : Tokens) (k : Text) (r : Tokens) → ¬ (p ≡ (p ++ k ∷ []) ++ r)
itself_apart [] k r e = absurd (cc)
itself_apart (x ∷ p) k r e = let tail : p ≡ (p ++ k ∷ []) ++ r = cc in itself_apart p k r tail

-- ---- where the listed places stand

pub record Starts (p q : Tokens) : Type 0 where
  pub rest : Tokens
  pub is : q ≡ p ++ rest

pub record UnderName (ms : Members) (p q : Tokens) : Type 0 where
  pub name : Text
  pub value : Value
  pub among : Among (name, value) (member_list ms)
  pub starts : Starts (p ++ name ∷ []) q

pub record UnderItem (least most : ℕ) (p q : Tokens) : Type 0 where
  pub index : ℕ
  pub low : least ≤ index
  pub high : index < most
  pub starts : Starts (p ++ decimal index ∷ []) q

pub all_as : {A : Type 0} (P Q : A → Type 0) → ((t : A) → P t → Q t) → (xs : List A)
    → AllByRecursion P xs → AllByRecursion Q xs
all_as P Q f [] h = tt
all_as P Q f (x ∷ xs) h = (f x h.0, all_as P Q f xs h.1)

shorter : (p : Tokens) (k : Text) (q : Tokens) → Starts (p ++ k ∷ []) q → Starts p q
shorter p k q s = record { rest = k ∷ s.rest; is = s.is ∙ append_assoc p (k ∷ []) s.rest }

starts_itself : (p : Tokens) → Starts p p
starts_itself p = record { rest = []; is = sym (append-nil p) }

module _ (number : ℕ) (uri : Parts) where
  abbrev At : Tokens → SchemaPlace → Type 0
  At p t = Starts p t.spot.pointer

  chosen_all : (P : SchemaPlace → Type 0) (h : Holding) (a b c : List SchemaPlace) → AllByRecursion P a
      → AllByRecursion P b → AllByRecursion P c → AllByRecursion P (places_held h a b c)
  chosen_all P One a b c f g k = f
  chosen_all P Listed a b c f g k = g
  chosen_all P Named a b c f g k = k
  chosen_all P Nothing a b c f g k = tt

  mutual
    starts_at : (v : Value) (above : List Located) (p : Tokens) → AllByRecursion (At p) (places_at number uri above p v)
    starts_at null above p = (starts_itself p, tt)
    starts_at (truth b) above p = (starts_itself p, tt)
    starts_at (whole z) above p = (starts_itself p, tt)
    starts_at (text s) above p = (starts_itself p, tt)
    starts_at (list vs) above p = (starts_itself p, tt)
    starts_at (object ms) above p =
        let below = above ++ record { pointer = p; schema = object ms } ∷ [] in (
          starts_itself p,
          all_as (λ t. UnderName ms p t.spot.pointer) (At p) (λ t u. shorter p u.name t.spot.pointer
              u.starts) (places_of_keywords number uri below p ms) (starts_keywords ms below p),
        )

    starts_keywords : (ms : Members) (above : List Located) (p : Tokens)
        → AllByRecursion (λ t. UnderName ms p t.spot.pointer) (places_of_keywords number uri above p ms)
    starts_keywords no_members above p = tt
    starts_keywords (member k v ms) above p =
        let q = p ++ k ∷ [] in
        let held = places_held (holding k) (places_at number uri above q v) (places_in_list number uri above q v)
        (places_in_object number uri above q v) in
        let rest = places_of_keywords number uri above p ms in
        all_append (λ t. UnderName (member k v ms) p t.spot.pointer) held rest
        (all_as (At q) (λ t. UnderName (member k v ms) p t.spot.pointer)
        (λ t s. record { name = k; value = v; among = inl refl; starts = s }) held (chosen_all (At q) (holding k)
        (places_at number uri above q v) (places_in_list number uri above q v) (places_in_object number uri above q
        v) (starts_at v above q) (starts_list v above q) (starts_object v above q)))
        (all_as (λ t. UnderName ms p t.spot.pointer) (λ t. UnderName (member k v ms) p t.spot.pointer)
        (λ t u. record { name = u.name; value = u.value; among = inr u.among; starts = u.starts }) rest
        (starts_keywords ms above p))

    starts_list : (v : Value) (above : List Located) (p : Tokens)
        → AllByRecursion (At p) (places_in_list number uri above p v)
    starts_list (list vs) above p =
        all_as (λ t. UnderItem 0 (0 + item_count vs) p t.spot.pointer) (At p) (λ t u. shorter p (decimal u.index)
        t.spot.pointer u.starts) (places_of_items number uri above p 0 vs) (starts_items vs above p 0)
    starts_list _ above p = tt

    starts_items : (vs : Items) (above : List Located) (p : Tokens) (i : ℕ) → AllByRecursion
        (λ t. UnderItem i (i + item_count vs) p t.spot.pointer) (places_of_items number uri above p i vs)
    starts_items no_items above p i = tt
    starts_items (item v vs) above p i =
        let q = p ++ decimal i ∷ [] in
        let most = i + item_count (item v vs) in
        all_append (λ t. UnderItem i most p t.spot.pointer) (places_at number uri above q v)
        (places_of_items number uri above p (suc i) vs)
        (all_as (At q) (λ t. UnderItem i most p t.spot.pointer)
        (λ t s. record { index = i; low = omega arith; high = omega arith; starts = s })
        (places_at number uri above q v) (starts_at v above q))
        (all_as (λ t. UnderItem (suc i) (suc i + item_count vs) p t.spot.pointer)
        (λ t. UnderItem i most p t.spot.pointer)
        (λ t u.
        record { index = u.index; low = omega (arith, u.low); high = omega (arith, u.high); starts = u.starts })
        (places_of_items number uri above p (suc i) vs) (starts_items vs above p (suc i)))

    starts_object : (v : Value) (above : List Located) (p : Tokens)
        → AllByRecursion (At p) (places_in_object number uri above p v)
    starts_object (object ms) above p =
        all_as (λ t. UnderName ms p t.spot.pointer) (At p) (λ t u. shorter p u.name t.spot.pointer u.starts)
        (places_of_members number uri above p ms) (starts_members ms above p)
    starts_object _ above p = tt

    starts_members : (ms : Members) (above : List Located) (p : Tokens)
        → AllByRecursion (λ t. UnderName ms p t.spot.pointer) (places_of_members number uri above p ms)
    starts_members no_members above p = tt
    starts_members (member n v ms) above p =
        let q = p ++ n ∷ [] in
        let rest = places_of_members number uri above p ms in
        all_append (λ t. UnderName (member n v ms) p t.spot.pointer) (places_at number uri above q v) rest
        (all_as (At q) (λ t. UnderName (member n v ms) p t.spot.pointer)
        (λ t s. record { name = n; value = v; among = inl refl; starts = s })
        (places_at number uri above q v) (starts_at v above q))
        (all_as (λ t. UnderName ms p t.spot.pointer) (λ t. UnderName (member n v ms) p t.spot.pointer)
        (λ t u. record { name = u.name; value = u.value; among = inr u.among; starts = u.starts }) rest
        (starts_members ms above p))

  starts_held : (v : Value) (above : List Located) (q : Tokens) (h : Holding) → AllByRecursion (At q) (places_held h
      (places_at number uri above q v) (places_in_list number uri above q v) (places_in_object number uri above q v))
  starts_held v above q h = chosen_all (At q) h (places_at number uri above q v) (places_in_list number uri above q v)
      (places_in_object number uri above q v) (starts_at v above q) (starts_list v above q) (starts_object v above q)

  -- ---- so they stand apart

  apart_from : (P Q : SchemaPlace → Type 0) → ((x y : SchemaPlace) → P x → Q y → ¬ (x.spot.pointer ≡ y.spot.pointer))
      → (x : SchemaPlace) (ys : List SchemaPlace) → P x → AllByRecursion Q ys
      → AllByRecursion (λ y. ¬ (x.spot.pointer ≡ y.spot.pointer)) ys
  apart_from P Q f x [] h g = tt
  apart_from P Q f x (y ∷ ys) h g = (f x y h g.0, apart_from P Q f x ys h g.1)

  apart_append : (P Q : SchemaPlace → Type 0) → ((x y : SchemaPlace) → P x → Q y → ¬ (x.spot.pointer ≡ y.spot.pointer))
      → (xs ys : List SchemaPlace) → AllByRecursion P xs → AllByRecursion Q ys → AreApart xs → AreApart ys
      → AreApart (xs ++ ys)
  apart_append P Q f [] ys h g a b = b
  apart_append P Q f (x ∷ xs) ys h g a b = (
    all_append (λ y. ¬ (x.spot.pointer ≡ y.spot.pointer)) xs ys a.0 (apart_from P Q f x ys h.0 g),
    apart_append
        P Q f xs ys h.1 g a.1 b,
  )

  names_apart : (k : Text) (ms : Members) (p : Tokens) → IsBelowFirst k ms → NamesAscendInMembers ms
      → (x y : SchemaPlace) → At (p ++ k ∷ []) x → UnderName ms p y.spot.pointer → ¬ (x.spot.pointer ≡ y.spot.pointer)
  names_apart k ms p b a x y s u e =
      tokens_apart p k u.name s.rest u.starts.rest (less_apart k u.name (below_all k ms b a u.name u.value u.among))
      (sym s.is ∙ e ∙ u.starts.is)

  items_apart : (i most : ℕ) (p : Tokens) → most ≤ 2 ^ 64 → (x y : SchemaPlace) → At (p ++ decimal i ∷ []) x
      → UnderItem (suc i) most p y.spot.pointer → ¬ (x.spot.pointer ≡ y.spot.pointer)
  items_apart i most p short x y s u e =
      tokens_apart p (decimal i) (decimal u.index) s.rest u.starts.rest
      (λ same. absurd (let j : i ≡ u.index = decimal_injective i u.index (omega (arith, u.low, u.high, short))
      (omega (arith, u.high, short)) same in omega (arith, j, u.low)))
      (sym s.is ∙ e ∙ u.starts.is)

  chosen_apart : (h : Holding) (a b c : List SchemaPlace) → AreApart a → AreApart b → AreApart c
      → AreApart (places_held h a b c)
  chosen_apart One a b c f g k = f
  chosen_apart Listed a b c f g k = g
  chosen_apart Named a b c f g k = k
  chosen_apart Nothing a b c f g k = tt

  first_apart : (p : Tokens) (ms : Members) (x : SchemaPlace) → x.spot.pointer ≡ p → (xs : List SchemaPlace)
      → AllByRecursion (λ t. UnderName ms p t.spot.pointer) xs
      → AllByRecursion (λ y. ¬ (x.spot.pointer ≡ y.spot.pointer)) xs
  first_apart p ms x at [] h = tt
  first_apart p ms x at (y ∷ xs) h =
      (λ e. itself_apart p h.0.name h.0.starts.rest (sym at ∙ e ∙ h.0.starts.is), first_apart p ms x at xs h.1)

  mutual
    pub apart_at : (v : Value) (above : List Located) (p : Tokens) → NamesAscend v → IsShort v
        → AreApart (places_at number uri above p v)
    apart_at null above p a s = (tt, tt)
    apart_at (truth b) above p a s = (tt, tt)
    apart_at (whole z) above p a s = (tt, tt)
    apart_at (text t) above p a s = (tt, tt)
    apart_at (list vs) above p a s = (tt, tt)
    apart_at (object ms) above p a s =
        let below = above ++ record { pointer = p; schema = object ms } ∷ [] in
        let place : SchemaPlace =
        record { document = number; uri = uri; above = above; spot = record { pointer = p; schema = object ms } } in (
          first_apart p ms place refl (places_of_keywords number uri below p ms) (starts_keywords ms below p),
          apart_keywords ms below p a s,
        )

    apart_keywords : (ms : Members) (above : List Located) (p : Tokens) → NamesAscendInMembers ms → AreShortMembers ms
        → AreApart (places_of_keywords number uri above p ms)
    apart_keywords no_members above p a s = tt
    apart_keywords (member k v ms) above p a s =
        let q = p ++ k ∷ [] in
        let held = places_held (holding k) (places_at number uri above q v) (places_in_list number uri above q v)
        (places_in_object number uri above q v) in
        apart_append (At q) (λ t. UnderName ms p t.spot.pointer) (names_apart k ms p a.0 a.2) held
        (places_of_keywords number uri above p ms)
        (starts_held v above q (holding k)) (starts_keywords ms above p)
        (chosen_apart (holding k) (places_at number uri above q v) (places_in_list number uri above q v)
        (places_in_object number uri above q v) (apart_at v above q a.1 s.0) (apart_list v above q a.1 s.0)
        (apart_object v above q a.1 s.0))
        (apart_keywords ms above p a.2 s.1)

    apart_list : (v : Value) (above : List Located) (p : Tokens) → NamesAscend v → IsShort v
        → AreApart (places_in_list number uri above p v)
    apart_list (list vs) above p a s = apart_items vs above p 0 a s.1 (omega (arith, s.0))
    apart_list _ above p a s = tt

    apart_items : (vs : Items) (above : List Located) (p : Tokens) (i : ℕ) → NamesAscendInItems vs → AreShortItems vs
        → i + item_count vs ≤ 2 ^ 64 → AreApart (places_of_items number uri above p i vs)
    apart_items no_items above p i a s h = tt
    apart_items (item v vs) above p i a s h =
        let q = p ++ decimal i ∷ [] in
        let short : suc i + item_count vs ≤ 2 ^ 64 = omega (arith, h) in
        apart_append (At q) (λ t. UnderItem (suc i) (suc i + item_count vs) p t.spot.pointer) (items_apart i (suc i +
        item_count vs) p short) (places_at number uri above q v) (places_of_items number uri above p (suc i) vs)
        (starts_at v above q) (starts_items vs above p (suc i)) (apart_at v above q a.0 s.0)
        (apart_items vs above p (suc i) a.1 s.1 short)

    apart_object : (v : Value) (above : List Located) (p : Tokens) → NamesAscend v → IsShort v
        → AreApart (places_in_object number uri above p v)
    apart_object (object ms) above p a s = apart_members ms above p a s
    apart_object _ above p a s = tt

    apart_members : (ms : Members) (above : List Located) (p : Tokens) → NamesAscendInMembers ms → AreShortMembers ms
        → AreApart (places_of_members number uri above p ms)
    apart_members no_members above p a s = tt
    apart_members (member n v ms) above p a s =
        let q = p ++ n ∷ [] in
        apart_append (At q) (λ t. UnderName ms p t.spot.pointer) (names_apart n ms p a.0 a.2)
        (places_at number uri above q v) (places_of_members number uri above p ms)
        (starts_at v above q) (starts_members ms above p) (apart_at v above q a.1 s.0)
        (apart_members ms above p a.2 s.1)
