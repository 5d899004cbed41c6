-- The rank of a name among those of an object's members, which ascend.
use Rattle.std.proofs.Common.{◌≡◌, ℕ, zero, suc, ◌+◌, ◌-◌, ◌<◌, ◌≤◌, List, [], ◌∷◌, ◌++◌, inl, inr, ◌⊎◌, length, get_or}
use Rattle.std.proofs.Common.{Bool, true, false, if◌then◌else◌, Less, Some, slice_get, refl, sym, ap, ◌∙◌, arith}
use Rattle.std.specs.Cmp.{tied_itself}
use Rattle.std.specs.List.Sorted.{IsPartitionPoint, IsPartitionedBy}
use Rattle.std.specs.Option.{option_map_or}
use Rattle.std.specs.Ordering.{is_lt, ordering_reverse}
use Rattle.std.specs.Str.{bytes_eq}
use Rattle.std.proofs.lemmas.Cmp.{nat_list_cmp_total}
use Rattle.std.proofs.lemmas.List.{length-append}
use Rattle.js_doc.specs.Members.{get, name_cmp, NamesAscendInMembers}
use Rattle.js_doc.specs.Pointer.{Tokens}
use Rattle.js_doc.specs.Value.{Value, Members, no_members, member}
use Rattle.js_doc.specs.Parts.{member_list}
use Rattle.js_doc.proofs.TokenLookup.{is_text-sound}
use Rattle.js_bundle.specs.Keyword.{Text}
use Rattle.js_bundle.specs.code.PlaceBelow.{ends_before}
use Rattle.js_bundle.proofs.Listing.LeastSetListed.{Among}
use Rattle.js_bundle.proofs.Indexing.FirstFound.{get_first}
use Rattle.js_bundle.proofs.Listing.PlacesApart.{below_all}

-- ---- pairs

pub some_is : {A : Type 0} (x y : A) → Some x ≡ Some y → x ≡ y
some_is x y e = cc

pub some_first : {A B : Type 0} (x y : A × B) → Some x ≡ Some y → x.0 ≡ y.0
some_first x y e = ap (λ p. p.0) (some_is x y e)

-- ---- a member has a rank

pub rank_there : (name : Text) (u : Value) (ms : Members) → get name (member_list ms) ≡ Some u
    → (r : ℕ) × (slice_get (member_list ms) r ≡ Some (name, u))
rank_there name u no_members e = absurd (cc)
rank_there name u (member l v ms) e = by_name (bytes_eq name l) refl (rank_there name u ms)
  where
    first_get : (if bytes_eq name l then Some v else get name (member_list ms)) ≡ Some u
    first_get = sym (get_first name l v (member_list ms)) ∙ e

    by_name : (b : Bool) → bytes_eq name l ≡ b
        → (get name (member_list ms) ≡ Some u → (r : ℕ) × (slice_get (member_list ms) r ≡ Some (name, u)))
        → (r : ℕ) × (slice_get (member_list (member l v ms)) r ≡ Some (name, u))
    by_name true is next =
        let same : l ≡ name = sym (is_text-sound name l is) in
        let value = some_is v u (sym (ap (λ b. if b then Some v else get name (member_list ms)) is) ∙ first_get) in
        (0, λ i. Some (same i, value i))
    by_name false is next =
        let more = next (sym (ap (λ b. if b then Some v else get name (member_list ms)) is) ∙ first_get) in
        (suc more.0, more.1)

-- ---- names ascend with their ranks

among_at : (ms : Members) (r : ℕ) (name : Text) (u : Value) → slice_get (member_list ms) r ≡ Some (name, u)
    → Among (name, u) (member_list ms)
among_at no_members r name u e = absurd (cc)
among_at (member l v ms) zero name u e =
    inl (sym (some_is (l, v) (name, u) e))
among_at (member l v ms) (suc r) name u e = inr (among_at ms r name u e)

pub ranks_ascend : (ms : Members) (i r : ℕ) (a b : Text) (u v : Value) → NamesAscendInMembers ms → i < r
    → slice_get (member_list ms) i ≡ Some (a, u) → slice_get (member_list ms) r ≡ Some (b, v)
    → name_cmp a b ≡ Less
ranks_ascend no_members i r a b u v h low e f = absurd (cc)
ranks_ascend (member l w ms) zero zero a b u v h low e f = absurd (omega (arith, low))
ranks_ascend (member l w ms) zero (suc r) a b u v h low e f =
    ap (λ x. name_cmp x b) (sym (some_first (l, w) (a, u) e)) ∙ below_all l ms h.0 h.2 b v (among_at ms r b v f)
ranks_ascend (member l w ms) (suc i) zero a b u v h low e f = absurd (omega (arith, low))
ranks_ascend (member l w ms) (suc i) (suc r) a b u v h low e f =
    ranks_ascend ms i r a b u v h.2 (omega (arith, low)) e f

split_at : (i r : ℕ) → r ≤ i → (r < i) ⊎ (i ≡ r)
split_at zero zero low = inr refl
split_at zero (suc r) low = absurd (omega (arith, low))
split_at (suc i) zero low = inl (omega arith)
split_at (suc i) (suc r) low = further (split_at i r (omega (arith, low)))
  where
    further : (r < i) ⊎ (i ≡ r) → (suc r < suc i) ⊎ (suc i ≡ suc r)
    further (inl l) = inl (omega (arith, l))
    further (inr e) = inr (ap suc e)

-- so those before it come before it, and the others don't
pub before_rank : (ms : Members) (i r : ℕ) (a b : Text) (u v : Value) → NamesAscendInMembers ms → i < r
    → slice_get (member_list ms) i ≡ Some (a, u) → slice_get (member_list ms) r ≡ Some (b, v)
    → is_lt (name_cmp a b) ≡ true
before_rank ms i r a b u v h low e f = ap is_lt (ranks_ascend ms i r a b u v h low e f)

pub from_rank : (ms : Members) (i r : ℕ) (a b : Text) (u v : Value) → NamesAscendInMembers ms → r ≤ i
    → slice_get (member_list ms) i ≡ Some (a, u) → slice_get (member_list ms) r ≡ Some (b, v)
    → is_lt (name_cmp a b) ≡ false
from_rank ms i r a b u v h low e f = by_side (split_at i r low)
  where
    by_side : (r < i) ⊎ (i ≡ r) → is_lt (name_cmp a b) ≡ false
    by_side (inl less) = ap is_lt
        (nat_list_cmp_total.antisymm a b ∙ ap ordering_reverse (ranks_ascend ms r i b a v u h less f e))
    by_side (inr same) =
        ap (λ x. is_lt (name_cmp x b)) (some_first (a, u) (b, v) (sym e ∙ ap (slice_get (member_list ms)) same ∙ f))
        ∙ ap is_lt (tied_itself nat_list_cmp_total b)

-- ---- the last token

second_last : (p : Tokens) (k n : Text) → slice_get (p ++ k ∷ n ∷ []) (length p + 1) ≡ Some n
second_last [] k n = refl
second_last (x ∷ p) k n =
    let next : length (x ∷ p) + 1 ≡ suc (length p + 1) = omega arith in
    ap (slice_get (x ∷ (p ++ k ∷ n ∷ []))) next ∙ second_last p k n

pub last_token : (p : Tokens) (k n : Text) (name : Text) → ends_before name (p ++ k ∷ n ∷ []) ≡ is_lt (name_cmp n name)
last_token p k n name =
    let many = length-append p (k ∷ n ∷ []) in
    let at : length (p ++ k ∷ n ∷ []) - 1 ≡ length p + 1 = omega (arith, many) in
    ap (λ i. option_map_or (λ t. is_lt (name_cmp t name)) (slice_get (p ++ k ∷ n ∷ []) i) false) at
    ∙ ap (λ o. option_map_or (λ t. is_lt (name_cmp t name)) o false) (second_last p k n)

-- ---- a rank is where a search by halves ends

-- where the list is parted, it is parted once
pub one_point : (p : ℕ → Bool) (xs : List ℕ) (i j : ℕ) → i ≤ length xs → j ≤ length xs → IsPartitionPoint
    (λ y. p y ≡ true) (λ y. p y ≡ false) xs i → IsPartitionPoint (λ y. p y ≡ true) (λ y. p y ≡ false) xs j → i ≡ j
one_point p xs i j low high h g = by_order (order i j)
  where
    order : (i j : ℕ) → ((i < j) ⊎ (j < i)) ⊎ (i ≡ j)
    order zero zero = inr refl
    order zero (suc j) = inl (inl (omega arith))
    order (suc i) zero = inl (inr (omega arith))
    order (suc i) (suc j) = further (order i j)
      where
        further : ((i < j) ⊎ (j < i)) ⊎ (i ≡ j) → ((suc i < suc j) ⊎ (suc j < suc i)) ⊎ (suc i ≡ suc j)
        further (inl (inl l)) = inl (inl (omega (arith, l)))
        further (inl (inr l)) = inl (inr (omega (arith, l)))
        further (inr e) = inr (ap suc e)

    by_order : ((i < j) ⊎ (j < i)) ⊎ (i ≡ j) → i ≡ j
    by_order (inl (inl l)) =
        let x : true ≡ false = sym (g.0 i 0 (omega arith) l) ∙ h.1 i 0 (omega arith) (omega (arith, l, high)) in
        absurd (cc)
    by_order (inl (inr l)) =
        let x : true ≡ false = sym (h.0 j 0 (omega arith) l) ∙ g.1 j 0 (omega arith) (omega (arith, l, low)) in
        absurd (cc)
    by_order (inr e) = e

pub parted : (p : ℕ → Bool) (xs : List ℕ) (i : ℕ)
    → IsPartitionPoint (λ y. p y ≡ true) (λ y. p y ≡ false) xs i → IsPartitionedBy p xs
parted p xs i h j k d low within holds = by_side (before k i)
  where
    before : (k i : ℕ) → (k < i) ⊎ (i ≤ k)
    before zero zero = inr (omega arith)
    before zero (suc i) = inl (omega arith)
    before (suc k) zero = inr (omega arith)
    before (suc k) (suc i) = further (before k i)
      where
        further : (k < i) ⊎ (i ≤ k) → (suc k < suc i) ⊎ (suc i ≤ suc k)
        further (inl l) = inl (omega (arith, l))
        further (inr l) = inr (omega (arith, l))

    by_side : (k < i) ⊎ (i ≤ k) → p (get_or xs j d) ≡ true
    by_side (inl l) = h.0 j d (omega arith) (omega (arith, l, low))
    by_side (inr l) =
        let x : true ≡ false = sym holds ∙ h.1 k d l within in
        absurd (cc)
