-- Patterns in the order of their names: a search by halves finds the first of a name.
use Rattle.std.proofs.Common.{◌≡◌, ℕ, zero, suc, ◌<◌, ◌≤◌, List, [], ◌∷◌, ◌++◌, length, map, Bool, true, false}
use Rattle.std.proofs.Common.{if◌then◌else◌, inl, inr, ◌⊎◌, Less, Option, Some, None, option_map, find, cond, slice_get}
use Rattle.std.proofs.Common.{bytes_eq, get_or, Bor, nat_lt, refl, sym, ap, ◌∙◌, subst, arith}
use Rattle.std.specs.Option.{IfSome}
use Rattle.std.specs.Prelude.{is_some}
use Rattle.std.proofs.lemmas.Bool.{ltb-false, ltb-true}
use Rattle.std.specs.Cmp.{tied_itself}
use Rattle.std.specs.List.{flat_map}
use Rattle.std.specs.List.Sorted.{IsPartitionPoint, IsPartitionedBy}
use Rattle.std.specs.Ordering.{is_lt}
use Rattle.std.specs.declared.cmp.Ordering.{Ordering}
use Rattle.std.specs.declared.cmp.Ordering.TheVariants.{Equal, Greater}
use Rattle.std.proofs.lemmas.Cmp.{nat_list_cmp_total}
use Rattle.std.proofs.lemmas.List.{append-nil}
use Rattle.std.proofs.lemmas.Option.{get_or_from_slice_get, slice_get-get_or, slice_get_past, slice_get_within}
use Rattle.js_doc.specs.Members.{name_cmp, NamesAscend, NamesAscendInMembers}
use Rattle.js_doc.specs.Value.{Value, object, Members, no_members, member, Named}
use Rattle.js_doc.specs.Parts.{member_list, members_of}
use Rattle.js_doc.proofs.TokenLookup.{is_text-sound}
use Rattle.js_bundle.specs.declared.check.assertions_and_patterns.BuiltPattern.{BuiltPattern}
use Rattle.js_bundle.specs.AssertionsAndPatterns.{pattern_at, patterns_at, patterns_of}
use Rattle.js_bundle.specs.code.Patterns.{AreInOrder}
use Rattle.js_bundle.specs.Document.{Documents}
use Rattle.js_bundle.specs.Keyword.{Text}
use Rattle.js_bundle.specs.PlaceNumber.{place_at}
use Rattle.js_bundle.specs.Resource.{Site}
use Rattle.js_bundle.specs.Seen.{AreRead}
use Rattle.js_bundle.proofs.Listing.PlacesApart.{below_all, less_apart}
use Rattle.js_bundle.proofs.Standing.{standing}
use Rattle.js_bundle.proofs.Finding.FoundByTest.{the_patterns, no_patterns}
use Rattle.js_bundle.proofs.Finding.RankOfName.{ranks_ascend, some_is}

-- ---- those of a place

pattern_made : (ms : Named) (n : ℕ) (one : BuiltPattern) → slice_get (map pattern_at ms) n ≡ Some one
    → (m : Text × Value) × (slice_get ms n ≡ Some m) × (pattern_at m ≡ one)
pattern_made [] n one e = absurd (cc)
pattern_made (m ∷ ms) zero one e = (m, refl, some_is (pattern_at m) one e)
pattern_made (m ∷ ms) (suc n) one e = pattern_made ms n one e

of_members : (ms : Members) → NamesAscendInMembers ms → AreInOrder (map pattern_at (member_list ms))
of_members ms h i j a b low e f =
    let x = pattern_made (member_list ms) i a e in
    let y = pattern_made (member_list ms) j b f in
    ap (λ c. name_cmp c.name b.name) (sym x.2) ∙ ap (λ c. name_cmp x.0.0 c.name) (sym y.2)
    ∙ ranks_ascend ms i j x.0.0 y.0.0 x.0.1 y.0.1 h low x.1 y.1

of_argument : (v : Value) → NamesAscend v → AreInOrder (map pattern_at (members_of v))
of_argument (object ms) h i j a b low e f = of_members ms h i j a b low e f
of_argument _ h i j a b low e f = absurd (cc)

of_keyword : (v : Value) (rest : List BuiltPattern) (b : Bool) → NamesAscend v → (b ≡ true → rest ≡ [])
    → AreInOrder rest → AreInOrder ((if b then map pattern_at (members_of v) else []) ++ rest)
of_keyword v rest true a none h =
    let alone : map pattern_at (members_of v) ≡ map pattern_at (members_of v) ++ rest =
    sym (append-nil (map pattern_at (members_of v))) ∙ ap (λ r. map pattern_at (members_of v) ++ r) (sym (none refl))
    in
    subst (λ r. AreInOrder r) alone (of_argument v a)
of_keyword v rest false a none h = h

of_keywords : (ms : Members) → NamesAscendInMembers ms → AreInOrder (flat_map patterns_of (member_list ms))
of_keywords no_members a i j x y low e f = absurd (cc)
of_keywords (member l v ms) a i j x y low e f =
    of_keyword v (flat_map patterns_of (member_list ms)) (bytes_eq l the_patterns) a.1
    (λ same. no_patterns ms (λ k w h is. less_apart l k (below_all l ms a.0 a.2 k w h)
    (is_text-sound l the_patterns same ∙ is)))
    (of_keywords ms a.2) i j x y low e f

of_schema : (v : Value) → NamesAscend v → AreInOrder (flat_map patterns_of (members_of v))
of_schema (object ms) h i j a b low e f = of_keywords ms h i j a b low e f
of_schema _ h i j a b low e f = absurd (cc)

of_place : (documents : Documents) → AreRead documents → (place : ℕ) (built : List BuiltPattern) (o : Option Site)
    → place_at documents place ≡ o → option_map patterns_at o ≡ Some built → AreInOrder built
of_place documents r place built None is e = absurd (cc)
of_place documents r place built (Some s) is e =
    let same : patterns_at s ≡ built = cc in
    subst (λ l. AreInOrder l) same
    (of_schema s.schema (standing documents r.ordered r.short place s is).ascends)

-- the patterns of a place are in the order of their names
pub in_order_at : (documents : Documents) → AreRead documents → (place : ℕ) (built : List BuiltPattern)
    → option_map patterns_at (place_at documents place) ≡ Some built → AreInOrder built
in_order_at documents r place built e = of_place documents r place built (place_at documents place) refl e

-- ---- one of a name

less_is : (o : Ordering) → is_lt o ≡ true → o ≡ Less
less_is Less e = refl
less_is Equal e = absurd (cc)
less_is Greater e = absurd (cc)

module _ (name : Text) where
  abbrev so_named : BuiltPattern → Bool
  so_named b = bytes_eq name b.name

  abbrev pub before : BuiltPattern → Bool
  before b = is_lt (name_cmp b.name name)

  apart_by : (b : BuiltPattern) (t : Bool) → so_named b ≡ t → before b ≡ true → so_named b ≡ false
  apart_by b true e h =
      let x : true ≡ false = sym h ∙ ap (λ l. is_lt (name_cmp l name)) (sym (is_text-sound name b.name e))
      ∙ ap is_lt (tied_itself nat_list_cmp_total name) in
      absurd (cc)
  apart_by b false e h = e

  -- what comes before the name isn't of that name
  apart : (b : BuiltPattern) → before b ≡ true → so_named b ≡ false
  apart b h = apart_by b (so_named b) refl h

  first_named : (built : List BuiltPattern) (n : ℕ) (one : BuiltPattern)
      → ((i : ℕ) (b : BuiltPattern) → i < n → slice_get built i ≡ Some b → before b ≡ true)
      → slice_get built n ≡ Some one → so_named one ≡ true → Some one ≡ find so_named built
  first_named [] n one h e t = absurd (cc)
  first_named (x ∷ built) zero one h e t =
      let same : x ≡ one = some_is x one e in
      ap Some (sym same) ∙ sym (ap (λ b. cond b (Some x) (find so_named built)) (ap so_named same ∙ t))
  first_named (x ∷ built) (suc n) one h e t =
      first_named built n one (λ i b low is. h (suc i) b (omega (arith, low)) is) e t
      ∙ sym (ap (λ b. cond b (Some x) (find so_named built)) (apart x (h 0 x (omega arith) refl)))

  none_named : (built : List BuiltPattern)
      → ((i : ℕ) (b : BuiltPattern) → slice_get built i ≡ Some b → so_named b ≡ false) → None ≡ find so_named built
  none_named [] h = refl
  none_named (x ∷ built) h = none_named built (λ i b is. h (suc i) b is)
      ∙ sym (ap (λ b. cond b (Some x) (find so_named built)) (h 0 x refl))

  place_of : (i n : ℕ) → ((i < n) ⊎ (n < i)) ⊎ (i ≡ n)
  place_of zero zero = inr refl
  place_of zero (suc n) = inl (inl (omega arith))
  place_of (suc i) zero = inl (inr (omega arith))
  place_of (suc i) (suc n) = further (place_of i n)
    where
      further : ((i < n) ⊎ (n < i)) ⊎ (i ≡ n) → ((suc i < suc n) ⊎ (suc n < suc i)) ⊎ (suc i ≡ suc n)
      further (inl (inl l)) = inl (inl (omega (arith, l)))
      further (inl (inr l)) = inl (inr (omega (arith, l)))
      further (inr e) = inr (ap suc e)

  module _ (built : List BuiltPattern) (order : AreInOrder built) where
    earlier_too : (i j : ℕ) (a b : BuiltPattern) → i < j → slice_get built i ≡ Some a → slice_get built j ≡ Some b
        → before b ≡ true → before a ≡ true
    earlier_too i j a b low e f h = ap is_lt (nat_list_cmp_total.trans a.name b.name name (order i j a b low e f)
        (less_is (name_cmp b.name name) h))

    -- names that come before it stand before the others
    pub parted : IsPartitionedBy before built
    parted i j d low within h = by_place (place_of i j)
      where
        by_place : ((i < j) ⊎ (j < i)) ⊎ (i ≡ j) → before (get_or built i d) ≡ true
        by_place (inl (inl l)) = earlier_too i j (get_or built i d) (get_or built j d) l
            (slice_get-get_or built i d (omega (arith, l, within))) (slice_get-get_or built j d within) h
        by_place (inl (inr l)) = absurd (omega (arith, l, low))
        by_place (inr e) = ap (λ k. before (get_or built k d)) e ∙ h

    module _ (n : ℕ) (point : IsPartitionPoint (λ b. before b ≡ true) (λ b. before b ≡ false) built n) where
      all_before : n ≤ length built → (i : ℕ) (b : BuiltPattern) → i < n → slice_get built i ≡ Some b
          → before b ≡ true
      all_before low i b less e =
          ap before (sym (get_or_from_slice_get built i b b e)) ∙ point.0 i b (omega arith) less

      -- where the first that doesn't come before the name has it, it is the first of that name
      found_there : n ≤ length built → (one : BuiltPattern) → slice_get built n ≡ Some one
          → so_named one ≡ true → Some one ≡ find so_named built
      found_there low one e t = first_named built n one (all_before low) e t

      -- where it doesn't, none has
      found_nowhere : n ≤ length built
          → ((one : BuiltPattern) → slice_get built n ≡ Some one → so_named one ≡ false)
          → None ≡ find so_named built
      found_nowhere low other = none_named built (λ i b e. unlike i b e (place_of i n))
        where
          after : (b one : BuiltPattern) (i : ℕ) (t : Bool) → n < i → slice_get built i ≡ Some b
              → slice_get built n ≡ Some one → so_named b ≡ t → so_named b ≡ false
          after b one i true l e f is =
              let early : before one ≡ true = ap (λ k. is_lt (name_cmp one.name k)) (is_text-sound name b.name is)
              ∙ ap is_lt (order n i one b l f e) in
              let late : before one ≡ false = ap before (sym (get_or_from_slice_get built n one one f))
              ∙ point.1 n one (omega arith) (slice_get_within built n one f) in
              let x : true ≡ false = sym early ∙ late in
              absurd (cc)
          after b one i false l e f is = is

          unlike : (i : ℕ) (b : BuiltPattern) → slice_get built i ≡ Some b → ((i < n) ⊎ (n < i)) ⊎ (i ≡ n)
              → so_named b ≡ false
          unlike i b e (inl (inl l)) = apart b (all_before low i b l e)
          unlike i b e (inl (inr l)) =
              after b (get_or built n b) i (so_named b) l e
              (slice_get-get_or built n b (omega (arith, l, slice_get_within built i b e))) refl
          unlike i b e (inr same) = other b (ap (slice_get built) (sym same) ∙ e)

      found_by : n ≤ length built → (one : BuiltPattern) (t : Bool) → slice_get built n ≡ Some one → so_named one ≡ t
          → cond t (Some one) None ≡ find so_named built
      found_by low one true e is = found_there low one e is
      found_by low one false e is =
          found_nowhere low (λ other there. let same : one ≡ other = some_is one other (sym e ∙ there) in
          ap so_named (sym same) ∙ is)

      -- so only the first that doesn't come before the name can have it
      pub found_at : n ≤ length built → (one : BuiltPattern) → slice_get built n ≡ Some one
          → find (λ b. bytes_eq name b.name) (one ∷ []) ≡ find (λ b. bytes_eq name b.name) built
      found_at low one e = found_by low one (so_named one) e refl

      pub found_past : n ≤ length built → slice_get built n ≡ None → None ≡ find (λ b. bytes_eq name b.name) built
      found_past low e = found_nowhere low (λ one there. absurd (cc))

-- ---- what is read of a slice

pub read_at : (built : List BuiltPattern) (n : ℕ) (o : Option (Bor BuiltPattern))
    → is_some o ≡ nat_lt n (length built) → IfSome o (λ x. x.now ≡ get_or built n x.now)
    → slice_get built n ≡ option_map (λ x. x.now) o
read_at built n None e f = slice_get_past built n (ltb-false n (length built) (sym e))
read_at built n (Some x) e f = slice_get-get_or built n x.now (ltb-true n (length built) (sym e)) ∙ ap Some (sym f)
