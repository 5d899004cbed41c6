-- Where the schema of a place holds nothing at a step, no place stands there.
use Rattle.std.proofs.Common.{◌≡◌, ℕ, zero, suc, ◌<◌, ◌^◌, [], ◌∷◌, ◌++◌, length, Bool, true, false, ◌&&◌}
use Rattle.std.proofs.Common.{if◌then◌else◌, decimal, Option, Some, None, option_map, option_and_then, is_some}
use Rattle.std.proofs.Common.{slice_get, find, refl, sym, ap, ◌∙◌, subst, arith, length-append, append_assoc}
use Rattle.std.specs.List.{position_from}
use Rattle.std.specs.Str.{bytes_eq}
use Rattle.std.proofs.lemmas.Fmt.{decimal_injective}
use Rattle.js_doc.specs.Lookup.{member_named, at}
use Rattle.js_doc.specs.Members.{get, NamesAscend}
use Rattle.js_doc.specs.Pointer.{Tokens}
use Rattle.js_doc.specs.Short.{IsShort}
use Rattle.js_doc.specs.Value.{Value, null, truth, whole, text, list, object, Members, no_members, member}
use Rattle.js_doc.specs.Parts.{member_list, members_of}
use Rattle.js_keyword.specs.declared.argument_form.Holding.{Holding}
use Rattle.js_keyword.specs.declared.argument_form.Holding.TheVariants.{One, Listed, Named}
use Rattle.js_bundle.specs.Document.{Documents}
use Rattle.js_bundle.specs.Keyword.{Text, argument}
use Rattle.js_bundle.specs.Names.{stands_at}
use Rattle.js_bundle.specs.Place.{holding, items_in, IsPlace, at_root, in_keyword, in_list, in_object}
use Rattle.js_bundle.specs.Resource.{Site, sites}
use Rattle.js_bundle.specs.PlaceNumber.{place_at}
use Rattle.js_bundle.specs.Schemas.{Finds, Step, Alone, Index, Name, fits, step_tokens, below}
use Rattle.js_bundle.specs.Seen.{AreOrdered, AreShort, AreRead}
use Rattle.js_bundle.specs.code.PlaceBelow.{held_in, holds_at_step, value_at_step, IsSmall}
use Rattle.js_bundle.proofs.Listing.EachListedOnce.{stands_there}
use Rattle.js_bundle.proofs.Listing.LeastSetListed.{Among, is-among}
use Rattle.js_bundle.proofs.Indexing.FirstFound.{get_first, number_finds, no_number}
use Rattle.js_bundle.proofs.Standing.{place_stands, below_member, within_count, standing, all_at}

-- ---- pointers

no_end : (p : Tokens) (k : Text) (r : Tokens) → ¬ ([] ≡ p ++ k ∷ r)
no_end [] k r e = absurd (cc)
no_end (x ∷ p) k r e = absurd (cc)

two_tokens : (p : Tokens) (k n : Text) → (p ++ k ∷ []) ++ n ∷ [] ≡ p ++ k ∷ n ∷ []
two_tokens p k n = append_assoc p (k ∷ []) (n ∷ [])

-- those that are alike have the same last token, and the same before it
last_alike : (p q : Tokens) (k l : Text) → p ++ k ∷ [] ≡ q ++ l ∷ [] → (p ≡ q) × (k ≡ l)
last_alike [] [] k l e = (refl, cc)
last_alike [] (y ∷ q) k l e = let tail : [] ≡ q ++ l ∷ [] = cc in absurd (no_end q l [] tail)
last_alike (x ∷ p) [] k l e = let tail : p ++ k ∷ [] ≡ [] = cc in absurd (no_end p k [] (sym tail))
last_alike (x ∷ p) (y ∷ q) k l e =
    let head : x ≡ y = cc in
    let tail : p ++ k ∷ [] ≡ q ++ l ∷ [] = cc in
    let m = last_alike p q k l tail in
    (λ i. head i ∷ m.0 i, m.1)

-- ---- what is among members is an argument

get_named : (k : Text) (ms : Members) → get k (member_list ms) ≡ member_named k ms
get_named k no_members = refl
get_named k (member l v ms) = get_first k l v (member_list ms)
    ∙ ap (λ x. if bytes_eq k l then Some v else x) (get_named k ms)

argument_of : (k : Text) (v u : Value) → NamesAscend v → IsShort v → Among (k, u) (members_of v) → argument k v ≡ Some u
argument_of k null u a s h = absurd h
argument_of k (truth b) u a s h = absurd h
argument_of k (whole z) u a s h = absurd h
argument_of k (text t) u a s h = absurd h
argument_of k (list vs) u a s h = absurd h
argument_of k (object ms) u a s h = get_named k ms ∙ (below_member k (object ms) u a s h).found

none_some : {A : Type 0} (i : ℕ) (u : A) → ¬ (slice_get [] i ≡ Some u)
none_some i u e = absurd (cc)

index_small : (l : Value) (i : ℕ) (u : Value) → IsShort l → slice_get (items_in l) i ≡ Some u → i < 2 ^ 64
index_small null i u s e = absurd (none_some i u e)
index_small (truth b) i u s e = absurd (none_some i u e)
index_small (whole z) i u s e = absurd (none_some i u e)
index_small (text t) i u s e = absurd (none_some i u e)
index_small (list vs) i u s e = omega (arith, s.0, within_count vs i u e)
index_small (object ms) i u s e = absurd (none_some i u e)

-- ---- in one document

listed_not_one : (h : Holding) → h ≡ Listed → ¬ (h ≡ One)
listed_not_one h e o = let x : Listed ≡ One = sym e ∙ o in absurd (cc)

named_not_one : (h : Holding) → h ≡ Named → ¬ (h ≡ One)
named_not_one h e o = let x : Named ≡ One = sym e ∙ o in absurd (cc)

-- no place stands a token below one, at a keyword that holds more than one schema
none_between : (root : Value) (n : ℕ) (p : Tokens) (v : Value) (k : Text) (q : Tokens) (u : Value) → length p ≡ n
    → IsPlace root p v → ¬ (holding k ≡ One) → IsPlace root q u → ¬ (q ≡ p ++ k ∷ [])
none_between root n p v k q u deep here other at_root is = no_end p k [] is
none_between root n p v k q u deep here other (in_keyword p' v' k' u' q' h e m there) is =
    let ends = last_alike p' p k' k (sym there ∙ is) in
    other (ap holding (sym ends.1) ∙ e)
none_between root zero p v k q u deep here other (in_list p' v' k' l i u' q' h e m g there) is =
    let ends = last_alike (p' ++ k' ∷ []) p (decimal i) k (two_tokens p' k' (decimal i) ∙ sym there ∙ is) in
    absurd (omega (arith, deep, ap length ends.0, length-append p' (k' ∷ [])))
none_between root (suc n) p v k q u deep here other (in_list p' v' k' l i u' q' h e m g there) is =
    let ends = last_alike (p' ++ k' ∷ []) p (decimal i) k (two_tokens p' k' (decimal i) ∙ sym there ∙ is) in
    none_between root n p' v' k' p v (omega (arith, deep, ap length ends.0, length-append p' (k' ∷ []))) h
    (listed_not_one (holding k') e) here (sym ends.0)
none_between root zero p v k q u deep here other (in_object p' v' k' l i u' q' h e m g there) is =
    let ends = last_alike (p' ++ k' ∷ []) p i k (two_tokens p' k' i ∙ sym there ∙ is) in
    absurd (omega (arith, deep, ap length ends.0, length-append p' (k' ∷ [])))
none_between root (suc n) p v k q u deep here other (in_object p' v' k' l i u' q' h e m g there) is =
    let ends = last_alike (p' ++ k' ∷ []) p i k (two_tokens p' k' i ∙ sym there ∙ is) in
    none_between root n p' v' k' p v (omega (arith, deep, ap length ends.0, length-append p' (k' ∷ []))) h
    (named_not_one (holding k') e) here (sym ends.0)

module _ (root : Value) (a : NamesAscend root) (s : IsShort root) where
  -- two places at one pointer have one schema
  schema_alike : (p p' : Tokens) (v v' : Value) → IsPlace root p v → IsPlace root p' v' → p' ≡ p → v' ≡ v
  schema_alike p p' v v' h h' e =
      let same : Some v' ≡ Some v = sym (place_stands root p' v' a s h').found ∙ ap (λ r. at r root) e
      ∙ (place_stands root p v a s h).found in
      cc

  argument_there : (p p' : Tokens) (v v' : Value) (k k' : Text) (l : Value) → IsPlace root p v → IsPlace root p' v'
      → p' ≡ p → k' ≡ k → Among (k', l) (members_of v') → argument k v ≡ Some l
  argument_there p p' v v' k k' l h h' e is m =
      let up = place_stands root p' v' a s h' in
      ap (λ x. argument x v) (sym is) ∙ ap (argument k') (sym (schema_alike p p' v v' h h' e))
      ∙ argument_of k' v' l up.ascends up.short m

  -- what stands at the step is held there by the schema
  held_at : (p : Tokens) (v : Value) (k : Text) (step : Step) (q : Tokens) (u : Value) → IsPlace root p v
      → fits (holding k) step ≡ true → IsSmall step → IsPlace root q u → q ≡ p ++ k ∷ step_tokens step
      → is_some (held_in k step v) ≡ true
  held_at p v k Alone q u here f small at_root is = absurd (no_end p k [] is)
  held_at p v k (Index j) q u here f small at_root is = absurd (no_end p k (decimal j ∷ []) is)
  held_at p v k (Name n) q u here f small at_root is = absurd (no_end p k (n ∷ []) is)
  held_at p v k Alone q u here f small (in_keyword p' v' k' u' q' h e m there) is =
      let ends = last_alike p' p k' k (sym there ∙ is) in
      ap (λ o. is_some (option_and_then (value_at_step Alone) o))
      (argument_there p p' v v' k k' u' here h ends.0 ends.1 (is-among (k', u') (members_of v') m.0 m.1.0 m.1.1))
  held_at p v k (Index j) q u here f small (in_keyword p' v' k' u' q' h e m there) is =
      let ends = last_alike p' (p ++ k ∷ []) k' (decimal j) (sym there ∙ is ∙ sym (two_tokens p k (decimal j))) in
      absurd (none_between root (length p) p v k p' v' refl here
      (λ o. let x : false ≡ true = sym (ap (λ h. fits h (Index j)) o) ∙ f in absurd (cc)) h ends.0)
  held_at p v k (Name n) q u here f small (in_keyword p' v' k' u' q' h e m there) is =
      let ends = last_alike p' (p ++ k ∷ []) k' n (sym there ∙ is ∙ sym (two_tokens p k n)) in
      absurd (none_between root (length p) p v k p' v' refl here
      (λ o. let x : false ≡ true = sym (ap (λ h. fits h (Name n)) o) ∙ f in absurd (cc)) h ends.0)
  held_at p v k Alone q u here f small (in_list p' v' k' l i u' q' h e m g there) is =
      let ends = last_alike (p' ++ k' ∷ []) p (decimal i) k (two_tokens p' k' (decimal i) ∙ sym there ∙ is) in
      absurd (none_between root (length p') p' v' k' p v refl h (listed_not_one (holding k') e) here (sym ends.0))
  held_at p v k (Index j) q u here f small (in_list p' v' k' l i u' q' h e m g there) is =
      let ends = last_alike (p' ++ k' ∷ []) (p ++ k ∷ []) (decimal i) (decimal j)
      (two_tokens p' k' (decimal i) ∙ sym there ∙ is ∙ sym (two_tokens p k (decimal j))) in
      let first = last_alike p' p k' k ends.0 in
      let among = is-among (k', l) (members_of v') m.0 m.1.0 m.1.1 in
      let up = place_stands root p' v' a s h in
      let low = index_small l i u' (below_member k' v' l up.ascends up.short among).short g in
      let same : i ≡ j = decimal_injective i j low small ends.1 in
      ap (λ o. is_some (option_and_then (value_at_step (Index j)) o))
      (argument_there p p' v v' k k' l here h first.0 first.1 among)
      ∙ ap (λ x. is_some (slice_get (items_in l) x)) (sym same) ∙ ap is_some g
  held_at p v k (Name n) q u here f small (in_list p' v' k' l i u' q' h e m g there) is =
      let ends = last_alike (p' ++ k' ∷ []) (p ++ k ∷ []) (decimal i) n
      (two_tokens p' k' (decimal i) ∙ sym there ∙ is ∙ sym (two_tokens p k n)) in
      let first = last_alike p' p k' k ends.0 in
      let x : false ≡ true = sym (ap (λ h. fits h (Name n)) (ap holding (sym first.1) ∙ e)) ∙ f in
      absurd (cc)
  held_at p v k Alone q u here f small (in_object p' v' k' l i u' q' h e m g there) is =
      let ends = last_alike (p' ++ k' ∷ []) p i k (two_tokens p' k' i ∙ sym there ∙ is) in
      absurd (none_between root (length p') p' v' k' p v refl h (named_not_one (holding k') e) here (sym ends.0))
  held_at p v k (Index j) q u here f small (in_object p' v' k' l i u' q' h e m g there) is =
      let ends = last_alike (p' ++ k' ∷ []) (p ++ k ∷ []) i (decimal j)
      (two_tokens p' k' i ∙ sym there ∙ is ∙ sym (two_tokens p k (decimal j))) in
      let first = last_alike p' p k' k ends.0 in
      let x : false ≡ true = sym (ap (λ h. fits h (Index j)) (ap holding (sym first.1) ∙ e)) ∙ f in
      absurd (cc)
  held_at p v k (Name n) q u here f small (in_object p' v' k' l i u' q' h e m g there) is =
      let ends = last_alike (p' ++ k' ∷ []) (p ++ k ∷ []) i n
      (two_tokens p' k' i ∙ sym there ∙ is ∙ sym (two_tokens p k n)) in
      let first = last_alike p' p k' k ends.0 in
      let among = is-among (k', l) (members_of v') m.0 m.1.0 m.1.1 in
      let up = place_stands root p' v' a s h in
      let held = below_member k' v' l up.ascends up.short among in
      let name : argument n l ≡ Some u' = ap (λ x. argument x l) (sym ends.1)
      ∙ argument_of i l u' held.ascends held.short (is-among (i, u') (members_of l) g.0 g.1.0 g.1.1) in
      ap (λ o. is_some (option_and_then (value_at_step (Name n)) o))
      (argument_there p p' v v' k k' l here h first.0 first.1 among) ∙ ap is_some name

-- ---- over all documents

-- what the schema of a place doesn't hold stands nowhere
none_stands : (documents : Documents) → AreOrdered documents → AreShort documents → (n : ℕ) (s : Site)
    → slice_get (sites documents) n ≡ Some s
    → (k : Text) (step : Step) → IsSmall step → fits (holding k) step ≡ true → is_some (held_in k step s.schema) ≡ false
    → position_from (stands_at s.document (s.pointer ++ k ∷ step_tokens step)) 0 (sites documents) ≡ None
none_stands documents a h n s e k step small f lacks = by_number (position_from test 0 (sites documents)) refl
  where
    test : Site → Bool
    test = stands_at s.document (s.pointer ++ k ∷ step_tokens step)

    by_number : (o : Option ℕ) → position_from test 0 (sites documents) ≡ o
        → position_from test 0 (sites documents) ≡ None
    by_number None is = is
    by_number (Some m) is =
        let found = number_finds test (sites documents) m is in
        let t = found.0 in
        let at_step = stands_there documents s.document (s.pointer ++ k ∷ step_tokens step) m t is found.2 in
        let up = standing documents a h n s e in
        let there = standing documents a h m t found.2 in
        let same : Some there.document ≡ Some up.document = sym there.held
        ∙ ap (slice_get documents) at_step.document ∙ up.held in
        let document : there.document ≡ up.document = cc in
        let ordered = all_at (λ d. NamesAscend d.root) documents s.document up.document a up.held in
        let short = all_at (λ d. IsShort d.root) documents s.document up.document h up.held in
        let held = held_at up.document.root ordered short s.pointer s.schema k step t.pointer t.schema up.place f small
        (subst (λ d. IsPlace d.root t.pointer t.schema) document there.place) at_step.pointer in
        let x : true ≡ false = sym held ∙ lacks in
        absurd (cc)

none_by : (documents : Documents) → AreOrdered documents → AreShort documents → (place : ℕ) (s : Site)
    → slice_get (sites documents) place ≡ Some s → (k : Text) (step : Step) → IsSmall step
    → (b : Bool) → fits (holding k) step ≡ b → (b && is_some (held_in k step s.schema)) ≡ false
    → below documents s k step ≡ None
none_by documents a h place s e k step small false f lacks =
    ap (λ b. if b then find (stands_at s.document (s.pointer ++ k ∷ step_tokens step)) (sites documents) else None) f
none_by documents a h place s e k step small true f lacks =
    let test = stands_at s.document (s.pointer ++ k ∷ step_tokens step) in
    ap (λ b. if b then find test (sites documents) else None) f
    ∙ no_number test 0 (sites documents) (none_stands documents a h place s e k step small f lacks)

finds_none_by : (documents : Documents) → AreRead documents → (place : ℕ) (k : Text) (step : Step) (v : Value)
    → IsSmall step → holds_at_step k step v ≡ false
    → (o : Option Site) → place_at documents place ≡ o → option_map (λ s. s.schema) o ≡ Some v
    → option_and_then (λ t. below documents t k step) o ≡ None
finds_none_by documents read place k step v small lacks None is e = refl
finds_none_by documents read place k step v small lacks (Some s) is e =
    let same : s.schema ≡ v = cc in
    none_by documents read.ordered read.short place s is k step small (fits (holding k) step) refl
    (ap (holds_at_step k step) same ∙ lacks)

-- so nothing is what is found below the place
pub finds_nothing : (docs documents : Documents) → docs ≡ documents → AreRead docs → (place : ℕ) (k : Text)
    (step : Step) (v : Value) → IsSmall step → option_map (λ s. s.schema) (place_at documents place) ≡ Some v
    → false ≡ holds_at_step k step v
    → Finds documents None (option_and_then (λ t. below documents t k step) (place_at documents place))
finds_nothing docs documents same read place k step v small e lacks =
    finds_none_by documents (subst (λ ds. AreRead ds) same read) place k step v small (sym lacks)
    (place_at documents place) refl e
