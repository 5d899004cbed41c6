-- A table of resources: it is filled from the last one on, so that the first with a URI stays.
use Rattle.std.proofs.Common.{◌≡◌, ℕ, ◌+◌, ◌<◌, List, [], ◌∷◌, Bool, true, false, Option, Some, None, cond, map}
use Rattle.std.proofs.Common.{drop, get_or, length, find, slice_get, option_map, option_and_then, bytes_eq}
use Rattle.std.proofs.Common.{string_bytes, BTreeMap, Global, String, refl, sym, ap, ◌∙◌, subst, add-one}
use Rattle.std.specs.BTreeMap.{get_by_text}
use Rattle.std.specs.List.{position_from}
use Rattle.std.proofs.lemmas.Cmp.{nat_list_eq_equiv}
use Rattle.std.proofs.lemmas.List.{drop_more}
use Rattle.js_doc.specs.Value.{Text}
use Rattle.js_upgrade.specs.Resource.{Resource}
use Rattle.js_upgrade.specs.Seen.{resource_seen}
use Rattle.js_upgrade.specs.code.First.{FindsFirstResource, has_uri}
use Rattle.js_upgrade.specs.declared.resource.Resource as rust

-- ---- one resource more

module _ (old new : BTreeMap (String Global) ℕ) (uri : String Global) (i : ℕ)
    (put : (key : Text) → get_by_text new key ≡ cond (bytes_eq (string_bytes uri) key) (Some i) (get_by_text old key))
  where
    one_more : (r : Resource) (rest : List Resource) → string_bytes uri ≡ r.uri → FindsFirstResource (i + 1) old rest
        → FindsFirstResource i new (r ∷ rest)
    one_more r rest same before = record {
      first = λ key. put key ∙ ap (cond (bytes_eq (string_bytes uri) key) (Some i)) (before.first key)
          ∙ ap (λ b. cond b (Some i) (position_from (has_uri key) (i + 1) rest))
          (ap (λ u. bytes_eq u key) same ∙ nat_list_eq_equiv.symm r.uri key);
    }

    pub filled_next : (j : ℕ) (rs : List rust.Resource) (x : rust.Resource) → i + 1 ≡ j → i < length rs
        → x ≡ get_or rs i x → string_bytes uri ≡ string_bytes x.uri
        → FindsFirstResource j old (map resource_seen (drop j rs))
        → FindsFirstResource i new (map resource_seen (drop i rs))
    filled_next j rs x next low at same before =
        let rest = map resource_seen (drop (i + 1) rs) in
        let earlier : FindsFirstResource (i + 1) old rest =
        subst (λ k. FindsFirstResource k old (map resource_seen (drop k rs))) (sym next) before in
        let here : resource_seen x ∷ rest
        ≡ map resource_seen (drop i rs) = sym (ap (map resource_seen) (drop_more rs i x low)
        ∙ ap (λ y. resource_seen y ∷ rest) (sym at)) in
        subst (λ all. FindsFirstResource i new all) here (one_more (resource_seen x) rest same earlier)

-- ---- what stands at the number of a URI

shifted : {A : Type 0} (f : A → Bool) (n : ℕ) (xs : List A)
    → position_from f (n + 1) xs ≡ option_map (λ i. i + 1) (position_from f n xs)
shifted f n [] = refl
shifted f n (x ∷ xs) = by_test (f x) f n xs (shifted f (n + 1) xs)
  where
    by_test : {A : Type 0} (b : Bool) (f : A → Bool) (n : ℕ) (xs : List A)
        → position_from f (n + 1 + 1) xs ≡ option_map (λ i. i + 1) (position_from f (n + 1) xs)
        → cond b (Some (n + 1)) (position_from f (n + 1 + 1) xs)
        ≡ option_map (λ i. i + 1) (cond b (Some n) (position_from f (n + 1) xs))
    by_test true f n xs e = refl
    by_test false f n xs e = e

get_later : {A : Type 0} (x : A) (xs : List A) (o : Option ℕ)
    → option_and_then (slice_get (x ∷ xs)) (option_map (λ i. i + 1) o) ≡ option_and_then (slice_get xs) o
get_later x xs None = refl
get_later x xs (Some i) = ap (slice_get (x ∷ xs)) (add-one i)

pub found_at : {A : Type 0} (f : A → Bool) (xs : List A)
    → option_and_then (slice_get xs) (position_from f 0 xs) ≡ find f xs
found_at f [] = refl
found_at f (x ∷ xs) = by_test (f x) f x xs
    (ap (option_and_then (slice_get (x ∷ xs))) (shifted f 0 xs) ∙ get_later x xs (position_from f 0 xs) ∙ found_at f xs)
  where
    by_test : {A : Type 0} (b : Bool) (f : A → Bool) (x : A) (xs : List A)
        → option_and_then (slice_get (x ∷ xs)) (position_from f 1 xs) ≡ find f xs
        → option_and_then (slice_get (x ∷ xs)) (cond b (Some 0) (position_from f 1 xs)) ≡ cond b (Some x) (find f xs)
    by_test true f x xs e = refl
    by_test false f x xs e = e
