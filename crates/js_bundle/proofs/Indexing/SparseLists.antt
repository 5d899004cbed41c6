-- What is kept of places under their numbers, place by place.
use Rattle.std.proofs.Common.{◌≡◌, ℕ, zero, suc, ◌+◌, ◌<◌, ◌≤◌, List, [], ◌∷◌, ◌++◌, Bool, true, false, ◌==◌}
use Rattle.std.proofs.Common.{map, take, drop, get_or, length, Option, None, Some, option_and_then, slice_get}
use Rattle.std.proofs.Common.{if◌then◌else◌, refl, sym, ap, subst, ◌∙◌, arith}
use Rattle.std.proofs.lemmas.Bool.{eqb-true, eqb-false}
use Rattle.std.proofs.lemmas.List.{append-nil, drop_all, length-map, length-take, length-take-le, take_all}
use Rattle.std.proofs.lemmas.Option.{slice_get_past}
use Rattle.js_bundle.specs.declared.scan.site.Site as rust
use Rattle.js_bundle.specs.code.Scan.{site_of}
use Rattle.js_bundle.specs.code.SparseList.{IsSparseList, HasEntryAdded}
use Rattle.js_bundle.specs.Resource.{Site}
use Rattle.js_bundle.proofs.Indexing.PlaceNext.{map_take_more}

-- ---- one entry more

last_there : {A : Type 0} (xs : List A) (x : A) → slice_get (xs ++ x ∷ []) (length xs) ≡ Some x
last_there [] x = refl
last_there (y ∷ ys) x = last_there ys x

others_there : {A : Type 0} (xs : List A) (x : A) (n : ℕ) → ¬ (n ≡ length xs)
    → slice_get (xs ++ x ∷ []) n ≡ slice_get xs n
others_there [] x zero other = absurd (other refl)
others_there [] x (suc n) other = refl
others_there (y ∷ ys) x zero other = refl
others_there (y ∷ ys) x (suc n) other = others_there ys x n (λ e. other (ap suc e))

-- ---- place by place

pub sparse_added : {A : Type 0} (f : Site → Option A) (ss : List rust.Site) (i : ℕ) (x : rust.Site) (old new : ℕ
    → Option A) (entry : Option A) → i < length ss → x ≡ get_or ss i x
    → HasEntryAdded old i entry new → entry ≡ f (site_of x) → IsSparseList old f (map site_of (take i ss))
    → IsSparseList new f (map site_of (take (i + 1) ss))
sparse_added f ss i x old new entry low is recorded same h = record {
  recorded = λ n. recorded.recorded n ∙ by_number n
      (n == i) refl ∙ ap (λ l. option_and_then f (slice_get l n)) (sym (map_take_more site_of ss i x low is));
}
  where
    many : length (map site_of (take i ss)) ≡ i
    many = length-map (take i ss) site_of ∙ length-take-le i ss (omega (arith, low))

    by_number : (n : ℕ) (b : Bool) → n == i ≡ b
        → (if b then entry else old n) ≡ option_and_then f (slice_get (map site_of (take i ss) ++ site_of x ∷ []) n)
    by_number n true e = same ∙ ap (option_and_then f) (sym (last_there (map site_of (take i ss)) (site_of x))) ∙ ap
        (λ m. option_and_then f (slice_get (map site_of (take i ss) ++ site_of x ∷ []) m)) (many ∙ sym (eqb-true n i e))
    by_number n false e = h.recorded n ∙ ap (option_and_then f)
        (sym (others_there (map site_of (take i ss)) (site_of x) n (λ g. eqb-false n i e (g ∙ many))))

-- nothing is kept of the next place yet
pub sparse_next : {A : Type 0} (f : Site → Option A) (ss : List rust.Site) (i : ℕ) (kept : ℕ → Option A)
    → IsSparseList kept f (map site_of (take i ss)) → kept i ≡ None
sparse_next f ss i kept h =
    let same = length-map (take i ss) site_of in
    let few = length-take i ss in
    h.recorded i ∙ ap (option_and_then f) (slice_get_past (map site_of (take i ss)) i (omega (arith, same, few)))

pub sparse_whole : {A : Type 0} (f : Site → Option A) (ss : List rust.Site) (i : ℕ) (kept : ℕ → Option A)
    → length ss ≤ i → IsSparseList kept f (map site_of (take i ss)) → IsSparseList kept f (map site_of ss)
sparse_whole f ss i kept none h = subst (λ l. IsSparseList kept f (map site_of l)) (take_all i ss none) h

-- a list that was made place by place, once no place is left
pub ended : {A : Type 0} (f : Site → A) (ss : List rust.Site) (i : ℕ) (made all : List A) → length ss ≤ i
    → made ++ map f (map site_of (drop i ss)) ≡ all → made ≡ all
ended f ss i made all none recorded = sym (append-nil made)
    ∙ ap (λ r. made ++ map f (map site_of r)) (sym (drop_all i ss none)) ∙ recorded
