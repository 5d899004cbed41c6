-- Where a name stands among members whose names ascend, and what is got and put there.
use Rattle.std.proofs.Common.{◌≡◌, ℕ, ◌+◌, ◌-◌, ◌/◌, ◌<◌, ◌≤◌, suc, zero, List, [], ◌∷◌}
use Rattle.std.proofs.Common.{◌++◌, map, length, get_or, set, insert}
use Rattle.std.proofs.Common.{Some, None, Ordering, Less}
use Rattle.std.proofs.Common.{Equal, Greater, true, refl, sym, ap, ◌∙◌, subst, arith}
use Rattle.std.proofs.lemmas.Cmp.{nat_list_cmp_total}
use Rattle.std.specs.Cmp.{tied_itself}
use Rattle.std.specs.Ordering.{match_ordering, ordering_reverse}
use Rattle.js_doc.specs.Value.{Value, Named, object, members}
use Rattle.js_doc.specs.Members.{name_cmp, get, put, IsAscending, NamesAscendInMembers}
use Rattle.js_doc.specs.Short.{AreShortMembers}
use Rattle.js_doc.specs.Lawful.{IsLawful}
use Rattle.js_doc.specs.Lookup.{is_text}
use Rattle.js_doc.specs.Seen.{value_of, pair_of, members_seen}
use Rattle.js_doc.specs.code.Places.{rank, rank_past, GoesTo, StandsAt, IsAboveAll}
use Rattle.js_doc.specs.declared.doc.Doc.{Doc}
use Rattle.js_doc.proofs.Alike.{Entry}
use Rattle.js_doc.proofs.FiniteMaps.{name_equal, get_below}
use Rattle.js_doc.proofs.TokenLookup.{is_text-sound}
use Rattle.js_doc.proofs.Ascending.{members_ascend-put}
use Rattle.js_doc.proofs.Shortness.{members_short-put}

abbrev name_at : List Entry → ℕ → Entry → List ℕ
name_at es i d = (get_or es i d).0

-- ---- names before the one at i

head_below : (e : Entry) (es : List Entry) (i : ℕ) (d : Entry) → IsAscending (map pair_of (e ∷ es)) → i < length es
    → name_cmp e.0 (name_at es i d) ≡ Less
head_below e [] i d s h = absurd (omega (arith, h))
head_below e (f ∷ es) zero d s h = s.0
head_below e (f ∷ es) (suc i) d s h =
    let more = head_below f es i d s.1 (omega (arith, h)) in
    nat_list_cmp_total.trans e.0 f.0 (name_at es i d) s.0 more

above : (h k : List ℕ) → name_cmp h k ≡ Less → name_cmp k h ≡ Greater
above h k e = nat_list_cmp_total.antisymm k h ∙ ap ordering_reverse e

above_lower : (h x k : List ℕ) → name_cmp h x ≡ Less → name_cmp k x ≡ Greater → name_cmp k h ≡ Greater
above_lower h x k e f =
    above h k (nat_list_cmp_total.trans h x k e (nat_list_cmp_total.antisymm x k ∙ ap ordering_reverse f))

above_same : (h x k : List ℕ) → name_cmp h x ≡ Less → name_cmp k x ≡ Equal → name_cmp k h ≡ Greater
above_same h x k e f = above h k (subst (λ y. name_cmp h y ≡ Less) (sym (name_equal k x f)) e)

-- ---- a search

-- the middle is one of the places
pub middle_within : (low high n : ℕ) → low < high → high ≤ n
    → (low + (high - low) / 2 < high) × (low + (high - low) / 2 < n)
middle_within low high n h fits = let below : low + (high - low) / 2 < high = omega (arith, h) in
    (below, omega (arith, below, fits))

-- so is the last one, where there are some
pub last_place : (n : ℕ) → (n ≡ 0 → ⊥) → (n - 1 < n) × (n - 1 + 1 ≡ n)
last_place n some = (omega (arith, some), omega (arith, some))

-- what a comparison says of an entry's name
pub compared : (k x : List ℕ) (e : Entry) (o r : Ordering) → r ≡ name_cmp k x → x ≡ e.0 → r ≡ o
    → name_cmp k e.0 ≡ o
compared k x e o r a b d = ap (name_cmp k) (sym b) ∙ sym a ∙ d

same_at : (es : List Entry) (i : ℕ) (d e : Entry) → i < length es → get_or es i d ≡ get_or es i e
same_at [] i d e h = absurd (omega (arith, h))
same_at (f ∷ es) zero d e h = refl
same_at (f ∷ es) (suc i) d e h = same_at es i d e (omega (arith, h))

pub stands_at : (k : List ℕ) (es : List Entry) (i : ℕ) (e : Entry) → i < length es
    → name_cmp k (name_at es i e) ≡ Equal → StandsAt k es i
stands_at k es i e h q = (h, λ d. ap (λ f. name_cmp k f.0) (same_at es i d e h) ∙ q)

-- an entry whose name is k, wherever it was looked for
pub named_stands : (k : List ℕ) (es : List Entry) (i : ℕ) (e : Entry) (x : List ℕ) → i < length es → e ≡ get_or es i e
    → x ≡ e.0 → is_text k x ≡ true → StandsAt k es i
named_stands k es i e x h at is named =
    let same : name_at es i e ≡ k = ap (λ f. f.0) (sym at) ∙ sym (is_text-sound k x named ∙ is) in
    stands_at k es i e h (ap (name_cmp k) same ∙ tied_itself nat_list_cmp_total k)

past_head : (a n : ℕ) (o : Ordering) → a ≤ n → match_ordering o 0 1 (suc a) ≤ suc n
past_head a n Less h = omega arith
past_head a n Equal h = omega arith
past_head a n Greater h = omega (arith, h)

-- a name that is below the one at i goes to i at most
pub goes_below : (k : List ℕ) (es : List Entry) (i : ℕ) (d : Entry) → i < length es
    → name_cmp k (name_at es i d) ≡ Less → rank_past k (map pair_of es) ≤ i
goes_below k [] i d h e = absurd (omega (arith, h))
goes_below k (f ∷ es) zero d h e = rw e (omega arith)
goes_below k (f ∷ es) (suc i) d h e =
    let more = goes_below k es i d (omega (arith, h)) e in
    past_head (rank_past k (map pair_of es)) i (name_cmp k f.0) more

-- a name that is above the one at i goes past i
pub goes_above : (k : List ℕ) (es : List Entry) (i : ℕ) (d : Entry) → IsAscending (map pair_of es) → i < length es
    → name_cmp k (name_at es i d) ≡ Greater
    → i < rank k (map pair_of es)
goes_above k [] i d s h e = absurd (omega (arith, h))
goes_above k (f ∷ es) zero d s h e = rw e (omega arith)
goes_above k (f ∷ es) (suc i) d s h e =
    let low : i < length es = omega (arith, h) in
    let more : i < rank k (map pair_of es) = goes_above k es i d s.1 low e in
    rw (above_lower f.0 (name_at es i d) k (head_below f es i d s low) e) (omega (arith, more))

past_fits : (a b n : ℕ) (o : Ordering) → a ≤ b → b ≤ n
    → (match_ordering o 0 0 (suc a) ≤ match_ordering o 0 1 (suc b)) × (match_ordering o 0 1 (suc b) ≤ suc n)
past_fits a b n Less h l = (omega arith, omega arith)
past_fits a b n Equal h l = (omega arith, omega arith)
past_fits a b n Greater h l = (omega (arith, h), omega (arith, l))

pub ranks_fit : (k : List ℕ) (es : List Entry)
    → (rank k (map pair_of es) ≤ rank_past k (map pair_of es)) × (rank_past k (map pair_of es) ≤ length es)
ranks_fit k [] = (omega arith, omega arith)
ranks_fit k (f ∷ es) =
    let ms = map pair_of es in
    let more = ranks_fit k es in
    past_fits (rank k ms) (rank_past k ms) (length es) (name_cmp k f.0) more.0 more.1

-- where the two ends of a search meet, the name would stand
pub goes_between : (k : List ℕ) (es : List Entry) (low high : ℕ) → low ≤ rank k (map pair_of es)
    → rank_past k (map pair_of es) ≤ high → high ≤ low → GoesTo k (map pair_of es) low
goes_between k es low high a b h =
    let fit = (ranks_fit k es).0 in (omega (arith, a, b, h, fit), omega (arith, a, b, h, fit))

-- a name that is above the last one goes to the end
pub goes_last : (k : List ℕ) (es : List Entry) (i : ℕ) (d : Entry) → IsAscending (map pair_of es) → i + 1 ≡ length es
    → name_cmp k (name_at es i d) ≡ Greater
    → GoesTo k (map pair_of es) (length es)
goes_last k es i d s h e =
    let n = length es in
    let past : i < rank k (map pair_of es) = goes_above k es i d s (omega (arith, h)) e in
    goes_between k es n n (omega (arith, past, h)) (ranks_fit k es).1 (omega arith)

pub goes_within : (k : List ℕ) (es : List Entry) (i : ℕ) → GoesTo k (map pair_of es) i → i ≤ length es
goes_within k es i h = omega (arith, h.0, h.1, (ranks_fit k es).1)

-- ---- what is got

pub get_at : (k : List ℕ) (es : List Entry) (i : ℕ) (d : Entry) → IsAscending (map pair_of es) → i < length es
    → name_cmp k (name_at es i d) ≡ Equal
    → get k (map pair_of es) ≡ Some (value_of (get_or es i d).1)
get_at k [] i d s h e = absurd (omega (arith, h))
get_at k (f ∷ es) zero d s h e = rw e
get_at k (f ∷ es) (suc i) d s h e =
    let low : i < length es = omega (arith, h) in
    rw (above_same f.0 (name_at es i d) k (head_below f es i d s low) e) (get_at k es i d s.1 low e)

pub get_found : (k : List ℕ) (seen es : List Entry) (i : ℕ) (e : Entry) → seen ≡ es → IsAscending (map pair_of es)
    → StandsAt k seen i → e ≡ get_or es i e → Some (value_of e.1) ≡ get k (map pair_of es)
get_found k seen es i e same s h is =
    let there : StandsAt k es i = subst (λ ys. StandsAt k ys i) same h in
    ap (λ f. Some (value_of f.1)) is ∙ sym (get_at k es i e s there.0 (there.1 e))

none_past : (k : List ℕ) (m : List ℕ × Value) (ms : Named) (o : Ordering) → name_cmp k m.0 ≡ o
    → match_ordering o 0 0 (suc (rank k ms)) ≡ match_ordering o 0 1 (suc (rank_past k ms)) → IsAscending (m ∷ ms)
    → (rank k ms ≡ rank_past k ms → get k ms ≡ None) → get k (m ∷ ms) ≡ None
none_past k m ms Less e h s more = get_below k (m ∷ ms) e s
none_past k m ms Equal e h s more = absurd (omega (arith, h))
none_past k m ms Greater e h s more = rw e (more (omega (arith, h)))

none_ranked : (k : List ℕ) (ms : Named) → rank k ms ≡ rank_past k ms → IsAscending ms → get k ms ≡ None
none_ranked k [] h s = refl
none_ranked k (m ∷ ms) h s = none_past k m ms (name_cmp k m.0) refl h s (λ e. none_ranked k ms e s.1)

pub get_none : (k : List ℕ) (seen es : List Entry) (i : ℕ) → seen ≡ es → IsAscending (map pair_of es)
    → GoesTo k (map pair_of seen) i → None ≡ get k (map pair_of es)
get_none k seen es i same s h =
    let there : GoesTo k (map pair_of es) i = subst (λ ys. GoesTo k (map pair_of ys) i) same h in
    sym (none_ranked k (map pair_of es) (there.0 ∙ sym there.1) s)

-- a name that stands somewhere goes nowhere
pub stands_or_goes : (k : List ℕ) (seen es : List Entry) (i j : ℕ) → seen ≡ es → IsAscending (map pair_of es)
    → StandsAt k seen i → GoesTo k (map pair_of es) j → ⊥
stands_or_goes k seen [] i j same s h g =
    let there : StandsAt k [] i = subst (λ ys. StandsAt k ys i) same h in absurd (omega (arith, there.0))
stands_or_goes k seen (f ∷ es) i j same s h g =
    let there : StandsAt k (f ∷ es) i = subst (λ ys. StandsAt k ys i) same h in
    let got = get_at k (f ∷ es) i f s there.0 (there.1 f) in
    let none = none_ranked k (map pair_of (f ∷ es)) (g.0 ∙ sym g.1) s in
    let x : None ≡ Some (value_of (get_or (f ∷ es) i f).1) = sym none ∙ got in absurd (cc)

-- ---- what is put

pub put_at : (n : List ℕ) (x : Doc) (es : List Entry) (i : ℕ) (d : Entry) → IsAscending (map pair_of es)
    → i < length es → name_cmp n (name_at es i d) ≡ Equal
    → map pair_of (set es i (n, x)) ≡ put n (value_of x) (map pair_of es)
put_at n x [] i d s h e = absurd (omega (arith, h))
put_at n x (f ∷ es) zero d s h e =
    rw e (ap (λ k. (k, value_of x) ∷ map pair_of es) (name_equal n f.0 e))
put_at n x (f ∷ es) (suc i) d s h e =
    let low : i < length es = omega (arith, h) in
    rw (above_same f.0 (name_at es i d) n (head_below f es i d s low) e)
    (ap (λ ms. pair_of f ∷ ms) (put_at n x es i d s.1 low e))

abbrev PutsInto : List ℕ → Doc → List Entry → ℕ → Type 0
PutsInto n x es i = map pair_of (insert es i (n, x)) ≡ put n (value_of x) (map pair_of es)

put_past : (n : List ℕ) (x : Doc) (f : Entry) (es : List Entry) (i : ℕ) (o : Ordering)
    → name_cmp n f.0 ≡ o
    → match_ordering o 0 0 (suc (rank n (map pair_of es))) ≡ i
    → match_ordering o 0 1 (suc (rank_past n (map pair_of es))) ≡ i
    → ((j : ℕ) → GoesTo n (map pair_of es) j → PutsInto n x es j) → PutsInto n x (f ∷ es) i
put_past n x f es zero Less e h p more = rw e
put_past n x f es (suc i) Less e h p more = absurd (omega (arith, h))
put_past n x f es i Equal e h p more = absurd (omega (arith, h, p))
put_past n x f es zero Greater e h p more = absurd (omega (arith, h))
put_past n x f es (suc i) Greater e h p more =
    rw e (ap (λ ms. pair_of f ∷ ms) (more i (omega (arith, h), omega (arith, p))))

pub put_into : (n : List ℕ) (x : Doc) (es : List Entry) (i : ℕ) → GoesTo n (map pair_of es) i
    → PutsInto n x es i
put_into n x [] zero h = refl
put_into n x [] (suc i) h = absurd (omega (arith, h.0))
put_into n x (f ∷ es) i h =
    put_past n x f es i (name_cmp n f.0) refl h.0 h.1 (λ j g. put_into n x es j g)

pub put_over : (l : List ℕ) (n : List ℕ) (x : Doc) (seen es : List Entry) (i : ℕ) → l ≡ n
    → seen ≡ es → IsAscending (map pair_of es) → StandsAt l seen i
    → map pair_of (set es i (n, x)) ≡ put n (value_of x) (map pair_of es)
put_over l n x seen es i named same s h =
    let k = n in
    let there : StandsAt k es i = subst (λ ys. StandsAt k ys i) same (subst (λ l. StandsAt l seen i) named h) in
    put_at n x es i (n, x) s there.0 (there.1 (n, x))

pub put_new : (k : List ℕ) (n : List ℕ) (x : Doc) (seen es new : List Entry) (i : ℕ) → k ≡ n
    → seen ≡ es → new ≡ insert es i (n, x) → GoesTo k (map pair_of seen) i
    → map pair_of new ≡ put n (value_of x) (map pair_of es)
put_new k n x seen es new i named same is h =
    let there = subst (λ l. GoesTo l (map pair_of seen) i) named h in
    ap (map pair_of) is ∙ put_into n x es i (subst (λ ys. GoesTo n (map pair_of ys) i) same there)

pub put_end : (n : List ℕ) (x : Doc) (es : List Entry) → IsAboveAll n (map pair_of es)
    → map pair_of (es ++ (n, x) ∷ []) ≡ put n (value_of x) (map pair_of es)
put_end n x [] h = refl
put_end n x (f ∷ es) h = rw h.0 (ap (λ ms. pair_of f ∷ ms) (put_end n x es h.1))

-- what was put is as lawful as what stood there
pub lawful_put : (n : List ℕ) (x : Doc) (es new : List Entry)
    → map pair_of new ≡ put n (value_of x) (map pair_of es) → IsLawful (object (members_seen es))
    → IsLawful (value_of x)
    → IsLawful (object (members_seen new))
lawful_put n x es new is all one =
    let ms = map pair_of es in
    let k = n in (
      subst (λ ns. NamesAscendInMembers (members ns)) (sym is) (members_ascend-put k (value_of x) ms all.0 one.0),
      subst (λ ns. AreShortMembers (members ns)) (sym is) (members_short-put k (value_of x) ms all.1 one.1),
    )
