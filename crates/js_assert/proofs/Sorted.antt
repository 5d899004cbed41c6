-- Names in ascending order, one name further.
use Rattle.std.proofs.Common.{◌≡◌, ℕ, ◌+◌, ◌<◌, List, [], ◌∷◌, ◌++◌, Bor, false, not, cond}
use Rattle.std.proofs.Common.{length, get_or, drop, refl, sym, ap, ◌∙◌}
use Rattle.std.proofs.lemmas.List.{drop_more}
use Rattle.std.specs.BTreeSet.{insert_key}
use Rattle.std.specs.Cmp.Lexicographic.{slice_cmp}
use Rattle.std.specs.Ordering.{match_ordering, nat_cmp}
use Rattle.std.specs.declared.cmp.Ordering.{Ordering}
use Rattle.std.specs.declared.cmp.Ordering.TheVariants.{Less, Equal, Greater}
use Rattle.js_doc.specs.Members.{name_cmp, has_name}
use Rattle.js_doc.specs.Value.{Named}
use Rattle.js_assert.specs.Objects.{without, sorted_with}
use Rattle.js_assert.specs.Names.{names_seen}

abbrev Keys : Type 0
Keys = List (Bor (List ℕ))

abbrev lent_cmp : Bor (List ℕ) → Bor (List ℕ) → Ordering
lent_cmp a b = slice_cmp nat_cmp a.now b.now

seen-match_ordering : (o : Ordering) (a b c : Keys)
    → names_seen (match_ordering o a b c) ≡ match_ordering o (names_seen a) (names_seen b) (names_seen c)
seen-match_ordering Less a b c = refl
seen-match_ordering Equal a b c = refl
seen-match_ordering Greater a b c = refl

-- a set of names is seen as the names in order
names-insert_key : (ks : Keys) (k : Bor (List ℕ))
    → names_seen (insert_key lent_cmp ks k) ≡ insert_key name_cmp (names_seen ks) k.now
names-insert_key [] k = refl
names-insert_key (x ∷ ks) k = seen-match_ordering (lent_cmp k x) _ _ _ ∙ rw (names-insert_key ks k)

pub sorted_with-append : (sorted xs ys : List (List ℕ))
    → sorted_with sorted (xs ++ ys) ≡ sorted_with (sorted_with sorted xs) ys
sorted_with-append sorted [] ys = refl
sorted_with-append sorted (x ∷ xs) ys = sorted_with-append (insert_key name_cmp sorted x) xs ys

-- a name that is absent goes into the set
pub absent_more : (ms : Named) (names : List (List ℕ)) (i : ℕ) (name : List ℕ) (old new : Keys) (k : Bor (List ℕ))
    → i < length names → name ≡ get_or names i name → has_name name ms ≡ false → k.now ≡ name
    → new ≡ insert_key lent_cmp old k
    → sorted_with (names_seen new) (without ms (drop (i + 1) names))
    ≡ sorted_with (names_seen old) (without ms (drop i names))
absent_more ms names i name old new k low here absent same grown =
    let rest = drop (i + 1) names in
    let first : drop i names ≡ name ∷ rest = drop_more names i name low ∙ ap (λ n. n ∷ rest) (sym here) in
    let kept : without ms (name ∷ rest)
    ≡ name ∷ without ms rest = ap (λ b. cond (not b) (name ∷ without ms rest) (without ms rest)) absent in
    let put : names_seen new ≡ insert_key name_cmp (names_seen old) name =
    ap names_seen grown ∙ names-insert_key old k ∙ ap (insert_key name_cmp (names_seen old)) same in
    ap (λ ks. sorted_with ks (without ms rest)) put
    ∙ sym (ap (sorted_with (names_seen old)) (ap (without ms) first ∙ kept))
