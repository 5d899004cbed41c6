-- What stands in a value nests less deep than it does: for a recursion down a value in another crate, whose
-- measure is `depth (value_of doc)`.
use Rattle.std.proofs.Common.{◌≡◌, ℕ, ◌<◌, ◌≤◌, zero, suc, map, List, [], ◌∷◌, ◌++◌, length}
use Rattle.std.proofs.Common.{get_or, subst, sym, ap, ◌∙◌, arith}
use Rattle.js_doc.specs.Value.{Values, Named, items, members, list, object}
use Rattle.js_doc.specs.Nesting.{depth, values_depth, named_depth, items_depth, members_depth}
use Rattle.js_doc.specs.Seen.{value_of, pair_of, items_seen, members_seen}
use Rattle.js_doc.specs.declared.doc.Doc.{Doc}

item_le : (ds : List Doc) (i : ℕ) (d : Doc) → i < length ds
    → depth (value_of (get_or ds i d)) ≤ items_depth (items_seen ds)
item_le [] i d h = absurd (omega arith)
item_le (x ∷ ds) zero d h = omega arith
item_le (x ∷ ds) (suc i) d h = let more : depth (value_of (get_or ds i d))
    ≤ items_depth (items_seen ds) = item_le ds i d (omega (arith, h)) in omega (arith, more)

-- the item at i of a slice that is seen as these items
pub item_smaller : (ds : List Doc) (vs : Values) (i : ℕ) (x d : Doc) → map value_of ds ≡ vs → i < length ds
    → get_or ds i d ≡ x → depth (value_of x) < depth (list (items vs))
item_smaller ds vs i x d seen low at =
    let le : depth (value_of x) ≤ values_depth vs =
    subst (λ y. depth (value_of y) ≤ values_depth vs) at (subst
    (λ ws. depth (value_of (get_or ds i d)) ≤ values_depth ws) seen (item_le ds i d low)) in omega (arith, le)

member_le : (done : List (List ℕ × Doc)) (e : List ℕ × Doc) (more : List (List ℕ × Doc))
    → depth (value_of e.1) ≤ members_depth (members_seen (done ++ e ∷ more))
member_le [] e more = omega arith
member_le (x ∷ done) e more = omega (arith, member_le done e more)

-- a pair among those that `pairs` gives, of an object that is seen as these members
pub member_smaller : (es done : List (List ℕ × Doc)) (e : List ℕ
    × Doc) (more : List (List ℕ × Doc)) (ms : Named) → map pair_of es ≡ ms → es ≡ done ++ e ∷ more
    → depth (value_of e.1) < depth (object (members ms))
member_smaller es done e more ms seen split =
    let le : depth (value_of e.1) ≤ named_depth ms = subst (λ ns. depth (value_of e.1) ≤ named_depth ns)
    (ap (map pair_of) (sym split) ∙ seen) (member_le done e more) in omega (arith, le)
