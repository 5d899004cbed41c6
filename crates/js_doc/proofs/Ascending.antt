-- The names of a value's objects ascend: one item or member more.
use Rattle.std.proofs.Common.{◌≡◌, ℕ, List, [], ◌∷◌, ◌++◌, Ordering, Less, Equal, Greater, refl, ap, ◌∙◌}
use Rattle.std.proofs.lemmas.Cmp.{nat_list_cmp_total}
use Rattle.std.specs.Ordering.{match_ordering, ordering_reverse}
use Rattle.js_doc.specs.Value.{Value, Named, members}
use Rattle.js_doc.specs.Members.{name_cmp, put, IsBelowHead, IsAscending, IsBelowFirst, NamesAscend}
use Rattle.js_doc.specs.Members.{NamesAscendInItems, NamesAscendInMembers}
use Rattle.js_doc.specs.Seen.{value_of, items_seen}
use Rattle.js_doc.specs.declared.doc.Doc.{Doc}

pub items_ascend-push : (ds : List Doc) (d : Doc) → NamesAscendInItems (items_seen ds) → NamesAscend (value_of d)
    → NamesAscendInItems (items_seen (ds ++ d ∷ []))
items_ascend-push [] d s h = (h, tt)
items_ascend-push (e ∷ ds) d s h = (s.0, items_ascend-push ds d s.1 h)

below_put : (first k : List ℕ) (v : Value) (m : List ℕ × Value) (ms : Named) (o : Ordering) → name_cmp first k ≡ Less
    → name_cmp first m.0 ≡ Less
    → IsBelowFirst first (members (match_ordering o ((k, v) ∷ m ∷ ms) ((m.0, v) ∷ ms) (m ∷ put k v ms)))
below_put first k v m ms Less h s = h
below_put first k v m ms Equal h s = s
below_put first k v m ms Greater h s = s

-- a name that is below k and below the members is below the members with k among them
below_first-put : (first k : List ℕ) (v : Value) (ms : Named) → name_cmp first k ≡ Less
    → IsBelowFirst first (members ms) → IsBelowFirst first (members (put k v ms))
below_first-put first k v [] h s = h
below_first-put first k v (m ∷ ms) h s = below_put first k v m ms (name_cmp k m.0) h s

put_ascends : (k : List ℕ) (v : Value) (m : List ℕ × Value) (ms : Named) (o : Ordering) → name_cmp k m.0 ≡ o
    → NamesAscendInMembers (members (m ∷ ms)) → NamesAscend v
    → NamesAscendInMembers (members (put k v ms))
    → NamesAscendInMembers (members (match_ordering o ((k, v) ∷ m ∷ ms) ((m.0, v) ∷ ms) (m ∷ put k v ms)))
put_ascends k v m ms Less e s h more = (e, h, s)
put_ascends k v m ms Equal e s h more = (s.0, h, s.2)
put_ascends k v m ms Greater e s h more =
    (below_first-put m.0 k v ms (nat_list_cmp_total.antisymm m.0 k ∙ ap ordering_reverse e) s.0, s.1, more)

pub members_ascend-put : (k : List ℕ) (v : Value) (ms : Named) → NamesAscendInMembers (members ms) → NamesAscend v
    → NamesAscendInMembers (members (put k v ms))
members_ascend-put k v [] s h = (tt, h, tt)
members_ascend-put k v (m ∷ ms) s h = put_ascends k v m ms (name_cmp k m.0) refl s h (members_ascend-put k v ms s.2 h)

below_head : (k : List ℕ) (ms : Named) → IsBelowFirst k (members ms) → IsBelowHead k ms
below_head k [] s = tt
below_head k (m ∷ ms) s = s

-- members whose names ascend, as a list
pub members_ascend-list : (ms : Named) → NamesAscendInMembers (members ms) → IsAscending ms
members_ascend-list [] s = tt
members_ascend-list (m ∷ ms) s = (below_head m.0 ms s.0, members_ascend-list ms s.2)
