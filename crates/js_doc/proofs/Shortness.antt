-- No list in a value has 2^64 items: one item or member more.
use Rattle.std.proofs.Common.{◌≡◌, ℕ, ◌<◌, ◌^◌, suc, List, [], ◌∷◌, ◌++◌, length, Ordering}
use Rattle.std.proofs.Common.{Less, Equal, Greater, refl, ap, subst, sym}
use Rattle.std.specs.Ordering.{match_ordering}
use Rattle.js_doc.specs.Value.{Value, Named, members}
use Rattle.js_doc.specs.Members.{name_cmp, put}
use Rattle.js_doc.specs.Short.{item_count, IsShort, AreShortItems, AreShortMembers}
use Rattle.js_doc.specs.Seen.{value_of, items_seen}
use Rattle.js_doc.specs.declared.doc.Doc.{Doc}

count_items : (ds : List Doc) → item_count (items_seen ds) ≡ length ds
count_items [] = refl
count_items (d ∷ ds) = ap suc (count_items ds)

pub count_short : (ds : List Doc) → length ds < 2 ^ 64 → item_count (items_seen ds) < 2 ^ 64
count_short ds h = subst (λ n. n < 2 ^ 64) (sym (count_items ds)) h

pub items_short-push : (ds : List Doc) (d : Doc) → AreShortItems (items_seen ds) → IsShort (value_of d)
    → AreShortItems (items_seen (ds ++ d ∷ []))
items_short-push [] d s h = (h, tt)
items_short-push (e ∷ ds) d s h = (s.0, items_short-push ds d s.1 h)

put_short : (k : List ℕ) (v : Value) (m : List ℕ × Value) (ms : Named) (o : Ordering)
    → AreShortMembers (members (m ∷ ms)) → IsShort v → AreShortMembers (members (put k v ms))
    → AreShortMembers (members (match_ordering o ((k, v) ∷ m ∷ ms) ((m.0, v) ∷ ms) (m ∷ put k v ms)))
put_short k v m ms Less s h more = (h, s)
put_short k v m ms Equal s h more = (h, s.1)
put_short k v m ms Greater s h more = (s.0, more)

pub members_short-put : (k : List ℕ) (v : Value) (ms : Named) → AreShortMembers (members ms) → IsShort v
    → AreShortMembers (members (put k v ms))
members_short-put k v [] s h = (h, tt)
members_short-put k v (m ∷ ms) s h = put_short k v m ms (name_cmp k m.0) s h (members_short-put k v ms s.1 h)
