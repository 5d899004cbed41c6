-- Members that are gathered: what is there when some are.
use Rattle.std.proofs.Common.{◌≡◌, ◌≢◌, ◌++◌, List, [], ◌∷◌, map, refl}
use Rattle.js_doc.specs.Value.{list, object, items, members, Text, Named}
use Rattle.js_doc.specs.Seen.{value_of}
use Rattle.js_doc.proofs.PartLists.{item_list-items, member_list-members}
use Rattle.js_doc.specs.declared.doc.Doc.{Doc}
use Rattle.js_upgrade.specs.Schema.{one, put_all, some_items, some_members}

pub some_items_of : (name : Text) (ds : List Doc) → ds ≢ [] → some_items name (map value_of ds)
    ≡ one name (list (items (map value_of ds)))
some_items_of name [] some = absurd (some refl)
some_items_of name (d ∷ ds) some = refl

pub some_members_of : (name : Text) (ms : Named) → ms ≢ [] → some_members name ms ≡ one name (object (members ms))
some_members_of name [] some = absurd (some refl)
some_members_of name (m ∷ ms) some = refl

-- one list after the other
pub put_all-append : (ms ns among : Named) → put_all (ms ++ ns) among ≡ put_all ns (put_all ms among)
put_all-append [] ns among = refl
put_all-append (m ∷ ms) ns among = put_all-append ms ns _

pub ruleset gathering_rules = (put_all-append, member_list-members, item_list-items)
