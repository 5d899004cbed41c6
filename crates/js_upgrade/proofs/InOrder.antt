-- Members in the order of their names, gathered one after the other, are as they were.
use Rattle.std.proofs.Common.{◌≡◌, [], ◌∷◌, ◌++◌, Less}
use Rattle.std.proofs.Common.{Greater, refl, sym, ap, ◌∙◌, subst, append_assoc}
use Rattle.std.proofs.lemmas.Cmp.{nat_list_cmp_total}
use Rattle.std.proofs.lemmas.List.{append-nil}
use Rattle.std.specs.Ordering.{ordering_reverse}
use Rattle.js_doc.specs.Value.{Value, Text, Named, members}
use Rattle.js_doc.specs.Members.{name_cmp, put, IsBelowHead, IsAscending}
use Rattle.js_upgrade.specs.Schema.{gathered_members, one}
use Rattle.js_upgrade.specs.Upgrade.{members_upgraded}
use Rattle.js_upgrade.specs.declared.dialect.Dialect.{Dialect}
use Rattle.js_upgrade.specs.declared.holding.SchemaHolding.{SchemaHolding}

-- the first name is below one that stands further on
first_below : (m : Text × Value) (ms : Named) (k : Text) (v : Value) (rest : Named)
    → IsAscending (m ∷ (ms ++ (k, v) ∷ rest)) → name_cmp m.0 k ≡ Less
first_below m [] k v rest s = s.0
first_below m (n ∷ ms) k v rest s = nat_list_cmp_total.trans m.0 n.0 k s.0 (first_below n ms k v rest s.1)

put_last : (ms : Named) (k : Text) (v : Value) (rest : Named) → IsAscending (ms ++ (k, v) ∷ rest)
    → put k v ms ≡ ms ++ (k, v) ∷ []
put_last [] k v rest s = refl
put_last (m ∷ ms) k v rest s =
    let after : name_cmp k m.0 ≡ Greater =
    nat_list_cmp_total.antisymm k m.0 ∙ ap ordering_reverse (first_below m ms k v rest s) in
    rw after (ap (λ ns. m ∷ ns) (put_last ms k v rest s.1))

gathered_behind : (done ms : Named) → IsAscending (done ++ ms) → gathered_members one ms done ≡ done ++ ms
gathered_behind done [] s = sym (append-nil done)
gathered_behind done (m ∷ ms) s =
    let more : done ++ m ∷ ms ≡ (done ++ m ∷ []) ++ ms = sym (append_assoc done (m ∷ []) ms) in
    ap (gathered_members one ms) (put_last done m.0 m.1 ms s)
    ∙ gathered_behind (done ++ m ∷ []) ms (subst IsAscending more s) ∙ sym more

pub gathered_one : (ms : Named) → IsAscending ms → gathered_members one ms [] ≡ ms
gathered_one ms s = gathered_behind [] ms s

-- upgraded members have the names that they had
below_names : (held : Text → SchemaHolding) (d : Dialect) (k : Text) (ms : Named) → IsBelowHead k ms
    → IsBelowHead k (members_upgraded held d (members ms))
below_names held d k [] s = tt
below_names held d k (m ∷ ms) s = s

pub names_ascend : (held : Text → SchemaHolding) (d : Dialect) (ms : Named) → IsAscending ms
    → IsAscending (members_upgraded held d (members ms))
names_ascend held d [] s = tt
names_ascend held d (m ∷ ms) s = (below_names held d m.0 ms s.0, names_ascend held d ms s.1)
