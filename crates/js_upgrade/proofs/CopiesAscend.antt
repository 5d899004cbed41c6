-- Names ascend in each copy, and so in documents with copies.
use Rattle.std.proofs.Common.{◌≡◌, ℕ, ◌+◌, [], ◌∷◌, Bool, true, false, Option, Some, None, cond, map}
use Rattle.std.proofs.Common.{zero, suc, option_and_then, option_map, slice_get, slice_set, unwrap_or, refl, sym, ap}
use Rattle.std.proofs.Common.{subst, Ordering, Less, Equal, Greater}
use Rattle.std.specs.List.{AllByRecursion}
use Rattle.std.specs.Ordering.{match_ordering}
use Rattle.js_doc.specs.Lawful.{IsLawful}
use Rattle.js_doc.specs.Lookup.{is_text, item_named, member_named, part_named}
use Rattle.js_doc.specs.Members.{NamesAscend, NamesAscendInItems, NamesAscendInMembers, get, name_cmp, put}
use Rattle.js_doc.specs.Parts.{member_list, members_of}
use Rattle.js_doc.specs.Pointer.{Tokens}
use Rattle.js_doc.specs.Value.{Value, null, truth, whole, text, list, object, Items, no_items, item, Members}
use Rattle.js_doc.specs.Value.{no_members, member, members, Text, Named}
use Rattle.js_doc.proofs.Ascending.{members_ascend-put}
use Rattle.js_doc.proofs.PartLists.{members-member_list}
use Rattle.js_upgrade.specs.Apart.{apart, copy_of, definitions_of, if_schema, holds_schema}
use Rattle.js_upgrade.specs.Apart.{under_name}
use Rattle.js_upgrade.specs.Apart.{onward}
use Rattle.js_upgrade.specs.Apart.{takes_copies}
use Rattle.js_upgrade.specs.Copies.{Copies, copies_of, document_roots, is_copied, no_copies, root_with}
use Rattle.js_upgrade.specs.Copies.{sources_with, with_copy, with_member}
use Rattle.js_upgrade.specs.CopyName.{definitions_name, free_name}
use Rattle.js_upgrade.specs.Moved.{step}
use Rattle.js_upgrade.specs.Schema.{members_found, put_all}
use Rattle.js_upgrade.specs.Source.{Sources, source_dialect}
use Rattle.js_upgrade.specs.declared.dialect.Dialect.{Dialect}
use Rattle.js_upgrade.specs.declared.holding.SchemaHolding.{SchemaHolding}
use Rattle.js_upgrade.specs.declared.holding.SchemaHolding.TheVariants.{One}
use Rattle.js_upgrade.specs.declared.moving.Held.{Held}
use Rattle.js_upgrade.proofs.WithoutCopies.{all_roots, sources_kept}

-- ---- a value, if there is one

abbrev ValueAscends : Option Value → Type 0
ValueAscends None = Unit {0}
ValueAscends (Some v) = NamesAscend v

abbrev MemberAscends : Option (Text × Value) → Type 0
MemberAscends None = Unit {0}
MemberAscends (Some m) = NamesAscend m.1

through : (k : Value → Option Value) (found : Option Value) → ValueAscends found
    → ((v : Value) → NamesAscend v → ValueAscends (k v)) → ValueAscends (option_and_then k found)
through k None f step = tt
through k (Some v) f step = step v f

held_through : (k : Held → Option Value) (held : Option Held) → ((h : Held) → ValueAscends (k h))
    → ValueAscends (option_and_then k held)
held_through k None step = tt
held_through k (Some h) step = step h

some_if : (b : Bool) (v : Value) → NamesAscend v → ValueAscends (cond b None (Some v))
some_if true v s = tt
some_if false v s = s

either : (b : Bool) (v : Value) (found : Option Value) → NamesAscend v → ValueAscends found
    → ValueAscends (cond b (Some v) found)
either true v found s f = s
either false v found s f = f

-- ---- what stands in a value

item_ascends : (token : Text) (n : ℕ) (vs : Items) → NamesAscendInItems vs → ValueAscends (item_named token n vs)
item_ascends token n no_items s = tt
item_ascends token n (item v vs) s =
    either _ v (item_named token (n + 1) vs) s.0 (item_ascends token (n + 1) vs s.1)

member_ascends : (token : Text) (ms : Members) → NamesAscendInMembers ms → ValueAscends (member_named token ms)
member_ascends token no_members s = tt
member_ascends token (member k v ms) s =
    either (is_text token k) v (member_named token ms) s.1 (member_ascends token ms s.2)

part_ascends : (token : Text) (v : Value) → NamesAscend v → ValueAscends (part_named token v)
part_ascends token (list vs) s = item_ascends token 0 vs s
part_ascends token (object ms) s = member_ascends token ms s
part_ascends token null s = tt
part_ascends token (truth b) s = tt
part_ascends token (whole z) s = tt
part_ascends token (text t) s = tt

apart_ascends : (tokens : Tokens) (h : SchemaHolding) (d : Dialect) (v : Value) → NamesAscend v
    → ValueAscends (apart h d v tokens)
apart_ascends [] h d v s = some_if (holds_schema h) v s
apart_ascends (token ∷ rest) h d v s =
    through (λ part. option_and_then (λ held. apart held.holding held.dialect part rest)
    (onward (step h d v token part rest) part rest)) (part_named token v) (part_ascends token v s)
    (λ part t. held_through (λ held. apart held.holding held.dialect part rest)
    (onward (step h d v token part rest) part rest)
    (λ held. apart_ascends rest held.holding held.dialect part t))

if_schema_ascends : (v : Value) → NamesAscend v → ValueAscends (if_schema v)
if_schema_ascends (object ms) s = s
if_schema_ascends (truth b) s = tt
if_schema_ascends null s = tt
if_schema_ascends (whole z) s = tt
if_schema_ascends (text t) s = tt
if_schema_ascends (list vs) s = tt

named_ascends : (v : Value) (name : Option Text) → NamesAscend v → MemberAscends (option_map (under_name v) name)
named_ascends v None s = tt
named_ascends v (Some t) s = s

member_through : (k : Value → Option (Text × Value)) (found : Option Value) → ValueAscends found
    → ((v : Value) → NamesAscend v → MemberAscends (k v)) → MemberAscends (option_and_then k found)
member_through k None f step = tt
member_through k (Some v) f step = step v f

member_if : (b : Bool) (found : Option (Text × Value)) → MemberAscends found → MemberAscends (cond b found None)
member_if true found f = f
member_if false found f = tt

copy_ascends : (d : Dialect) (root : Value) (tokens : Tokens) → NamesAscend root
    → MemberAscends (copy_of d root tokens)
copy_ascends d root tokens s =
    member_if (takes_copies d root) _
    (member_through (λ v. option_map (under_name v) (free_name (definitions_of d root) tokens))
    (option_and_then if_schema (apart One d root tokens))
    (through if_schema (apart One d root tokens) (apart_ascends tokens One d root s)
    (λ v t. if_schema_ascends v t))
    (λ v t. named_ascends v (free_name (definitions_of d root) tokens) t))

-- ---- the copies of each document

abbrev Ascend : Named → Type 0
Ascend ms = NamesAscendInMembers (members ms)

set_ascends : (copies : Copies) (n : ℕ) (ms : Named) → AllByRecursion Ascend copies → Ascend ms
    → AllByRecursion Ascend (slice_set copies n ms)
set_ascends [] n ms all s = tt
set_ascends (c ∷ copies) zero ms all s = (s, all.1)
set_ascends (c ∷ copies) (suc n) ms all s = (all.0, set_ascends copies n ms all.1 s)

got_ascends : (copies : Copies) (n : ℕ) (ms : Named) → AllByRecursion Ascend copies → slice_get copies n ≡ Some ms
    → Ascend ms
got_ascends [] n ms all is = absurd (cc)
got_ascends (c ∷ copies) zero ms all is = subst Ascend (ap (λ o. unwrap_or o c) is) all.0
got_ascends (c ∷ copies) (suc n) ms all is = got_ascends copies n ms all.1 is

with_member_ascends : (m : Text × Value) (n : ℕ) (copies : Copies) (found : Option Named)
    → ((ms : Named) → found ≡ Some ms → Ascend ms) → NamesAscend m.1 → AllByRecursion Ascend copies
    → AllByRecursion Ascend (with_member m n copies found)
with_member_ascends m n copies None got s all = all
with_member_ascends m n copies (Some ms) got s all =
    set_ascends copies n (put m.0 m.1 ms) all (members_ascend-put m.0 m.1 ms (got ms refl) s)

either_ascend : (b : Bool) (xs ys : Copies) → AllByRecursion Ascend xs → AllByRecursion Ascend ys
    → AllByRecursion Ascend (cond b xs ys)
either_ascend true xs ys s t = s
either_ascend false xs ys s t = t

with_copy_ascends : (n : ℕ) (copy : Option (Text × Value)) (copies : Copies) → MemberAscends copy
    → AllByRecursion Ascend copies → AllByRecursion Ascend (with_copy n copy copies)
with_copy_ascends n None copies s all = all
with_copy_ascends n (Some m) copies s all =
    either_ascend (is_copied m.0 (slice_get copies n)) copies (with_member m n copies (slice_get copies n)) all
    (with_member_ascends m n copies (slice_get copies n) (λ ms is. got_ascends copies n ms all is) s all)

none_ascend : (sources : Sources) → AllByRecursion Ascend (map no_copies sources)
none_ascend [] = tt
none_ascend (s ∷ ss) = (tt, none_ascend ss)

roots_ascend : (sources : Sources) → AllByRecursion (λ s. IsLawful s.root) sources
    → AllByRecursion (λ s. NamesAscend s.root) sources
roots_ascend [] l = tt
roots_ascend (s ∷ ss) l = (l.0.0, roots_ascend ss l.1)

copies_ascend : (sources : Sources) → AllByRecursion (λ s. NamesAscend s.root) sources
    → AllByRecursion Ascend (copies_of sources)
copies_ascend sources l =
    sources_kept (λ r. NamesAscend r.root) (AllByRecursion Ascend)
    (λ n tokens r copies s all. with_copy_ascends n (copy_of r.dialect r.root tokens) copies
    (copy_ascends r.dialect r.root tokens s) all)
    (document_roots sources) (all_roots (λ d v. NamesAscend v) sources l) sources (map no_copies sources)
    (none_ascend sources)

-- ---- a document with copies

put_all_ascends : (ms among : Named) → Ascend ms → Ascend among → Ascend (put_all ms among)
put_all_ascends [] among s t = t
put_all_ascends (m ∷ ms) among s t =
    put_all_ascends ms (put m.0 m.1 among) s.2 (members_ascend-put m.0 m.1 among t s.1)

get_by : (o : Ordering) (v : Value) (found : Option Value) → NamesAscend v → ValueAscends found
    → ValueAscends (match_ordering o found (Some v) found)
get_by Less v found s f = f
get_by Equal v found s f = s
get_by Greater v found s f = f

get_ascends : (name : Text) (ms : Named) → Ascend ms → ValueAscends (get name ms)
get_ascends name [] s = tt
get_ascends name (m ∷ ms) s = get_by (name_cmp name m.0) m.1 (get name ms) s.1 (get_ascends name ms s.2)

list_ascends : (ms : Members) → NamesAscendInMembers ms → Ascend (member_list ms)
list_ascends ms s = subst NamesAscendInMembers (sym (members-member_list ms)) s

members_of_ascend : (v : Value) → NamesAscend v → Ascend (members_of v)
members_of_ascend (object ms) s = list_ascends ms s
members_of_ascend null s = tt
members_of_ascend (truth b) s = tt
members_of_ascend (whole z) s = tt
members_of_ascend (text t) s = tt
members_of_ascend (list vs) s = tt

found_ascend : (found : Option Value) → ValueAscends found → Ascend (members_found found)
found_ascend None f = tt
found_ascend (Some v) f = members_of_ascend v f

root_ascends : (d : Option Dialect) (copies : Named) (root : Value) → Ascend copies → NamesAscend root
    → NamesAscend (root_with d copies root)
root_ascends None copies root c s = s
root_ascends (Some d) [] root c s = s
root_ascends (Some d) (m ∷ ms) (object ns) c s =
    members_ascend-put (definitions_name d)
    (object (members (put_all (m ∷ ms) (definitions_of d (object ns))))) (member_list ns) (list_ascends ns s)
    (put_all_ascends (m ∷ ms) (definitions_of d (object ns)) c
    (found_ascend (get (definitions_name d) (member_list ns))
    (get_ascends (definitions_name d) (member_list ns) (list_ascends ns s))))
root_ascends (Some d) (m ∷ ms) null c s = s
root_ascends (Some d) (m ∷ ms) (truth b) c s = s
root_ascends (Some d) (m ∷ ms) (whole z) c s = s
root_ascends (Some d) (m ∷ ms) (text t) c s = s
root_ascends (Some d) (m ∷ ms) (list vs) c s = s

with_ascend : (copies : Copies) (sources : Sources) → AllByRecursion Ascend copies
    → AllByRecursion (λ s. NamesAscend s.root) sources
    → AllByRecursion (λ s. NamesAscend s.root) (sources_with copies sources)
with_ascend copies [] c l = tt
with_ascend [] (s ∷ ss) c l = l
with_ascend (m ∷ copies) (s ∷ ss) c l =
    (root_ascends (source_dialect s) m s.root c.0 l.0, with_ascend copies ss c.1 l.1)

pub copied_ascend : (sources : Sources) → AllByRecursion (λ s. IsLawful s.root) sources
    → AllByRecursion (λ s. NamesAscend s.root) (sources_with (copies_of sources) sources)
copied_ascend sources l =
    with_ascend (copies_of sources) sources (copies_ascend sources (roots_ascend sources l)) (roots_ascend sources l)
