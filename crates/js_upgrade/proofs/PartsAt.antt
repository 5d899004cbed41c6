-- What stands in an object or a list, and in what they are upgraded to.
use Rattle.std.proofs.Common.{◌≡◌, ℕ, ◌+◌, [], ◌∷◌, ◌++◌, Bool, true, false, Option, Some, None, cond}
use Rattle.std.proofs.Common.{Ordering, Less, Equal, Greater, decimal, option_and_then, option_map, refl, sym, ap, ◌∙◌}
use Rattle.std.proofs.Common.{subst, codes}
use Rattle.std.specs.Fmt.{digits}
use Rattle.std.specs.Ordering.{match_ordering}
use Rattle.js_doc.specs.Lookup.{at, is_text, item_named, member_named}
use Rattle.js_doc.specs.Members.{get, name_cmp}
use Rattle.js_doc.specs.Parts.{member_list}
use Rattle.js_doc.specs.Pointer.{Tokens}
use Rattle.js_doc.specs.Value.{Value, list, object, Items, no_items, item, items, Members, no_members, member, members}
use Rattle.js_doc.specs.Value.{Text, Named}
use Rattle.js_doc.proofs.FiniteMaps.{get-put, name_equal}
use Rattle.js_doc.proofs.PartLists.{members-member_list}
use Rattle.js_doc.proofs.TokenLookup.{member_is}
use Rattle.js_upgrade.specs.Moved.{just}
use Rattle.js_upgrade.specs.Schema.{one, put_all}
use Rattle.js_upgrade.specs.Upgrade.{items_upgraded, members_upgraded, upgraded}
use Rattle.js_upgrade.specs.declared.dialect.Dialect.{Dialect}
use Rattle.js_upgrade.specs.declared.holding.SchemaHolding.{SchemaHolding}
use Rattle.js_upgrade.specs.declared.holding.SchemaHolding.TheVariants.{One}
use Rattle.js_upgrade.proofs.Gathered.{put_all-append}

-- ---- in an object

pub found_at : (n : Text) (w : Value) (inner : Tokens) (ks : Named) (x : Value) → get n ks ≡ Some w
    → at inner w ≡ Some x → at (n ∷ inner) (object (members ks)) ≡ Some x
found_at n w inner ks x found below = ap (option_and_then (at inner)) (member_is n ks ∙ found) ∙ below

abbrev pub tokens_or_none : Option Tokens → Tokens
tokens_or_none None = []
tokens_or_none (Some tokens) = tokens

pub single : (n : Text) (w : Value) (ts inner : Tokens) (ks : Named) (x : Value) → just n ≡ Some ts
    → get n ks ≡ Some w → at inner w ≡ Some x → at (ts ++ inner) (object (members ks)) ≡ Some x
single n w ts inner ks x same found below =
    subst (λ t. at (t ++ inner) (object (members ks)) ≡ Some x) (ap tokens_or_none same)
    (found_at n w inner ks x found below)

-- its index
unfolded_zero : decimal 0 ≡ codes "0"
unfolding digits
unfolded_zero = refl

-- the first item of a list
pub first : (n : Text) (w : Value) (ts inner : Tokens) (ks : Named) (x : Value)
    → Some (n ∷ codes "0" ∷ []) ≡ Some ts → get n ks ≡ Some (list (item w no_items)) → at inner w ≡ Some x
    → at (ts ++ inner) (object (members ks)) ≡ Some x
first n w ts inner ks x same found below =
    subst (λ t. at (t ++ inner) (object (members ks)) ≡ Some x) (ap tokens_or_none same)
    (found_at n (list (item w no_items)) (codes "0" ∷ inner) ks x found
    (ap (λ k. option_and_then (at inner) (cond (is_text (codes "0") k) (Some w) None)) unfolded_zero ∙ below))

-- the last of what is put
pub get_last : (n : Text) (w : Value) (ms : Named) → get n (put_all (ms ++ one n w) []) ≡ Some w
get_last n w ms = ap (get n) (put_all-append ms (one n w) []) ∙ get-put n w (put_all ms [])

-- ---- names of members and items

get_upgraded_by : (k name : Text) (held : Text → SchemaHolding) (d : Dialect) (v : Value) (new old : Option Value)
    (o : Ordering) → name_cmp k name ≡ o → new ≡ option_map (upgraded (held k) d) old
    → match_ordering o new (Some (upgraded (held name) d v)) new
    ≡ option_map (upgraded (held k) d) (match_ordering o old (Some v) old)
get_upgraded_by k name held d v new old Less is same = same
get_upgraded_by k name held d v new old Equal is same =
    ap (λ n. Some (upgraded (held n) d v)) (sym (name_equal k name is))
get_upgraded_by k name held d v new old Greater is same = same

-- a member is upgraded as it is held
pub get_upgraded : (held : Text → SchemaHolding) (d : Dialect) (k : Text) (ms : Members)
    → get k (members_upgraded held d ms) ≡ option_map (upgraded (held k) d) (get k (member_list ms))
get_upgraded held d k no_members = refl
get_upgraded held d k (member name v ms) =
    get_upgraded_by k name held d v (get k (members_upgraded held d ms)) (get k (member_list ms)) (name_cmp k name) refl
    (get_upgraded held d k ms)

item_by : (b : Bool) (d : Dialect) (v : Value) (new old : Option Value) → new ≡ option_map (upgraded One d) old
    → cond b (Some (upgraded One d v)) new ≡ option_map (upgraded One d) (cond b (Some v) old)
item_by true d v new old same = refl
item_by false d v new old same = same

pub item_upgraded : (d : Dialect) (token : Text) (n : ℕ) (vs : Items)
    → item_named token n (items (items_upgraded d vs)) ≡ option_map (upgraded One d) (item_named token n vs)
item_upgraded d token n no_items = refl
item_upgraded d token n (item v vs) =
    item_by (is_text token (decimal n)) d v (item_named token (n + 1) (items (items_upgraded d vs)))
    (item_named token (n + 1) vs) (item_upgraded d token (n + 1) vs)

pub member_at : (token : Text) (ms : Members) → member_named token ms ≡ get token (member_list ms)
member_at token ms = ap (member_named token) (sym (members-member_list ms)) ∙ member_is token (member_list ms)
