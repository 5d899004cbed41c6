-- What stands at moved tokens, in what a keyword becomes.
use Rattle.std.proofs.Common.{◌≡◌, ℕ, ◌+◌, [], ◌∷◌, ◌++◌, Bool, true, false, ◌||◌, Option, Some, None, cond}
use Rattle.std.proofs.Common.{decimal, map, option_and_then, option_map, refl, sym, ap, ◌∙◌, subst, codes, bytes_eq}
use Rattle.std.specs.List.{list_any}
use Rattle.js_doc.specs.Lookup.{at, is_text, item_named}
use Rattle.js_doc.specs.Members.{get, IsAscending, NamesAscend}
use Rattle.js_doc.specs.Parts.{item_list, member_list}
use Rattle.js_doc.specs.Pointer.{Tokens}
use Rattle.js_doc.specs.Value.{Value, null, truth, whole, text, list, object, Items as ItemList, no_items, item, items}
use Rattle.js_doc.specs.Value.{Members, members, Text, Values, Named}
use Rattle.js_doc.proofs.FiniteMaps.{get-put, get-put_other}
use Rattle.js_doc.proofs.PartLists.{item_list-items, items-item_list, member_list-members, members-member_list}
use Rattle.js_doc.proofs.TokenLookup.{member_is}
use Rattle.js_upgrade.specs.Moved.{alternative_under, both, dependencies_under, dependent_under, just, listed_under}
use Rattle.js_upgrade.specs.Moved.{moved_tokens, negated}
use Rattle.js_upgrade.specs.Moved.{types_under, tokens_under}
use Rattle.js_upgrade.specs.Schema.{alternative, alternatives_upgraded, dependencies_upgraded, dependent_names}
use Rattle.js_upgrade.specs.Schema.{dependent_schema, extends_upgraded, gathered_members, is_any, is_some_list, is_true}
use Rattle.js_upgrade.specs.Schema.{list_or_schema_upgraded, members_found, one, put_all, required_names, some_items}
use Rattle.js_upgrade.specs.Schema.{contains_with_limits, holder, negation, some_members, some_value, types_upgraded}
use Rattle.js_upgrade.specs.Schema.{upgraded_by}
use Rattle.js_upgrade.specs.Upgrade.{holding_by_change, items_upgraded, members_upgraded, upgraded}
use Rattle.js_upgrade.specs.declared.dialect.Dialect.{Dialect}
use Rattle.js_upgrade.specs.declared.keyword.Change.{Change}
use Rattle.js_upgrade.specs.declared.keyword.Change.TheVariants.{Stays, Asserts, Refers}
use Rattle.js_upgrade.specs.declared.keyword.Change.TheVariants.{HoldsOne, HoldsList, HoldsNamed}
use Rattle.js_upgrade.specs.declared.keyword.Change.TheVariants.{Goes, Identifier, Definitions, Items, AdditionalItems}
use Rattle.js_upgrade.specs.declared.keyword.Change.TheVariants.{Dependencies, Minimum, Maximum, Divisor, Types}
use Rattle.js_upgrade.specs.declared.keyword.Change.TheVariants.{Disallowed, Extended, Properties}
use Rattle.js_upgrade.specs.declared.keyword.Change.TheVariants.{Contains, Anchor, RecursiveReference, RecursiveAnchor}
use Rattle.js_upgrade.specs.declared.holding.SchemaHolding.TheVariants.{One, Listed, Named as ByName, OneOrListed}
use Rattle.js_upgrade.proofs.ByCases.{is_plain}
use Rattle.js_upgrade.proofs.Each.{Each}
use Rattle.js_upgrade.proofs.EachOrigin.{from_first, from_second}
use Rattle.js_upgrade.proofs.InOrder.{names_ascend}
use Rattle.js_upgrade.proofs.Lookups.{gathered_get}
use Rattle.js_upgrade.proofs.Origins.{all_from, outputs}
use Rattle.js_upgrade.proofs.PartsAt.{first, found_at, get_last, get_upgraded, item_upgraded, member_at, single}
use Rattle.js_upgrade.proofs.PartsAt.{tokens_or_none}
use Rattle.js_upgrade.proofs.Staying.{ascending}

-- ---- schemas among dependencies

schema_from : (k : Text) (v : Value) → Each (λ l w. l ≡ k) (dependent_schema k v)
schema_from k null = (refl, tt)
schema_from k (truth b) = (refl, tt)
schema_from k (whole z) = (refl, tt)
schema_from k (text t) = tt
schema_from k (list vs) = tt
schema_from k (object ms) = (refl, tt)

schemas_from : (ms : Named) → Each (λ k v. Each (λ l w. l ≡ k) (dependent_schema k v)) ms
schemas_from [] = tt
schemas_from (m ∷ ms) = (schema_from m.0 m.1, schemas_from ms)

-- what is no name, and no list of names, is a schema
schema_put : (k : Text) (d : Dialect) (p : Value) (ts : Tokens) → dependent_under (Some p) ≡ Some ts
    → get k (put_all (dependent_schema k (upgraded One d p)) []) ≡ Some (upgraded One d p)
schema_put k d null ts e = get-put k null []
schema_put k d (truth b) ts e = get-put k (truth b) []
schema_put k d (whole z) ts e = get-put k (whole z) []
schema_put k d (text t) ts e = absurd (cc)
schema_put k d (list vs) ts e = absurd (cc)
schema_put k d (object ms) ts e = get-put k (upgraded One d (object ms)) []

some_there : (n name : Text) (w : Value) (ms : Named) → get name ms ≡ Some w
    → some_members n ms ≡ one n (object (members ms))
some_there n name w [] e = absurd (cc)
some_there n name w (m ∷ ms) e = refl

-- the two tokens of a member, and what is left
abbrev two : Text → Option Tokens → Option Tokens
two name found = both (just name) found

two_is : (name : Text) (found : Option Tokens) (inner : Tokens) → two name found ≡ Some inner
    → (more : Tokens) × (found ≡ Some more) × (inner ≡ name ∷ more)
two_is name None inner e = absurd (cc)
two_is name (Some more) inner e = (more, refl, sym (ap tokens_or_none e))

dependent_is : (p : Value) (ts : Tokens) → dependent_under (Some p) ≡ Some ts
    → just (codes "dependentSchemas") ≡ Some ts
dependent_is null ts e = e
dependent_is (truth b) ts e = e
dependent_is (whole z) ts e = e
dependent_is (text t) ts e = absurd (cc)
dependent_is (list vs) ts e = absurd (cc)
dependent_is (object ms) ts e = e

-- a member of the upgraded object
below_member : (d : Dialect) (name : Text) (ms : Members) (p x : Value) (more : Tokens)
    → get name (member_list ms) ≡ Some p
    → at (name ∷ more) (object (members (members_upgraded (λ _. One) d ms))) ≡ Some x
    → at more (upgraded One d p) ≡ Some x
below_member d name ms p x more found below =
    sym (ap (option_and_then (at more)) (member_is name (members_upgraded (λ _. One) d ms)
    ∙ get_upgraded (λ _. One) d name ms ∙ ap (option_map (upgraded One d)) found)) ∙ below

dependency_at : (d : Dialect) (ms : Members) (name : Text) (rest ts inner : Tokens) (ks : Named) (x p : Value)
    → IsAscending (member_list ms) → get name (member_list ms) ≡ Some p → dependent_under (Some p) ≡ Some ts
    → (more : Tokens) → inner ≡ name ∷ more
    → at inner (object (members (members_upgraded (λ _. One) d ms))) ≡ Some x
    → ((w : Value) → get (codes "dependentSchemas")
    (put_all (dependencies_upgraded (object (members (members_upgraded (λ _. One) d ms)))) []) ≡ Some w
    → get (codes "dependentSchemas") ks ≡ Some w)
    → at (ts ++ inner) (object (members ks)) ≡ Some x
dependency_at d ms name rest ts inner ks x p s found e more is below has =
    let us = members_upgraded (λ _. One) d ms in
    let all = member_list (members us) in
    let names = some_members (codes "dependentRequired") (gathered_members dependent_names all []) in
    let schemas = gathered_members dependent_schema all [] in
    let q = upgraded One d p in
    let got : get name all ≡ Some q = ap (get name) (member_list-members us) ∙ get_upgraded (λ _. One) d name ms
    ∙ ap (option_map (upgraded One d)) found in
    let ascends : IsAscending all = subst IsAscending (sym (member_list-members us))
    (subst (λ ns. IsAscending (members_upgraded (λ _. One) d ns)) (members-member_list ms)
    (names_ascend (λ _. One) d (member_list ms) s)) in
    let there : get name schemas ≡ Some q =
    gathered_get (λ l. l) dependent_schema name all q q ascends (schemas_from all) got (schema_put name d p ts e) in
    let w = object (members schemas) in
    let put : get (codes "dependentSchemas") (put_all (names ++ some_members (codes "dependentSchemas") schemas) [])
    ≡ Some w = ap (λ ns. get (codes "dependentSchemas") (put_all (names ++ ns) []))
    (some_there (codes "dependentSchemas") name q schemas there) ∙ get_last (codes "dependentSchemas") w names in
    let further : at more q ≡ Some x = below_member d name ms p x more found
    (sym (ap (λ t. at t (object (members us))) is) ∙ below) in
    single (codes "dependentSchemas") w ts inner ks x (dependent_is p ts e) (has w put)
    (ap (λ t. at t w) is ∙ found_at name q more schemas x there further)

-- ---- alternatives of a type

any_kept : (d : Dialect) (v : Value) → is_any (upgraded One d v) ≡ is_any v
any_kept d null = refl
any_kept d (truth b) = refl
any_kept d (whole z) = refl
any_kept d (text t) = refl
any_kept d (list vs) = refl
any_kept d (object ms) = refl

anys_kept : (d : Dialect) (vs : ItemList) → list_any is_any (items_upgraded d vs) ≡ list_any is_any (item_list vs)
anys_kept d no_items = refl
anys_kept d (item v vs) =
    ap (λ b. b || list_any is_any (items_upgraded d vs)) (any_kept d v) ∙ ap (λ b. is_any v || b) (anys_kept d vs)

alternative_by : (b : Bool) (v : Value) (new old : Option Value) → new ≡ option_map alternative old
    → cond b (Some (alternative v)) new ≡ option_map alternative (cond b (Some v) old)
alternative_by true v new old same = refl
alternative_by false v new old same = same

alternative_named : (token : Text) (n : ℕ) (vs : Values)
    → item_named token n (items (map alternative vs)) ≡ option_map alternative (item_named token n (items vs))
alternative_named token n [] = refl
alternative_named token n (v ∷ vs) =
    alternative_by (is_text token (decimal n)) v (item_named token (n + 1) (items (map alternative vs)))
    (item_named token (n + 1) (items vs)) (alternative_named token (n + 1) vs)

some_alternatives : (token : Text) (us : Values) (q : Value) → item_named token 0 (items us) ≡ Some q
    → list_any is_any us ≡ false → alternatives_upgraded us ≡ one (codes "anyOf") (list (items (map alternative us)))
some_alternatives token [] q found e = absurd (cc)
some_alternatives token (u ∷ us) q found e =
    ap (λ b. cond b [] (one (codes "anyOf") (list (items (map alternative (u ∷ us)))))) e

alternative_at : (d : Dialect) (vs : ItemList) (index : Text) (ts inner more : Tokens) (ks : Named) (x : Value)
    (ps : Members) → list_any is_any (item_list vs) ≡ false → item_named index 0 vs ≡ Some (object ps)
    → just (codes "anyOf") ≡ Some ts → inner ≡ index ∷ more → at inner (list (items (items_upgraded d vs))) ≡ Some x
    → ((w : Value)
    → get (codes "anyOf") (put_all (types_upgraded (list (items (items_upgraded d vs)))) []) ≡ Some w
    → get (codes "anyOf") ks ≡ Some w)
    → at (ts ++ inner) (object (members ks)) ≡ Some x
alternative_at d vs index ts inner more ks x ps none found e is below has =
    let us = items_upgraded d vs in
    let q = upgraded One d (object ps) in
    let w = list (items (map alternative us)) in
    let got : item_named index 0 (items us) ≡ Some q =
    item_upgraded d index 0 vs ∙ ap (option_map (upgraded One d)) found in
    let put : get (codes "anyOf") (put_all (types_upgraded (list (items us))) []) ≡ Some w =
    ap (λ ns. get (codes "anyOf") (put_all ns [])) (ap alternatives_upgraded (item_list-items us)
    ∙ some_alternatives index us q got (anys_kept d vs ∙ none)) ∙ get-put (codes "anyOf") w [] in
    let further : at more q ≡ Some x =
    sym (ap (option_and_then (at more)) got) ∙ sym (ap (λ t. at t (list (items us))) is) ∙ below in
    single (codes "anyOf") w ts inner ks x e (has w put)
    (ap (λ t. at t w) is
    ∙ ap (option_and_then (at more)) (alternative_named index 0 us ∙ ap (option_map alternative) got) ∙ further)

listed_type_at : (d : Dialect) (vs : ItemList) (index : Text) (rest ts inner : Tokens) (ks : Named) (x : Value)
    (any : Bool) (found : Option Value) → list_any is_any (item_list vs) ≡ any → item_named index 0 vs ≡ found
    → cond any None (alternative_under found) ≡ Some ts
    → option_and_then (λ p. two index (moved_tokens One d p rest)) found ≡ Some inner
    → at inner (list (items (items_upgraded d vs))) ≡ Some x
    → ((w : Value)
    → get (codes "anyOf") (put_all (types_upgraded (list (items (items_upgraded d vs)))) []) ≡ Some w
    → get (codes "anyOf") ks ≡ Some w)
    → at (ts ++ inner) (object (members ks)) ≡ Some x
listed_type_at d vs index rest ts inner ks x true found none is e mv below has = absurd (cc)
listed_type_at d vs index rest ts inner ks x false None none is e mv below has = absurd (cc)
listed_type_at d vs index rest ts inner ks x false (Some null) none is e mv below has = absurd (cc)
listed_type_at d vs index rest ts inner ks x false (Some (truth b)) none is e mv below has = absurd (cc)
listed_type_at d vs index rest ts inner ks x false (Some (whole z)) none is e mv below has = absurd (cc)
listed_type_at d vs index rest ts inner ks x false (Some (text t)) none is e mv below has = absurd (cc)
listed_type_at d vs index rest ts inner ks x false (Some (list ws)) none is e mv below has = absurd (cc)
listed_type_at d vs index rest ts inner ks x false (Some (object ps)) none is e mv below has =
    let t = two_is index (moved_tokens One d (object ps) rest) inner mv in
    alternative_at d vs index ts inner t.0 ks x ps none is e t.2 below has

types_at : (d : Dialect) (part : Value) (rest ts inner : Tokens) (ks : Named) (x : Value)
    → types_under part rest ≡ Some ts → moved_tokens OneOrListed d part rest ≡ Some inner
    → at inner (upgraded OneOrListed d part) ≡ Some x
    → ((w : Value) → get (codes "anyOf") (put_all (types_upgraded (upgraded OneOrListed d part)) []) ≡ Some w
    → get (codes "anyOf") ks ≡ Some w)
    → at (ts ++ inner) (object (members ks)) ≡ Some x
types_at d (object ms) rest ts inner ks x e mv below has =
    let u = upgraded OneOrListed d (object ms) in
    first (codes "anyOf") u ts inner ks x e
    (has (list (item u no_items)) (get-put (codes "anyOf") (list (item u no_items)) [])) below
types_at d (list vs) [] ts inner ks x e mv below has = absurd (cc)
types_at d (list vs) (index ∷ rest) ts inner ks x e mv below has =
    listed_type_at d vs index rest ts inner ks x (list_any is_any (item_list vs)) (item_named index 0 vs) refl refl e mv
    below has
types_at d null rest ts inner ks x e mv below has = absurd (cc)
types_at d (truth b) rest ts inner ks x e mv below has = absurd (cc)
types_at d (whole z) rest ts inner ks x e mv below has = absurd (cc)
types_at d (text t) rest ts inner ks x e mv below has = absurd (cc)

-- ---- items, and extends of draft-03

abbrev rest_listed : Dialect → Value → ItemList → Value
rest_listed d v vs = list (item (upgraded One d v) (items (item_list (items (items_upgraded d vs)))))

listed_at : (n : Text) (d : Dialect) (v : Value) (vs : ItemList) (ts inner : Tokens) (ks : Named) (x : Value)
    → just n ≡ Some ts → get n ks ≡ Some (rest_listed d v vs)
    → at inner (upgraded OneOrListed d (list (item v vs))) ≡ Some x
    → at (ts ++ inner) (object (members ks)) ≡ Some x
listed_at n d v vs ts inner ks x e found below =
    single n (rest_listed d v vs) ts inner ks x e found
    (ap (λ t. at inner (list (item (upgraded One d v) t))) (items-item_list (items (items_upgraded d vs))) ∙ below)

items_at : (d : Dialect) (part : Value) (ts inner : Tokens) (ks : Named) (x : Value)
    → listed_under (codes "prefixItems") (codes "items" ∷ []) part ≡ Some ts
    → at inner (upgraded OneOrListed d part) ≡ Some x
    → ((w : Value) → is_some_list (Some part) ≡ true
    → get (codes "prefixItems") (put_all (list_or_schema_upgraded (upgraded OneOrListed d part)) []) ≡ Some w
    → get (codes "prefixItems") ks ≡ Some w)
    → ((w : Value) → is_some_list (Some part) ≡ false
    → get (codes "items") (put_all (list_or_schema_upgraded (upgraded OneOrListed d part)) []) ≡ Some w
    → get (codes "items") ks ≡ Some w)
    → at (ts ++ inner) (object (members ks)) ≡ Some x
items_at d (list no_items) ts inner ks x e below has other = absurd (cc)
items_at d (list (item v vs)) ts inner ks x e below has other =
    listed_at (codes "prefixItems") d v vs ts inner ks x e
    (has (rest_listed d v vs) refl (get-put (codes "prefixItems") (rest_listed d v vs) [])) below
items_at d null ts inner ks x e below has other =
    single (codes "items") null ts inner ks x e (other null refl (get-put (codes "items") null [])) below
items_at d (truth b) ts inner ks x e below has other =
    single (codes "items") (truth b) ts inner ks x e (other (truth b) refl (get-put (codes "items") (truth b) [])) below
items_at d (whole z) ts inner ks x e below has other =
    single (codes "items") (whole z) ts inner ks x e (other (whole z) refl (get-put (codes "items") (whole z) [])) below
items_at d (text t) ts inner ks x e below has other =
    single (codes "items") (text t) ts inner ks x e (other (text t) refl (get-put (codes "items") (text t) [])) below
items_at d (object ms) ts inner ks x e below has other =
    let u = upgraded OneOrListed d (object ms) in
    single (codes "items") u ts inner ks x e (other u refl (get-put (codes "items") u [])) below

abbrev alone : Value → Value
alone v = list (item v no_items)

extends_at : (d : Dialect) (part : Value) (ts inner : Tokens) (ks : Named) (x : Value)
    → listed_under (codes "allOf") (codes "allOf" ∷ codes "0" ∷ []) part ≡ Some ts
    → at inner (upgraded OneOrListed d part) ≡ Some x
    → ((w : Value) → get (codes "allOf") (put_all (extends_upgraded (upgraded OneOrListed d part)) []) ≡ Some w
    → get (codes "allOf") ks ≡ Some w)
    → at (ts ++ inner) (object (members ks)) ≡ Some x
extends_at d (list no_items) ts inner ks x e below has = absurd (cc)
extends_at d (list (item v vs)) ts inner ks x e below has =
    listed_at (codes "allOf") d v vs ts inner ks x e
    (has (rest_listed d v vs) (get-put (codes "allOf") (rest_listed d v vs) [])) below
extends_at d null ts inner ks x e below has =
    first (codes "allOf") null ts inner ks x e (has (alone null) (get-put (codes "allOf") (alone null) [])) below
extends_at d (truth b) ts inner ks x e below has =
    first (codes "allOf") (truth b) ts inner ks x e
    (has (alone (truth b)) (get-put (codes "allOf") (alone (truth b)) [])) below
extends_at d (whole z) ts inner ks x e below has =
    first (codes "allOf") (whole z) ts inner ks x e
    (has (alone (whole z)) (get-put (codes "allOf") (alone (whole z)) [])) below
extends_at d (text t) ts inner ks x e below has =
    first (codes "allOf") (text t) ts inner ks x e
    (has (alone (text t)) (get-put (codes "allOf") (alone (text t)) [])) below
extends_at d (object ms) ts inner ks x e below has =
    let u = upgraded OneOrListed d (object ms) in
    first (codes "allOf") u ts inner ks x e (has (alone u) (get-put (codes "allOf") (alone u) [])) below

-- ---- properties of draft-03

other_name : ¬ (codes "properties" ≡ codes "required")
other_name same =
    let wrong : false ≡ true = ap (λ n. bytes_eq n (codes "required")) same in absurd (cc)

properties_got : (u : Value) (vs : Values)
    → get (codes "properties") (put_all (one (codes "properties") u ++ some_items (codes "required") vs) []) ≡ Some u
properties_got u [] = get-put (codes "properties") u []
properties_got u (v ∷ vs) =
    get-put_other (codes "required") (codes "properties") (list (items (v ∷ vs))) (one (codes "properties") u)
    other_name ∙ get-put (codes "properties") u []

-- ---- dependencies

dependencies_by : (d : Dialect) (ms : Members) (name : Text) (rest ts inner : Tokens) (ks : Named) (x : Value)
    (found : Option Value) → get name (member_list ms) ≡ found → IsAscending (member_list ms)
    → dependent_under found ≡ Some ts → option_and_then (λ p. two name (moved_tokens One d p rest)) found ≡ Some inner
    → at inner (object (members (members_upgraded (λ _. One) d ms))) ≡ Some x
    → ((w : Value) → get (codes "dependentSchemas")
    (put_all (dependencies_upgraded (object (members (members_upgraded (λ _. One) d ms)))) []) ≡ Some w
    → get (codes "dependentSchemas") ks ≡ Some w)
    → at (ts ++ inner) (object (members ks)) ≡ Some x
dependencies_by d ms name rest ts inner ks x None found s e mv below has = absurd (cc)
dependencies_by d ms name rest ts inner ks x (Some p) found s e mv below has =
    let t = two_is name (moved_tokens One d p rest) inner mv in
    dependency_at d ms name rest ts inner ks x p s found e t.0 t.2 below has

dependencies_at : (d : Dialect) (part : Value) (rest ts inner : Tokens) (ks : Named) (x : Value) → NamesAscend part
    → dependencies_under part rest ≡ Some ts → moved_tokens ByName d part rest ≡ Some inner
    → at inner (upgraded ByName d part) ≡ Some x
    → ((w : Value) → get (codes "dependentSchemas") (put_all (dependencies_upgraded (upgraded ByName d part)) [])
    ≡ Some w → get (codes "dependentSchemas") ks ≡ Some w)
    → at (ts ++ inner) (object (members ks)) ≡ Some x
dependencies_at d (object ms) [] ts inner ks x s e mv below has = absurd (cc)
dependencies_at d (object ms) (name ∷ rest) ts inner ks x s e mv below has =
    dependencies_by d ms name rest ts inner ks x (get name (member_list ms)) refl (ascending ms s) e
    (sym (ap (option_and_then (λ p. two name (moved_tokens One d p rest))) (member_at name ms)) ∙ mv) below has
dependencies_at d null rest ts inner ks x s e mv below has = absurd (cc)
dependencies_at d (truth b) rest ts inner ks x s e mv below has = absurd (cc)
dependencies_at d (whole z) rest ts inner ks x s e mv below has = absurd (cc)
dependencies_at d (text t) rest ts inner ks x s e mv below has = absurd (cc)
dependencies_at d (list vs) rest ts inner ks x s e mv below has = absurd (cc)

-- ---- contains of 2019-09

counted_by : (v : Value) (most least : Option Value) → get (codes "contains") (put_all (one (codes "contains") v
    ++ (some_value (codes "maxContains") most ++ some_value (codes "minContains") least)) []) ≡ Some v
counted_by v None None = refl
counted_by v None (Some b) = refl
counted_by v (Some a) None = refl
counted_by v (Some a) (Some b) = refl

counted_at : (siblings : Named) (v : Value) (inner : Tokens) (x : Value) → at inner v ≡ Some x
    → at (codes "contains" ∷ inner) (contains_with_limits siblings v) ≡ Some x
counted_at siblings v inner x below =
    let most = get (codes "maxContains") siblings in
    let least = get (codes "minContains") siblings in
    found_at (codes "contains") v inner (put_all (one (codes "contains") v
    ++ (some_value (codes "maxContains") most ++ some_value (codes "minContains") least)) []) x
    (counted_by v most least) below

-- ---- each change

behind_at : (b : Bool) (f : Text → Text) (k : Text) (u : Value) (ts inner : Tokens) (ks : Named) (x : Value)
    → cond b (just (codes "items")) None ≡ Some ts → all_from f k (cond b (codes "items" ∷ []) []) ≡ true
    → at inner u ≡ Some x
    → ((n : Text) (w : Value) → f n ≡ k → get n (put_all (cond b (one (codes "items") u) []) []) ≡ Some w
    → get n ks ≡ Some w)
    → at (ts ++ inner) (object (members ks)) ≡ Some x
behind_at true f k u ts inner ks x e from below has =
    single (codes "items") u ts inner ks x e
    (has (codes "items") u (from_first f k (codes "items") [] from) (get-put (codes "items") u [])) below
behind_at false f k u ts inner ks x e from below has = absurd (cc)

either_own : (b : Bool) (f : Text → Text) (k n m : Text) → f n ≡ k → f m ≡ k → f (cond b n m) ≡ k
either_own true f k n m e g = e
either_own false f k n m e g = g

negated_at : (d : Dialect) (part : Value) (rest ts inner : Tokens) (ks : Named) (x : Value) (found : Option Tokens)
    → types_under part rest ≡ found → negated found ≡ Some ts → moved_tokens OneOrListed d part rest ≡ Some inner
    → at inner (upgraded OneOrListed d part) ≡ Some x
    → get (codes "not") ks ≡ Some (object (members (put_all (types_upgraded (upgraded OneOrListed d part)) [])))
    → at (ts ++ inner) (object (members ks)) ≡ Some x
negated_at d part rest ts inner ks x None is e mv below has = absurd (cc)
negated_at d part rest ts inner ks x (Some us) is e mv below has =
    let types = put_all (types_upgraded (upgraded OneOrListed d part)) [] in
    subst (λ t. at (t ++ inner) (object (members ks)) ≡ Some x) (ap tokens_or_none e)
    (found_at (codes "not") (object (members types)) (us ++ inner) ks x has
    (types_at d part rest us inner types x is mv below (λ w h. h)))

module _ (src : Text → Text) (siblings : Named) (token : Text) (d : Dialect) (part : Value) (rest ts inner : Tokens)
    (ks : Named) (x : Value) (s : NamesAscend part) where
  pub stands_in : (change : Change)
      → all_from src token (outputs (is_some_list (get (codes "items") siblings)) change) ≡ true
      → (is_plain change ≡ true → src token ≡ token)
      → (change ≡ Items → is_some_list (get (codes "items") siblings) ≡ is_some_list (Some part))
      → (change ≡ Contains → src (holder siblings) ≡ token)
      → tokens_under siblings token part rest change ≡ Some ts
      → moved_tokens (holding_by_change change) d part rest ≡ Some inner
      → at inner (upgraded (holding_by_change change) d part) ≡ Some x
      → ((n : Text) (w : Value) → src n ≡ token
      → get n (put_all (upgraded_by siblings token (upgraded (holding_by_change change) d part) change) []) ≡ Some w
      → get n ks ≡ Some w)
      → at (ts ++ inner) (object (members ks)) ≡ Some x
  stands_in Stays from plain same held e mv below has =
      let u = upgraded (holding_by_change Stays) d part in
      single token u ts inner ks x e (has token u (plain refl) (get-put token u [])) below
  stands_in Asserts from plain same held e mv below has =
      let u = upgraded (holding_by_change Asserts) d part in
      single token u ts inner ks x e (has token u (plain refl) (get-put token u [])) below
  stands_in Refers from plain same held e mv below has =
      let u = upgraded (holding_by_change Refers) d part in
      single token u ts inner ks x e (has token u (plain refl) (get-put token u [])) below
  stands_in HoldsOne from plain same held e mv below has =
      let u = upgraded One d part in
      single token u ts inner ks x e (has token u (plain refl) (get-put token u [])) below
  stands_in HoldsList from plain same held e mv below has =
      let u = upgraded Listed d part in
      single token u ts inner ks x e (has token u (plain refl) (get-put token u [])) below
  stands_in HoldsNamed from plain same held e mv below has =
      let u = upgraded ByName d part in
      single token u ts inner ks x e (has token u (plain refl) (get-put token u [])) below
  stands_in Goes from plain same held e mv below has = absurd (cc)
  stands_in Identifier from plain same held e mv below has = absurd (cc)
  stands_in Definitions from plain same held e mv below has =
      let u = upgraded ByName d part in
      single (codes "$defs") u ts inner ks x e
      (has (codes "$defs") u (from_first src token (codes "$defs") [] from) (get-put (codes "$defs") u [])) below
  stands_in Items from plain same held e mv below has =
      let own = from_first src token
      (cond (is_some_list (get (codes "items") siblings)) (codes "prefixItems") (codes "items")) [] from in
      items_at d part ts inner ks x e below
      (λ w is h. has (codes "prefixItems") w
      (sym (ap (λ b. src (cond b (codes "prefixItems") (codes "items"))) (same refl ∙ is)) ∙ own) h)
      (λ w is h. has (codes "items") w
      (sym (ap (λ b. src (cond b (codes "prefixItems") (codes "items"))) (same refl ∙ is)) ∙ own) h)
  stands_in AdditionalItems from plain same held e mv below has =
      behind_at (is_some_list (get (codes "items") siblings)) src token
      (upgraded One d part) ts inner ks x e from below has
  stands_in Dependencies from plain same held e mv below has =
      dependencies_at d part rest ts inner ks x s e mv below
      (λ w h. has (codes "dependentSchemas") w
      (from_second src token (codes "dependentRequired") (codes "dependentSchemas") [] from) h)
  stands_in Minimum from plain same held e mv below has =
      let exclusive = is_true (get (codes "exclusiveMinimum") siblings) in
      let n = cond exclusive (codes "exclusiveMinimum") (codes "minimum") in
      let u = upgraded (holding_by_change Minimum) d part in
      single n u ts inner ks x e
      (has n u (either_own exclusive src token (codes "exclusiveMinimum") (codes "minimum")
      (from_first src token (codes "exclusiveMinimum") (codes "minimum" ∷ []) from)
      (from_second src token (codes "exclusiveMinimum") (codes "minimum") [] from)) (get-put n u [])) below
  stands_in Maximum from plain same held e mv below has =
      let exclusive = is_true (get (codes "exclusiveMaximum") siblings) in
      let n = cond exclusive (codes "exclusiveMaximum") (codes "maximum") in
      let u = upgraded (holding_by_change Maximum) d part in
      single n u ts inner ks x e
      (has n u (either_own exclusive src token (codes "exclusiveMaximum") (codes "maximum")
      (from_first src token (codes "exclusiveMaximum") (codes "maximum" ∷ []) from)
      (from_second src token (codes "exclusiveMaximum") (codes "maximum") [] from)) (get-put n u [])) below
  stands_in Divisor from plain same held e mv below has =
      let u = upgraded (holding_by_change Divisor) d part in
      single (codes "multipleOf") u ts inner ks x e
      (has (codes "multipleOf") u (from_first src token (codes "multipleOf") [] from)
      (get-put (codes "multipleOf") u [])) below
  stands_in Types from plain same held e mv below has =
      types_at d part rest ts inner ks x e mv below
      (λ w h. has (codes "anyOf") w (from_second src token (codes "type") (codes "anyOf") [] from) h)
  stands_in Disallowed from plain same held e mv below has =
      let w = object (members (put_all (types_upgraded (upgraded OneOrListed d part)) [])) in
      negated_at d part rest ts inner ks x (types_under part rest) refl e mv below
      (has (codes "not") w (from_first src token (codes "not") [] from) (get-put (codes "not") w []))
  stands_in Extended from plain same held e mv below has =
      extends_at d part ts inner ks x e below
      (λ w h. has (codes "allOf") w (from_first src token (codes "allOf") [] from) h)
  stands_in Properties from plain same held e mv below has =
      let u = upgraded ByName d part in
      single (codes "properties") u ts inner ks x e
      (has (codes "properties") u (from_first src token (codes "properties") (codes "required" ∷ []) from)
      (properties_got u (required_names (members_found (get (codes "properties") siblings))))) below
  stands_in Contains from plain same held e mv below has =
      let u = upgraded One d part in
      let c = contains_with_limits siblings u in
      let w = negation (negation c) in
      let inside = codes "not" ∷ codes "not" ∷ codes "contains" ∷ inner in
      subst (λ t. at (t ++ inner) (object (members ks)) ≡ Some x) (ap tokens_or_none e)
      (first (holder siblings) w (holder siblings ∷ codes "0" ∷ []) inside ks x refl
      (has (holder siblings) (list (item w no_items)) (held refl)
      (get-put (holder siblings) (list (item w no_items)) []))
      (found_at (codes "not") (negation c) (codes "not" ∷ codes "contains" ∷ inner) (one (codes "not") (negation c)) x
      refl (found_at (codes "not") c (codes "contains" ∷ inner) (one (codes "not") c) x refl
      (counted_at siblings u inner x below))))
  stands_in RecursiveReference from plain same held e mv below has =
      let u = upgraded (holding_by_change RecursiveReference) d part in
      single (codes "$dynamicRef") u ts inner ks x e
      (has (codes "$dynamicRef") u (from_first src token (codes "$dynamicRef") [] from)
      (get-put (codes "$dynamicRef") u [])) below
  stands_in Anchor from plain same held e mv below has = absurd (cc)
  stands_in RecursiveAnchor from plain same held e mv below has = absurd (cc)
