-- Documents of 2020-12 that are upgraded together stay as they are, and so do their references.
use Rattle.std.proofs.Common.{◌≡◌, ℕ, ◌+◌, List, [], ◌∷◌, ◌++◌, Bool, true, false, ◌&&◌, Option, Some, None, cond, map}
use Rattle.std.proofs.Common.{decimal, find, is_some, option_and_then, refl, sym, ap, ap₂, ◌∙◌, subst}
use Rattle.std.proofs.Common.{bytes_eq, codes, unwrap_or}
use Rattle.std.specs.List.{AllByRecursion, list_all}
use Rattle.percent_encoding.specs.Percent.{percent_decode}
use Rattle.url.specs.Parts.{Parts}
use Rattle.js_doc.specs.Lookup.{is_text, item_named, member_named, part_named}
use Rattle.js_doc.specs.Parts.{item_list, member_list}
use Rattle.js_doc.specs.Pointer.{Tokens}
use Rattle.js_doc.specs.Value.{Value, null, truth, whole, text, list, object, Items as ItemList, no_items, item, items}
use Rattle.js_doc.specs.Value.{Members, no_members, member, members, Text, Named}
use Rattle.js_doc.proofs.PartLists.{items-item_list, members-member_list}
use Rattle.js_doc.proofs.TokenLookup.{is_text-refl, is_text-sound}
use Rattle.js_upgrade.specs.CopyName.{redirected}
use Rattle.js_upgrade.specs.Dialect.{is_before}
use Rattle.js_upgrade.specs.Current.{AreCurrent, IsCurrent, ItemsAreCurrent}
use Rattle.js_upgrade.specs.Documents.{SourceDocument, all_resources, is_known, resources_by}
use Rattle.js_upgrade.specs.Documents.{anchored, source_resources, upgraded_among, upgraded_by_dialect}
use Rattle.js_upgrade.specs.Keyword.{change_in}
use Rattle.js_upgrade.specs.Laws.{AllCurrentStay, IsCurrentSource}
use Rattle.js_upgrade.specs.Moved.{both, just, moved_tokens, step, tokens_under}
use Rattle.js_upgrade.specs.Reference.{argument_rewritten, as_it_is, followed, in_resource, items_relocated}
use Rattle.js_upgrade.specs.Reference.{members_relocated, moved_in, recurses_at, recursion_rewritten, relocated}
use Rattle.js_upgrade.specs.Reference.{rewritten, are_same_tokens, is_older, respelled, with_pointer, with_target}
use Rattle.js_upgrade.specs.Resource.{Resource, begun, identity, item_resources, member_resources, own_base}
use Rattle.js_upgrade.specs.Resource.{recurses}
use Rattle.js_upgrade.specs.Resource.{has_recursion, is_recursive, resource_named, resources, root_resources}
use Rattle.js_upgrade.specs.Schema.{change_of}
use Rattle.js_upgrade.specs.Upgrade.{holding_in, own_dialect, root_upgraded, upgraded}
use Rattle.js_upgrade.specs.Url.{fragment_pointer, uri_joined, uri_printed, uri_without_fragment}
use Rattle.js_upgrade.specs.declared.dialect.Dialect.{Dialect}
use Rattle.js_upgrade.specs.declared.dialect.Dialect.TheVariants.{Draft2020}
use Rattle.js_upgrade.specs.declared.keyword.Change.{Change}
use Rattle.js_upgrade.specs.declared.holding.SchemaHolding.{SchemaHolding}
use Rattle.js_upgrade.specs.declared.holding.SchemaHolding.TheVariants.{One, Listed, Named as ByName, OneOrListed}
use Rattle.js_upgrade.specs.declared.holding.SchemaHolding.TheVariants.{Nothing}
use Rattle.js_upgrade.proofs.ByCases.{by_argument, by_plain, is_plain}
use Rattle.js_upgrade.proofs.MovedParts.{both_are, tokens_of}
use Rattle.js_upgrade.proofs.Outcome.{nothing_current}
use Rattle.js_upgrade.proofs.PlainChanges.{change_plain}
use Rattle.js_upgrade.proofs.Staying.{stays}
use Rattle.js_upgrade.proofs.WithoutCopies.{all_take_none, redirected_none, upgraded_without}

-- ---- a token of 2020-12 stays

under_plain : (siblings : Named) (name : Text) (v : Value) (rest : Tokens) (change : Change) → is_plain change ≡ true
    → tokens_under siblings name v rest change ≡ just name
under_plain siblings name v rest change =
    by_plain (λ c. tokens_under siblings name v rest c ≡ just name) refl refl refl refl refl refl change

abbrev value_or : Value → Option Value → Value
value_or v None = v
value_or v (Some w) = w

abbrev resource_or : Resource → Option Resource → Resource
resource_or r None = r
resource_or r (Some s) = s

-- ---- what stands in a value of 2020-12

current_by : (P : Value → Type 0) (b : Bool) (v part : Value) (later : Option Value) → (b ≡ true → P v)
    → (later ≡ Some part → P part) → cond b (Some v) later ≡ Some part → P part
current_by P true v part later c more is = subst P (ap (value_or v) is) (c refl)
current_by P false v part later c more is = more is

item_current : (token : Text) (n : ℕ) (vs : ItemList) (part : Value) → ItemsAreCurrent vs
    → item_named token n vs ≡ Some part → IsCurrent One part
item_current token n no_items part c is = absurd (cc)
item_current token n (item v vs) part c is =
    current_by (IsCurrent One) (is_text token (decimal n)) v part (item_named token (n + 1) vs) (λ _. c.0)
    (item_current token (n + 1) vs part c.1) is

member_current : (held : Text → SchemaHolding) (token : Text) (ms : Members) (part : Value) → AreCurrent held ms
    → member_named token ms ≡ Some part → IsCurrent (held token) part
member_current held token no_members part c is = absurd (cc)
member_current held token (member k v ms) part c is =
    current_by (IsCurrent (held token)) (is_text token k) v part (member_named token ms)
    (λ same. subst (λ n. IsCurrent (held n) v) (sym (is_text-sound token k same)) c.0)
    (member_current held token ms part c.1) is

-- ---- a step in it

abbrev StepStays : SchemaHolding → Value → Text → Value → Tokens → Type 0
StepStays h v token part rest =
    ((step h Draft2020 v token part rest).into ≡ just token)
    × ((step h Draft2020 v token part rest).dialect ≡ Draft2020)
    × IsCurrent (step h Draft2020 v token part rest).holding part

schema_step_stays : (ms : Members) (token : Text) (part : Value) (rest : Tokens)
    → own_dialect Draft2020 (member_list ms) ≡ Draft2020 → AreCurrent (holding_in Draft2020 (member_list ms)) ms
    → member_named token ms ≡ Some part → StepStays One (object ms) token part rest
schema_step_stays ms token part rest own c is =
    let siblings = member_list ms in (
      ap (λ e. tokens_under siblings token part rest (change_of e siblings token)) own
          ∙ under_plain siblings token part rest (change_in Draft2020 token) (change_plain token),
      own,
      subst (λ e. IsCurrent (holding_in e siblings token) part) (sym own)
          (member_current (holding_in Draft2020 siblings) token ms part c is),
    )

step_stays : (h : SchemaHolding) (v : Value) (token : Text) (part : Value) (rest : Tokens) → IsCurrent h v
    → part_named token v ≡ Some part → StepStays h v token part rest
step_stays One (object ms) token part rest c is = schema_step_stays ms token part rest c.0 c.1 is
step_stays OneOrListed (object ms) token part rest c is = schema_step_stays ms token part rest c.0 c.1 is
step_stays ByName (object ms) token part rest c is = (refl, refl, member_current (λ _. One) token ms part c is)
step_stays Listed (object ms) token part rest c is = (refl, refl, nothing_current part)
step_stays Nothing (object ms) token part rest c is = (refl, refl, nothing_current part)
step_stays Listed (list vs) token part rest c is = (refl, refl, item_current token 0 vs part c is)
step_stays OneOrListed (list vs) token part rest c is = (refl, refl, item_current token 0 vs part c is)
step_stays One (list vs) token part rest c is = (refl, refl, nothing_current part)
step_stays ByName (list vs) token part rest c is = (refl, refl, nothing_current part)
step_stays Nothing (list vs) token part rest c is = (refl, refl, nothing_current part)
step_stays h null token part rest c is = absurd (cc)
step_stays h (truth b) token part rest c is = absurd (cc)
step_stays h (whole z) token part rest c is = absurd (cc)
step_stays h (text t) token part rest c is = absurd (cc)

-- ---- all tokens

back_by : (token : Text) (rest : Tokens) (h : SchemaHolding) (v : Value) (new : Tokens) → IsCurrent h v
    → ((k : SchemaHolding) (w : Value) (inner : Tokens) → IsCurrent k w → moved_tokens k Draft2020 w rest ≡ Some inner
    → rest ≡ inner)
    → (found : Option Value) → part_named token v ≡ found
    → option_and_then
    (λ part. both (step h Draft2020 v token part rest).into
    (moved_tokens (step h Draft2020 v token part rest).holding
    (step h Draft2020 v token part rest).dialect part rest)) found
    ≡ Some new
    → token ∷ rest ≡ new
back_by token rest h v new c more None is mv = absurd (cc)
back_by token rest h v new c more (Some part) is mv =
    let st = step h Draft2020 v token part rest in
    let stay = step_stays h v token part rest c is in
    let b = both_are st.into (moved_tokens st.holding st.dialect part rest) new mv in
    let same : rest ≡ b.1 = more st.holding part b.1 stay.2
    (sym (ap (λ e. moved_tokens st.holding e part rest) stay.1) ∙ b.3) in
    ap (λ ts. token ∷ ts) same ∙ ap (λ ts. ts ++ b.1) (ap tokens_of (sym stay.0 ∙ b.2)) ∙ b.4

moved_back : (tokens : Tokens) (h : SchemaHolding) (v : Value) (new : Tokens) → IsCurrent h v
    → moved_tokens h Draft2020 v tokens ≡ Some new → tokens ≡ new
moved_back [] h v new c mv = ap tokens_of mv
moved_back (token ∷ rest) h v new c mv =
    back_by token rest h v new c (λ k w inner d m. moved_back rest k w inner d m) (part_named token v) refl mv

-- ---- a reference

same_tokens-refl : (tokens : Tokens) → are_same_tokens tokens tokens ≡ true
same_tokens-refl [] = refl
same_tokens-refl (t ∷ ts) = ap (λ b. b && are_same_tokens ts ts) (is_text-refl t) ∙ same_tokens-refl ts

target_stays : (t : Text) (old : Tokens) (new : Option Tokens) → ((p : Tokens) → new ≡ Some p → old ≡ p)
    → with_target t old new ≡ t
target_stays t old None same = refl
target_stays t old (Some new) same =
    ap (λ b. cond b t (with_pointer t new))
    (ap (λ ts. are_same_tokens old ts) (sym (same new refl)) ∙ same_tokens-refl old)

-- a resource of 2020-12
abbrev pub IsCurrentResource : Resource → Type 0
IsCurrentResource r = (r.dialect ≡ Draft2020) × IsCurrent One r.root × (r.copies ≡ [])

-- no root of 2020-12 recurses
unrecursive : (root : Value) → IsCurrent One root → has_recursion Draft2020 root ≡ false
unrecursive (object ms) c = ap (λ d. is_recursive d (member_list ms)) c.0
unrecursive null c = refl
unrecursive (truth b) c = refl
unrecursive (whole z) c = refl
unrecursive (text t) c = refl
unrecursive (list vs) c = refl

-- its names are those of 2020-12
current_names : (root : Value) → IsCurrent One root → is_older Draft2020 root ≡ false
current_names (object ms) c = ap (λ d. is_before d Draft2020) c.0
current_names null c = refl
current_names (truth b) c = refl
current_names (whole z) c = refl
current_names (text t) c = refl
current_names (list vs) c = refl

-- a resource in which no token moves and no name, and whose root doesn't recurse
abbrev pub IsStill : Resource → Type 0
IsStill r =
    ((tokens new : Tokens) → moved_in r tokens ≡ Some new → tokens ≡ new) × (recurses r ≡ false)
    × (is_older r.dialect r.root ≡ false)

still_current : (r : Resource) → IsCurrentResource r → IsStill r
still_current r c = (
  λ tokens new is. moved_back tokens One r.root new c.1
      (sym (ap (λ e. moved_tokens One e r.root (redirected e r.copies tokens)) c.0
      ∙ ap (λ copies. moved_tokens One Draft2020 r.root (redirected Draft2020 copies tokens)) c.2
      ∙ ap (moved_tokens One Draft2020 r.root) (redirected_none Draft2020 tokens)) ∙ is),
  ap (λ d. has_recursion d r.root) c.0 ∙ unrecursive r.root c.1,
  ap (λ d. is_older d r.root) c.0 ∙ current_names r.root c.1,
)

pub stills : (all : List Resource) → AllByRecursion IsCurrentResource all → AllByRecursion IsStill all
stills [] c = tt
stills (r ∷ all) c = (still_current r c.0, stills all c.1)

reference_stays : (t fragment : Text) (tokens : Option Tokens) (found : Option Resource)
    → ((r : Resource) → found ≡ Some r → IsStill r) → in_resource t fragment tokens found ≡ t
reference_stays t fragment None None c = refl
reference_stays t fragment None (Some r) c =
    ap (λ b. cond b (respelled t (percent_decode fragment)) t) (c r refl).2
reference_stays t fragment (Some tokens) None c = refl
reference_stays t fragment (Some tokens) (Some r) c =
    target_stays t tokens (moved_in r tokens) (λ p is. (c r refl).0 tokens p is)

found_by : (f : Resource → Bool) (b : Bool) (r s : Resource) (all : List Resource) → IsStill r
    → (find f all ≡ Some s → IsStill s) → cond b (Some r) (find f all) ≡ Some s → IsStill s
found_by f true r s all c more is = subst IsStill (ap (resource_or r) is) c
found_by f false r s all c more is = more is

found_current : (f : Resource → Bool) (all : List Resource) (s : Resource) → AllByRecursion IsStill all
    → find f all ≡ Some s → IsStill s
found_current f [] s c is = absurd (cc)
found_current f (r ∷ all) s c is = found_by f (f r) r s all c.0 (found_current f all s c.1) is

no_recursion : (found : Option Resource) → ((r : Resource) → found ≡ Some r → IsStill r) → recurses_at found ≡ false
no_recursion None c = refl
no_recursion (Some r) c = (c r refl).1

module _ (all : List Resource) (c : AllByRecursion IsStill all) where
  followed_stays : (t : Text) (uri : Option Parts) → followed all t uri ≡ t
  followed_stays t None = refl
  followed_stays t (Some uri) =
      reference_stays t (unwrap_or uri.fragment []) (fragment_pointer uri)
      (resource_named all (uri_printed (uri_without_fragment uri)))
      (λ r is. found_current (λ s. bytes_eq (uri_printed (uri_without_fragment uri)) s.uri) all r c is)

  rewritten_stays : (base : Parts) (v : Value) → rewritten all base v ≡ v
  rewritten_stays base (text t) = ap text (followed_stays t (uri_joined base t))
  rewritten_stays base null = refl
  rewritten_stays base (truth b) = refl
  rewritten_stays base (whole z) = refl
  rewritten_stays base (list vs) = refl
  rewritten_stays base (object ms) = refl

  recursion_stays : (base : Parts) (v : Value) → recursion_rewritten all base v ≡ v
  recursion_stays base v =
      ap (λ b. cond b (text (codes "#recursiveAnchor")) v)
      (no_recursion (resource_named all (uri_printed base))
      (λ r is. found_current (λ s. bytes_eq (uri_printed base) s.uri) all r c is))

  argument_stays : (change : Change) (base : Parts) (v w : Value) → w ≡ v
      → argument_rewritten all change base v w ≡ v
  argument_stays change base =
      by_argument all base (λ c f. (v w : Value) → w ≡ v → f v w ≡ v) (λ v w same. rewritten_stays base v)
      (λ v w same. recursion_stays base v) (λ c other v w same. same) change

  -- ---- a value

  abbrev in_dialect : Parts → Members → Dialect → Value
  in_dialect base ms e =
      let siblings = member_list ms in
      object (members (members_relocated all (holding_in e siblings)
      (λ name. argument_rewritten all (change_of e siblings name) (own_base e base siblings)) e
      (own_base e base siblings) ms))

  schema_relocated_stays : (base : Parts) (ms : Members) → own_dialect Draft2020 (member_list ms) ≡ Draft2020
      → members_relocated all (holding_in Draft2020 (member_list ms))
      (λ name. argument_rewritten all (change_of Draft2020 (member_list ms) name)
      (own_base Draft2020 base (member_list ms))) Draft2020 (own_base Draft2020 base (member_list ms)) ms
      ≡ member_list ms
      → relocated all One Draft2020 base (object ms) ≡ object ms
  schema_relocated_stays base ms own same =
      ap (in_dialect base ms) own ∙ ap (λ ns. object (members ns)) same ∙ ap object (members-member_list ms)

  argument_kept : (base : Parts) (siblings : Named) (k : Text) (v w : Value) → w ≡ v
      → argument_rewritten all (change_of Draft2020 siblings k) base v w ≡ v
  argument_kept base siblings k v w same = argument_stays (change_of Draft2020 siblings k) base v w same

  mutual
    relocated_stays : (h : SchemaHolding) (base : Parts) (v : Value) → IsCurrent h v
        → relocated all h Draft2020 base v ≡ v
    relocated_stays One base (object ms) c =
        schema_relocated_stays base ms c.0
        (members_relocated_stay (holding_in Draft2020 (member_list ms))
        (λ name. argument_rewritten all (change_of Draft2020 (member_list ms) name)
        (own_base Draft2020 base (member_list ms))) (own_base Draft2020 base (member_list ms)) ms
        (argument_kept (own_base Draft2020 base (member_list ms)) (member_list ms)) c.1)
    relocated_stays OneOrListed base (object ms) c =
        schema_relocated_stays base ms c.0
        (members_relocated_stay (holding_in Draft2020 (member_list ms))
        (λ name. argument_rewritten all (change_of Draft2020 (member_list ms) name)
        (own_base Draft2020 base (member_list ms))) (own_base Draft2020 base (member_list ms)) ms
        (argument_kept (own_base Draft2020 base (member_list ms)) (member_list ms)) c.1)
    relocated_stays ByName base (object ms) c =
        ap (λ ns. object (members ns)) (members_relocated_stay (λ _. One) as_it_is base ms (λ k v w same. same) c)
        ∙ ap object (members-member_list ms)
    relocated_stays Listed base (object ms) c = refl
    relocated_stays Nothing base (object ms) c = refl
    relocated_stays Listed base (list vs) c =
        ap (λ ws. list (items ws)) (items_relocated_stay base vs c) ∙ ap list (items-item_list vs)
    relocated_stays OneOrListed base (list vs) c =
        ap (λ ws. list (items ws)) (items_relocated_stay base vs c) ∙ ap list (items-item_list vs)
    relocated_stays One base (list vs) c = refl
    relocated_stays ByName base (list vs) c = refl
    relocated_stays Nothing base (list vs) c = refl
    relocated_stays One base null c = refl
    relocated_stays Listed base null c = refl
    relocated_stays ByName base null c = refl
    relocated_stays OneOrListed base null c = refl
    relocated_stays Nothing base null c = refl
    relocated_stays One base (truth b) c = refl
    relocated_stays Listed base (truth b) c = refl
    relocated_stays ByName base (truth b) c = refl
    relocated_stays OneOrListed base (truth b) c = refl
    relocated_stays Nothing base (truth b) c = refl
    relocated_stays One base (whole z) c = refl
    relocated_stays Listed base (whole z) c = refl
    relocated_stays ByName base (whole z) c = refl
    relocated_stays OneOrListed base (whole z) c = refl
    relocated_stays Nothing base (whole z) c = refl
    relocated_stays One base (text t) c = refl
    relocated_stays Listed base (text t) c = refl
    relocated_stays ByName base (text t) c = refl
    relocated_stays OneOrListed base (text t) c = refl
    relocated_stays Nothing base (text t) c = refl

    items_relocated_stay : (base : Parts) (vs : ItemList) → ItemsAreCurrent vs
        → items_relocated all Draft2020 base vs ≡ item_list vs
    items_relocated_stay base no_items c = refl
    items_relocated_stay base (item v vs) c =
        ap₂ (λ w ws. w ∷ ws) (relocated_stays One base v c.0) (items_relocated_stay base vs c.1)

    members_relocated_stay : (held : Text → SchemaHolding) (argument : Text → Value → Value → Value) (base : Parts)
        (ms : Members) → ((k : Text) (v w : Value) → w ≡ v → argument k v w ≡ v) → AreCurrent held ms
        → members_relocated all held argument Draft2020 base ms ≡ member_list ms
    members_relocated_stay held argument base no_members kept c = refl
    members_relocated_stay held argument base (member k v ms) kept c =
        ap₂ (λ w ns. (k, w) ∷ ns)
        (kept k v (relocated all (held k) Draft2020 base v) (relocated_stays (held k) base v c.0))
        (members_relocated_stay held argument base ms kept c.1)

  pub source_stays : (s : SourceDocument) → IsCurrentSource s → upgraded_among all s ≡ s.root
  source_stays s current =
      ap (upgraded_by_dialect all s) current.1
      ∙ ap (λ b. anchored b (root_upgraded Draft2020 (relocated all One Draft2020 s.uri s.root)))
      (unrecursive s.root current.2)
      ∙ ap (upgraded One Draft2020) (relocated_stays One s.uri s.root current.2)
      ∙ stays One s.root current.0.0 current.2

  sources_stay : (sources : List SourceDocument) → AllByRecursion IsCurrentSource sources
      → map (upgraded_among all) sources ≡ map (λ s. s.root) sources
  sources_stay [] current = refl
  sources_stay (s ∷ sources) current =
      ap₂ (λ v vs. v ∷ vs) (source_stays s current.0) (sources_stay sources current.1)

-- ---- their resources

all_append : (xs ys : List Resource) → AllByRecursion IsCurrentResource xs → AllByRecursion IsCurrentResource ys
    → AllByRecursion IsCurrentResource (xs ++ ys)
all_append [] ys c d = d
all_append (x ∷ xs) ys c d = (c.0, all_append xs ys c.1 d)

begun_current : (root : Value) (found : Option Parts) → IsCurrent One root
    → AllByRecursion IsCurrentResource (begun Draft2020 root found)
begun_current root None c = tt
begun_current root (Some u) c = ((refl, c, refl), tt)

abbrev SchemaResources : Parts → Members → Dialect → Type 0
SchemaResources base ms e =
    let siblings = member_list ms in
    AllByRecursion IsCurrentResource (begun Draft2020 (object ms) (identity e base siblings)
    ++ member_resources (holding_in e siblings) e (own_base e base siblings) ms)

schema_resources_current : (base : Parts) (ms : Members) → IsCurrent One (object ms)
    → AllByRecursion IsCurrentResource (member_resources (holding_in Draft2020 (member_list ms)) Draft2020
    (own_base Draft2020 base (member_list ms)) ms)
    → AllByRecursion IsCurrentResource (resources One Draft2020 base (object ms))
schema_resources_current base ms c more =
    let siblings = member_list ms in
    let below = own_base Draft2020 base siblings in
    subst (SchemaResources base ms) (sym c.0)
    (all_append (begun Draft2020 (object ms) (identity Draft2020 base siblings))
    (member_resources (holding_in Draft2020 siblings) Draft2020 below ms)
    (begun_current (object ms) (identity Draft2020 base siblings) c) more)

mutual
  resources_current : (h : SchemaHolding) (base : Parts) (v : Value) → IsCurrent h v
      → AllByRecursion IsCurrentResource (resources h Draft2020 base v)
  resources_current One base (object ms) c =
      schema_resources_current base ms c
      (member_resources_current (holding_in Draft2020 (member_list ms)) (own_base Draft2020 base (member_list ms)) ms
      c.1)
  resources_current OneOrListed base (object ms) c =
      schema_resources_current base ms c
      (member_resources_current (holding_in Draft2020 (member_list ms)) (own_base Draft2020 base (member_list ms)) ms
      c.1)
  resources_current ByName base (object ms) c = member_resources_current (λ _. One) base ms c
  resources_current Listed base (object ms) c = tt
  resources_current Nothing base (object ms) c = tt
  resources_current Listed base (list vs) c = item_resources_current base vs c
  resources_current OneOrListed base (list vs) c = item_resources_current base vs c
  resources_current One base (list vs) c = tt
  resources_current ByName base (list vs) c = tt
  resources_current Nothing base (list vs) c = tt
  resources_current One base null c = tt
  resources_current Listed base null c = tt
  resources_current ByName base null c = tt
  resources_current OneOrListed base null c = tt
  resources_current Nothing base null c = tt
  resources_current One base (truth b) c = tt
  resources_current Listed base (truth b) c = tt
  resources_current ByName base (truth b) c = tt
  resources_current OneOrListed base (truth b) c = tt
  resources_current Nothing base (truth b) c = tt
  resources_current One base (whole z) c = tt
  resources_current Listed base (whole z) c = tt
  resources_current ByName base (whole z) c = tt
  resources_current OneOrListed base (whole z) c = tt
  resources_current Nothing base (whole z) c = tt
  resources_current One base (text t) c = tt
  resources_current Listed base (text t) c = tt
  resources_current ByName base (text t) c = tt
  resources_current OneOrListed base (text t) c = tt
  resources_current Nothing base (text t) c = tt

  item_resources_current : (base : Parts) (vs : ItemList) → ItemsAreCurrent vs
      → AllByRecursion IsCurrentResource (item_resources Draft2020 base vs)
  item_resources_current base no_items c = tt
  item_resources_current base (item v vs) c =
      all_append (resources One Draft2020 base v) (item_resources Draft2020 base vs)
      (resources_current One base v c.0) (item_resources_current base vs c.1)

  member_resources_current : (held : Text → SchemaHolding) (base : Parts) (ms : Members) → AreCurrent held ms
      → AllByRecursion IsCurrentResource (member_resources held Draft2020 base ms)
  member_resources_current held base no_members c = tt
  member_resources_current held base (member k v ms) c =
      all_append (resources (held k) Draft2020 base v) (member_resources held Draft2020 base ms)
      (resources_current (held k) base v c.0) (member_resources_current held base ms c.1)

-- those of a document without copies
root_resources_are : (d : Dialect) (base : Parts) (v : Value) → root_resources [] d base v ≡ resources One d base v
root_resources_are d base (object ms) =
    let siblings = member_list ms in
    let own = own_dialect d siblings in
    ap (λ ns. begun d (object ms) (identity own base siblings)
    ++ member_resources (holding_in own siblings) own (own_base own base siblings) ns) (members-member_list ms)
root_resources_are d base null = refl
root_resources_are d base (truth b) = refl
root_resources_are d base (whole z) = refl
root_resources_are d base (text t) = refl
root_resources_are d base (list vs) = refl

pub source_current : (s : SourceDocument) → IsCurrentSource s → AllByRecursion IsCurrentResource (source_resources [] s)
source_current s c =
    subst (λ d. AllByRecursion IsCurrentResource (resources_by [] s d)) (sym c.1) (
      (refl, c.2, refl),
      subst (AllByRecursion IsCurrentResource) (sym (root_resources_are Draft2020 s.uri s.root))
          (resources_current One s.uri s.root c.2),
    )

all_current : (sources : List SourceDocument) → AllByRecursion IsCurrentSource sources
    → AllByRecursion IsCurrentResource (all_resources [] sources)
all_current [] c = tt
all_current (s ∷ sources) c =
    all_append (source_resources [] s) (all_resources [] sources) (source_current s c.0) (all_current sources c.1)

all_known : (sources : List SourceDocument) → AllByRecursion IsCurrentSource sources → list_all is_known sources ≡ true
all_known [] c = refl
all_known (s ∷ sources) c =
    ap (λ d. is_some d && list_all is_known sources) c.0.1 ∙ all_known sources c.1

pub all_current_stay : AllCurrentStay
all_current_stay sources current =
    let all = all_resources [] sources in
    upgraded_without sources (all_take_none sources current)
    ∙ ap (λ b. cond b (Some (map (upgraded_among all) sources)) None) (all_known sources current)
    ∙ ap Some (sources_stay all (stills all (all_current sources current)) sources current)
