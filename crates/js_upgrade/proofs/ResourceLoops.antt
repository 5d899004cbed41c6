-- Loops over an object's members or over a list's items, whose resources are found.
use Rattle.std.proofs.Common.{◌≡◌, ℕ, ◌+◌, ◌<◌, List, [], ◌∷◌, ◌++◌, Option, Some, None, map, get_or, length, drop}
use Rattle.std.proofs.Common.{sym, ap, ◌∙◌, append_assoc, unwrap_or}
use Rattle.std.proofs.lemmas.List.{append-nil, drop_more}
use Rattle.url.specs.Parts.{Parts}
use Rattle.js_doc.specs.Seen.{value_of, pair_of}
use Rattle.js_doc.specs.Value.{Value, Named, Values, object, members}
use Rattle.js_doc.specs.declared.doc.Doc.{Doc}
use Rattle.js_doc.proofs.PartLists.{member_list-members}
use Rattle.js_upgrade.specs.Resource.{Resource, begun, identity, member_resources, own_base, resource_under, resources}
use Rattle.js_upgrade.specs.Resource.{schema_resources}
use Rattle.js_upgrade.specs.Upgrade.{holding_in, own_dialect}
use Rattle.js_upgrade.specs.declared.dialect.Dialect.{Dialect}
use Rattle.js_upgrade.specs.declared.holding.SchemaHolding.TheVariants.{One}
use Rattle.js_upgrade.proofs.Loops.{Pairs}

pub own_base_is : (own : Dialect) (base : Parts) (siblings : Named) (found : Option Parts)
    → found ≡ identity own base siblings → unwrap_or found base ≡ own_base own base siblings
own_base_is own base siblings found is = ap (λ u. unwrap_or u base) is

pub resources_next : (g : Named → List Resource) (here : List Resource) (old left : Pairs) (m : List ℕ × Doc)
    (out new whole : List Resource) → g (pair_of m ∷ map pair_of left) ≡ here ++ g (map pair_of left)
    → old ≡ m ∷ left → new ≡ out ++ here → out ++ g (map pair_of old) ≡ whole → new ++ g (map pair_of left) ≡ whole
resources_next g here old left m out new whole unfolds step put before =
    let rest = g (map pair_of left) in
    ap (λ rs. rs ++ rest) put ∙ append_assoc out here rest
    ∙ sym (ap (λ es. out ++ g (map pair_of es)) step ∙ ap (λ rs. out ++ rs) unfolds) ∙ before

pub resources_end : (g : Named → List Resource) (old entries : Pairs) (schemas : Named) (first out : List Resource)
    → g [] ≡ [] → old ≡ [] → map pair_of entries ≡ schemas
    → out ++ g (map pair_of old) ≡ first ++ g (map pair_of entries) → out ≡ first ++ g schemas
resources_end g old entries schemas first out unfolds none seen before =
    sym (append-nil out) ∙ sym (ap (λ es. out ++ g (map pair_of es)) none ∙ ap (λ rs. out ++ rs) unfolds) ∙ before
    ∙ ap (λ ms. first ++ g ms) seen

pub resource_items_next : (g : Values → List Resource) (here : List Resource) (ds : List Doc) (i : ℕ) (x : Doc)
    (out new whole : List Resource) → ((vs : Values) → g (value_of x ∷ vs) ≡ here ++ g vs) → i < length ds
    → x ≡ get_or ds i x → new ≡ out ++ here → out ++ g (map value_of (drop i ds)) ≡ whole
    → new ++ g (map value_of (drop (i + 1) ds)) ≡ whole
resource_items_next g here ds i x out new whole unfolds low is put before =
    let rest = map value_of (drop (i + 1) ds) in
    let first : map value_of (drop i ds) ≡ value_of x ∷ rest = ap (map value_of) (drop_more ds i x low)
    ∙ ap (λ y. value_of y ∷ rest) (sym is) in
    ap (λ rs. rs ++ g rest) put ∙ append_assoc out here (g rest)
    ∙ sym (ap (λ vs. out ++ g vs) first ∙ ap (λ rs. out ++ rs) (unfolds rest)) ∙ before

pub schema_resources_is : (d : Dialect) (base : Parts) (siblings : Named)
    → schema_resources d base siblings (object (members siblings))
    ≡ resources One d base (object (members siblings))
schema_resources_is d base siblings =
    ap (λ ns. let own = own_dialect d ns in
    begun d (object (members siblings)) (identity own base ns)
    ++ member_resources (holding_in own ns) own (own_base own base ns) (members siblings))
    (sym (member_list-members siblings))

pub schema_begun : (d own : Dialect) (base below : Parts) (siblings : Named) (root : Value)
    (first middle out : List Resource) → own ≡ own_dialect d siblings → Some below ≡ identity own base siblings
    → middle ≡ first ++ resource_under d root below ∷ []
    → out ≡ middle ++ member_resources (holding_in own siblings) own below (members siblings)
    → out ≡ first ++ schema_resources d base siblings root
schema_begun d own base below siblings root first middle out same found begins is =
    let parts = λ (e : Dialect) (u : Option Parts). begun d root u
    ++ member_resources (holding_in e siblings) e (unwrap_or u base) (members siblings) in
    is ∙ ap (λ rs. rs ++ member_resources (holding_in own siblings) own below (members siblings)) begins
    ∙ append_assoc first (resource_under d root below ∷ [])
    (member_resources (holding_in own siblings) own below (members siblings))
    ∙ ap (λ u. first ++ parts own u) found
    ∙ ap (λ e. first ++ parts e (identity e base siblings)) same

pub schema_not_begun : (d own : Dialect) (base : Parts) (siblings : Named) (root : Value) (first out : List Resource)
    → own ≡ own_dialect d siblings → None ≡ identity own base siblings
    → out ≡ first ++ member_resources (holding_in own siblings) own base (members siblings)
    → out ≡ first ++ schema_resources d base siblings root
schema_not_begun d own base siblings root first out same found is =
    let parts = λ (e : Dialect) (u : Option Parts). begun d root u
    ++ member_resources (holding_in e siblings) e (unwrap_or u base) (members siblings) in
    is ∙ ap (λ u. first ++ parts own u) found ∙ ap (λ e. first ++ parts e (identity e base siblings)) same
