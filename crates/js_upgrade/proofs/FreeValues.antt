-- What has no references to parts, from what it holds.
use Rattle.std.proofs.Common.{◌≡◌, ℕ, ◌+◌, ◌<◌, List, ◌∷◌, codes, drop, get_or, length, map, refl, sym, ap, ◌∙◌}
use Rattle.std.proofs.Common.{Bool, Option, Some, None, cond, false}
use Rattle.std.specs.List.{after_first}
use Rattle.std.proofs.lemmas.List.{drop_more}
use Rattle.js_doc.specs.Members.{get}
use Rattle.js_doc.specs.Seen.{value_of, pair_of}
use Rattle.js_doc.specs.Value.{Named, Text, object, items, members, text}
use Rattle.js_doc.specs.declared.doc.Doc.{Doc}
use Rattle.js_doc.proofs.PartLists.{member_list-members}
use Rattle.js_upgrade.specs.Copies.{Copies, copied_by, copied_for, copied_for_uri, items_copied, members_copied}
use Rattle.js_upgrade.specs.CopyName.{is_rooted}
use Rattle.js_upgrade.specs.Resource.{Resource, own_base}
use Rattle.js_upgrade.specs.Schema.{is_mark}
use Rattle.js_upgrade.specs.Source.{SourceDocument}
use Rattle.js_upgrade.specs.Upgrade.{own_dialect}
use Rattle.js_upgrade.specs.Url.{uri_joined}
use Rattle.js_upgrade.specs.code.ReferenceFree.{AreFreeItems, AreFreeMembers, IsFree, LeadsToNoPart}
use Rattle.js_upgrade.specs.declared.dialect.Dialect.{Dialect}
use Rattle.js_upgrade.proofs.Loops.{Pairs}

pub free_object : (siblings : Named) → LeadsToNoPart (get (codes "$ref") siblings) → AreFreeMembers (members siblings)
    → IsFree (object (members siblings))
free_object siblings here below roots d base copies =
    let ms = members siblings in
    let made = λ (ns : Named).
    members_copied roots (own_dialect d ns) (own_base (own_dialect d ns) base ns) ms
    (copied_for roots (own_base (own_dialect d ns) base ns) (get (codes "$ref") ns) copies) in
    let own = own_dialect d siblings in
    ap made (member_list-members siblings)
    ∙ ap (members_copied roots own (own_base own base siblings) ms) (here roots (own_base own base siblings) copies)
    ∙ below roots own (own_base own base siblings) copies

pub next_free_member : (old left : Pairs) (m : List ℕ × Doc) → old ≡ m ∷ left → IsFree (value_of m.1)
    → AreFreeMembers (members (map pair_of left)) → AreFreeMembers (members (map pair_of old))
next_free_member old left m step here rest roots d base copies =
    ap (λ es. members_copied roots d base (members (map pair_of es)) copies) step
    ∙ ap (members_copied roots d base (members (map pair_of left))) (here roots d base copies)
    ∙ rest roots d base copies

pub next_free_item : (ds : List Doc) (i : ℕ) (x : Doc) → i < length ds → x ≡ get_or ds i x → IsFree (value_of x)
    → AreFreeItems (items (map value_of (drop (i + 1) ds))) → AreFreeItems (items (map value_of (drop i ds)))
next_free_item ds i x low is here rest roots d base copies =
    let left = map value_of (drop (i + 1) ds) in
    let all_left : map value_of (drop i ds) ≡ value_of x ∷ left = ap (map value_of) (drop_more ds i x low)
    ∙ ap (λ y. value_of y ∷ left) (sym is) in
    ap (λ vs. items_copied roots d base (items vs) copies) all_left
    ∙ ap (items_copied roots d base (items left)) (here roots d base copies) ∙ rest roots d base copies

-- then nothing is copied for a document
pub free_source : (roots : List Resource) (s : SourceDocument) (d : Option Dialect) (copies : Copies) → IsFree s.root
    → copied_by roots s d copies ≡ copies
free_source roots s None copies free = refl
free_source roots s (Some d) copies free = free roots d s.uri copies

pub no_part : (t : Text) (b : Bool) → is_rooted (after_first is_mark t) ≡ b → b ≡ false → LeadsToNoPart (Some (text t))
no_part t b rooted not roots base copies =
    ap (λ c. cond c (copied_for_uri roots (uri_joined base t) copies) copies) (rooted ∙ not)
