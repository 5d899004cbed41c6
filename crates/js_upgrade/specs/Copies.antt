-- Documents with copies of what their references lead to, where that stands apart. Each object is looked at as if it
-- were a schema: what stands below an unknown keyword can be one, and then its references count. So a copy's own
-- references are among those that are looked at.
use Rattle.std.specs.Prelude.{ℕ, ◌/◌, List, [], ◌∷◌, Bool, false, Option, Some, None, bytes_eq, codes, flat_map, map}
use Rattle.std.specs.Prelude.{slice_get}
use Rattle.std.specs.Prelude.{slice_set, unwrap_or, if◌then◌else◌}
use Rattle.std.specs.List.{after_first, position_from}
use Rattle.url.specs.Parts.{Parts}
use Rattle.js_doc.specs.Members.{get, has_name, put}
use Rattle.js_doc.specs.Parts.{member_list, members_of}
use Rattle.js_doc.specs.Pointer.{Tokens}
use Rattle.js_doc.specs.Value.{Value, text, list, object, Items, no_items, item, Members, no_members, member}
use Rattle.js_doc.specs.Value.{Text, Named, members}
use Rattle.js_upgrade.specs.Apart.{copy_of, definitions_of}
use Rattle.js_upgrade.specs.CopyName.{definitions_name, is_rooted}
use Rattle.js_upgrade.specs.Resource.{Resource, own_base, resource_under}
use Rattle.js_upgrade.specs.Schema.{is_mark, put_all}
use Rattle.js_upgrade.specs.Source.{SourceDocument, Sources, source_dialect, source_with_root}
use Rattle.js_upgrade.specs.Upgrade.{own_dialect}
use Rattle.js_upgrade.specs.Url.{fragment_pointer, uri_joined, uri_printed, uri_without_fragment}
use Rattle.js_upgrade.specs.declared.dialect.Dialect.{Dialect}

-- the copies of each document, in order
abbrev pub Copies : Type 0
Copies = List Named

-- ---- what a reference leads to

-- what the identifier of a root gives, or the document's URI
abbrev pub root_base : Dialect → Parts → Named → Parts
root_base d uri siblings = own_base (own_dialect d siblings) uri siblings

-- a document is there twice: under its URI, and under what the identifier of its root gives
abbrev pub roots_by : Dialect → Parts → Value → List Resource
roots_by d uri root = resource_under d root uri ∷ resource_under d root (root_base d uri (members_of root)) ∷ []

abbrev pub roots_of : SourceDocument → List Resource
roots_of s = roots_by (unwrap_or (source_dialect s) s.assumed) s.uri s.root

abbrev pub document_roots : Sources → List Resource
document_roots sources = flat_map roots_of sources

-- the number of the first with the URI
abbrev pub root_numbered : List Resource → Text → Option ℕ
root_numbered roots uri = position_from (λ r. bytes_eq uri r.uri) 0 roots

-- ---- one copy more

abbrev pub is_copied : Text → Option Named → Bool
is_copied name None = false
is_copied name (Some copies) = has_name name copies

abbrev pub with_member : Text × Value → ℕ → Copies → Option Named → Copies
with_member m n copies None = copies
with_member m n copies (Some ms) = slice_set copies n (put m.0 m.1 ms)

-- of the document with this number
abbrev pub with_copy : ℕ → Option (Text × Value) → Copies → Copies
with_copy n None copies = copies
with_copy n (Some m) copies =
    if is_copied m.0 (slice_get copies n) then copies else with_member m n copies (slice_get copies n)

-- of what stands at the tokens in the root with this number; each document has two
abbrev pub copied_in : ℕ → Tokens → Copies → Option Resource → Copies
copied_in n tokens copies None = copies
copied_in n tokens copies (Some r) = with_copy (n / 2) (copy_of r.dialect r.root tokens) copies

module _ (roots : List Resource) where
  abbrev pub copied_at : Option Tokens → Option ℕ → Copies → Copies
  copied_at (Some tokens) (Some n) copies = copied_in n tokens copies (slice_get roots n)
  copied_at _ _ copies = copies

  abbrev pub copied_for_uri : Option Parts → Copies → Copies
  copied_for_uri None copies = copies
  copied_for_uri (Some uri) copies =
      copied_at (fragment_pointer uri) (root_numbered roots (uri_printed (uri_without_fragment uri))) copies

  -- for a reference whose fragment is a pointer below a root
  abbrev pub copied_for_text : Parts → Text → Copies → Copies
  copied_for_text base t copies =
      if is_rooted (after_first is_mark t) then copied_for_uri (uri_joined base t) copies else copies

  abbrev pub copied_for : Parts → Option Value → Copies → Copies
  copied_for base (Some (text t)) copies = copied_for_text base t copies
  copied_for base _ copies = copies

  -- ---- for all references in a value

  abbrev mutual
    pub all_copied : Dialect → Parts → Value → Copies → Copies
    all_copied d base (object ms) copies =
        let own = own_dialect d (member_list ms) in
        let below = own_base own base (member_list ms) in
        members_copied own below ms (copied_for below (get (codes "$ref") (member_list ms)) copies)
    all_copied d base (list vs) copies = items_copied d base vs copies
    all_copied d base v copies = copies

    pub items_copied : Dialect → Parts → Items → Copies → Copies
    items_copied d base no_items copies = copies
    items_copied d base (item v vs) copies = items_copied d base vs (all_copied d base v copies)

    pub members_copied : Dialect → Parts → Members → Copies → Copies
    members_copied d base no_members copies = copies
    members_copied d base (member name v ms) copies = members_copied d base ms (all_copied d base v copies)

  -- ---- for all references in documents

  abbrev pub copied_by : SourceDocument → Option Dialect → Copies → Copies
  copied_by s None copies = copies
  copied_by s (Some d) copies = all_copied d s.uri s.root copies

  abbrev pub sources_copied : Sources → Copies → Copies
  sources_copied [] copies = copies
  sources_copied (s ∷ ss) copies = sources_copied ss (copied_by s (source_dialect s) copies)

abbrev pub no_copies : SourceDocument → Named
no_copies s = []

abbrev pub copies_of : Sources → Copies
copies_of sources = sources_copied (document_roots sources) sources (map no_copies sources)

-- ---- the documents with their copies

abbrev pub with_definitions : Dialect → Named → Value → Value
with_definitions d copies (object ms) =
    object (members (put (definitions_name d) (object (members (put_all copies (definitions_of d (object ms)))))
    (member_list ms)))
with_definitions d copies v = v

abbrev pub root_with : Option Dialect → Named → Value → Value
root_with None copies root = root
root_with (Some d) [] root = root
root_with (Some d) (m ∷ ms) root = with_definitions d (m ∷ ms) root

abbrev pub source_with : Named → SourceDocument → SourceDocument
source_with copies s = source_with_root s (root_with (source_dialect s) copies s.root)

abbrev pub sources_with : Copies → Sources → Sources
sources_with copies [] = []
sources_with [] (s ∷ ss) = s ∷ ss
sources_with (c ∷ copies) (s ∷ ss) = source_with c s ∷ sources_with copies ss
