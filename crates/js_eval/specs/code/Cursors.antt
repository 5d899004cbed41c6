-- The applications that the cursors of a walk still have to ask for.
use Rattle.std.specs.Prelude.{◌≡◌, ℕ, ◌<◌, Bool, true, false, not, ◌||◌, List, [], ◌++◌, Option}
use Rattle.std.specs.Prelude.{Some, None, map, filter, drop, get_or}
use Rattle.std.specs.Borrow.{Bor}
use Rattle.std.specs.Cmp.Lexicographic.{slice_cmp}
use Rattle.std.specs.List.{list_any, flat_map}
use Rattle.std.specs.Ordering.{is_eq, nat_cmp}
use Rattle.js_assert.specs.Argument.{has}
use Rattle.js_assert.specs.Pattern.{matches}
use Rattle.js_doc.specs.Seen.{pair_of, value_of}
use Rattle.js_doc.specs.Value.{Value, Named}
use Rattle.js_doc.specs.declared.doc.Doc.{Doc}
use Rattle.js_bundle.specs.Document.{Documents}
use Rattle.js_bundle.specs.Resource.{Site}
use Rattle.js_eval.specs.Applications.{Application, application, among_indexes, among_names, indexed_from}
use Rattle.js_eval.specs.code.Applied.{applied}
pub use Rattle.js_eval.specs.code.Patterns.{named_in}
use Rattle.js_eval.specs.code.Standing.{IsSchemaAt}
use Rattle.js_eval.specs.Bundle.{schemas_of}
use Rattle.js_eval.specs.SchemaSet.{Text, Index, Name}
use Rattle.js_eval.specs.Sited.{numbered_site}
use Rattle.js_eval.specs.declared.cursors.item_cursor.ItemCursor.{ItemCursor}
use Rattle.js_eval.specs.declared.cursors.member_cursor.Choice.{Choice}
use Rattle.js_eval.specs.declared.cursors.member_cursor.Choice.TheVariants as choice
use Rattle.js_eval.specs.declared.cursors.member_cursor.MemberCursor.{MemberCursor}
use Rattle.js_eval.specs.declared.cursors.pattern_cursor.PatternCursor.{PatternCursor}
use Rattle.js_eval.specs.declared.searching.searchers.NamedPattern.{NamedPattern}

-- ---- items

-- the item at this index is marked
abbrev pub is_marked : List Bool → ℕ → Bool
is_marked marks i = get_or marks i false

-- of this many, those at these indexes are marked
abbrev pub AreMarked : List Bool → ℕ → List ℕ → Type 0
AreMarked marks count indexes = (i : ℕ) → i < count → is_marked marks i ≡ among_indexes i indexes

-- the items from one on that aren't marked, with their indexes
abbrev pub items_left : List Bool → ℕ → List Doc → List (ℕ × Value)
items_left marks next items =
    filter (λ e. not (is_marked marks e.0)) (indexed_from next (map value_of (drop next items)))

abbrev pub items_asked : Documents → ItemCursor → List (Application Site)
items_asked documents c =
    map (λ e. applied documents c.held c.to (Index e.0) e.1) (items_left c.passed_over.items c.next c.items.now)

-- ---- members

-- a name among those of a set
unfoldable pub is_among_keys : List (Bor Text) → Text → Bool
is_among_keys keys name = list_any (λ k. is_eq (slice_cmp nat_cmp name k.now)) keys

-- a set has these names, and no others
abbrev pub HasNames : List (Bor Text) → List Text → Type 0
HasNames keys names = (name : Text) → is_among_keys keys name ≡ among_names name names

abbrev pub is_named : Option (Bor Named) → Text → Bool
is_named properties name = has name (named_in properties)

abbrev pub is_matched : Option (Bor Named) → Text → Bool
is_matched patterns name = list_any (λ p. matches p.0 name) (named_in patterns)

-- the member of this name is chosen
abbrev pub is_chosen : Choice → Text → Bool
is_chosen choice.All name = true
is_chosen (choice.Named named) name = has name named.now
is_chosen (choice.Additional adjacent) name =
    not (is_named adjacent.properties name || is_matched adjacent.patterns name)
is_chosen (choice.Except names) name = not (is_among_keys names.keys name)

-- those of the members that are chosen
abbrev pub chosen_members : Choice → List (List ℕ × Doc) → Named
chosen_members choice members = filter (λ m. is_chosen choice m.0) (map pair_of members)

abbrev pub members_asked : Documents → MemberCursor → List (Application Site)
members_asked documents c = map (λ m. applied documents c.held c.to (Name m.0) m.1) (chosen_members c.choice c.members)

-- ---- the members whose names patterns match

-- a pattern's schema, applied to those of the members whose names it matches
abbrev pub matching_asked : Documents → Site → Text → Text → Named → List (Application Site)
matching_asked documents place keyword pattern members =
    map (λ m. application (schemas_of documents) place keyword (Name pattern) (Name m.0) m.1)
    (filter (λ m. matches pattern m.0) members)

-- the schema at a place, by its pattern, on a member
abbrev pub on_matched_member : Documents → ℕ → Text → Text × Value → Application Site
on_matched_member documents place pattern m =
    record { place = numbered_site documents place; step = Name pattern; at = Name m.0; value = m.1 }

-- the schema at a place, on those of the members that are left and that its pattern matches
abbrev pub present_asked : Documents → Option NamedPattern → ℕ → Text → List (List ℕ × Doc)
    → List (Application Site)
present_asked documents None place name left = []
present_asked documents (Some pattern) place name left =
    map (on_matched_member documents place name) (filter (λ m. matches pattern.text.now m.0) (map pair_of left))

-- the applications of the patterns that are still to come
abbrev pub coming_asked : Documents → PatternCursor → List (List ℕ × Doc) → List (Application Site)
coming_asked documents c patterns = flat_map (λ p.
    matching_asked documents (numbered_site documents c.place) c.keyword.now p.0 c.members.now) (map pair_of patterns)

abbrev pub patterns_asked : Documents → PatternCursor → List (Application Site)
patterns_asked documents c = present_asked documents c.present c.below c.name.now c.left
    ++ coming_asked documents c c.patterns

-- this pattern is the present one, and all members are left for it
pub record IsBegun (documents : Documents) (name : Text) (pattern : NamedPattern) (c d : PatternCursor) : Type 0 where
  pub present : d.present ≡ Some pattern
  pub pattern_is : pattern.text.now ≡ name
  pub asks : present_asked documents d.present d.below d.name.now d.left
      ≡ matching_asked documents (numbered_site documents c.place) c.keyword.now name c.members.now
  pub is : IsSchemaAt documents d.below (value_of d.schema_below.now)
  pub place : d.place ≡ c.place
  pub schema : d.schema ≡ c.schema
  pub keyword : d.keyword ≡ c.keyword
  pub members : d.members ≡ c.members
  pub patterns : d.patterns ≡ c.patterns
