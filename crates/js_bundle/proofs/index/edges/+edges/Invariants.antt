use Rattle.std.proofs.Common.{◌≡◌, ℕ, ◌+◌, ◌*◌, List, ◌++◌, map, drop, length}
use Rattle.js_doc.specs.Nesting.{depth}
use Rattle.js_doc.specs.Value.{list, object, items, members}
use Rattle.js_doc.specs.Seen.{value_of, pair_of}
use Rattle.js_bundle.specs.declared.index.edges.Edges.{Edges}
use Rattle.js_bundle.specs.code.Edges.{HeldNumbers, edges_of, edges_of_items, edges_of_keywords, edges_of_members}
use Rattle.js_bundle.specs.code.Edges.{held_by_keywords, held_of, numbers_of_items, numbers_of_members}
use Rattle.js_bundle.proofs.MemberLoops.{IsLoopOver}
use Rattle.js_bundle.proofs.index.edges.+edges.Given as goal

-- what these come to, after what is kept, is what all come to from the start on
abbrev EdgesGoOn : {A : Type 0} → (ℕ → A → List (List HeldNumbers)) → List Edges → A → List Edges → A → Type 0
EdgesGoOn edges first all kept left =
    map edges_of kept ++ edges (length kept) left ≡ map edges_of first ++ edges (length first) all

abbrev pub decreases-link_schema : goal.decreases-link_schema
decreases-link_schema l = 6 * depth (value_of l.schema.now) + 2

abbrev pub decreases-link_one : goal.decreases-link_one
decreases-link_one l = 6 * depth (value_of l.schema.now) + 3

abbrev pub decreases-link_held : goal.decreases-link_held
decreases-link_held l = 6 * depth (value_of l.argument.now) + 4

abbrev pub decreases-link_keyword : goal.decreases-link_keyword
decreases-link_keyword l = 6 * depth (value_of l.argument.now) + 5

abbrev pub decreases-keywords_of : goal.decreases-keywords_of
decreases-keywords_of l = 6 * depth (object (members l.members.now))

abbrev pub decreases-link_members : goal.decreases-link_members
decreases-link_members l = 6 * depth (object (members l.members.now)) + 1

abbrev pub decreases-link_items : goal.decreases-link_items
decreases-link_items l = 6 * depth (list (items (map value_of l.schemas.now))) + 1

abbrev pub invariant-link_items-loop-i : goal.invariant-link_items-loop-i
invariant-link_items-loop-i l = record {
  edges : EdgesGoOn edges_of_items l.initial.edges.items (items (map value_of l.schemas)) l.edges.items
      (items (map value_of (drop l.i l.schemas)));
  places : l.places.items ++ numbers_of_items (length l.edges.items) (items (map value_of (drop l.i l.schemas)))
      ≡ l.initial.places.items ++ numbers_of_items (length l.initial.edges.items) (items (map value_of l.schemas));
}

abbrev pub invariant-link_members-loop-schema : goal.invariant-link_members-loop-schema
invariant-link_members-loop-schema l =
    IsLoopOver l.initial.schema-iterator l.schema-iterator (λ es.
    EdgesGoOn edges_of_members l.initial.edges.items (members (map pair_of l.initial.schema-iterator)) l.edges.items
    (members (map pair_of es))
    × (l.places.items ++ numbers_of_members (length l.edges.items) (members (map pair_of es)) ≡ l.initial.places.items
    ++ numbers_of_members (length l.initial.edges.items) (members (map pair_of l.initial.schema-iterator))))

abbrev pub invariant-keywords_of-loop-keyword : goal.invariant-keywords_of-loop-keyword
invariant-keywords_of-loop-keyword l =
    IsLoopOver l.initial.keyword-iterator l.keyword-iterator (λ es.
    EdgesGoOn edges_of_keywords l.initial.edges.items (members (map pair_of l.initial.keyword-iterator)) l.edges.items
    (members (map pair_of es))
    × (map held_of l.held.items ++ held_by_keywords (length l.edges.items) (members (map pair_of es))
    ≡ held_by_keywords (length l.initial.edges.items) (members (map pair_of l.initial.keyword-iterator))))
