-- A keyword's leaf, which opens and closes at once: its row is added, unless it goes.
use Rattle.std.specs.Prelude.{◌≡◌, ℕ, ◌-◌, ◌≤◌, Bool, true, false, List, [], ◌∷◌, ◌++◌, Some}
use Rattle.std.specs.Prelude.{drop, length, map, slice_get, suc, refl}
use Rattle.std.proofs.Common.{arith, ap, sym, ◌∙◌}
use Rattle.std.proofs.Math.Seq.{drop-append_seam, take-append_seam}
use Rattle.std.proofs.lemmas.List.{drop_all, length-append, map-append}
use Rattle.std.proofs.lemmas.Grind.{flat_map-append}
use Rattle.std.specs.List.{list_all}
use Rattle.json.specs.Print.{escape, escape_byte}
use Rattle.js_doc.specs.Escapes.{stands}
use Rattle.js_tree.specs.Events.{closing, opening}
use Rattle.js_tree.specs.FlatState.{FlatRow, closed_row, opening_row, with_closed}
use Rattle.js_tree.specs.Note.{Note}
use Rattle.js_tree.specs.Rows.RelativeState.{HasLeaf, OpenNode, TakesLeafAt, escaped_row, open_node}
use Rattle.js_tree.specs.Rows.RelativeState.{open_nodes, relative_after, relative_opened, relative_row}
use Rattle.js_tree.specs.Rows.RelativeState.{relative_state, row_goes, rows_closed}
use Rattle.js_tree.specs.declared.rows.relative_rows.OpenNode.{OpenNode as DeclaredOpen}
use Rattle.js_tree.specs.declared.rows.relative_rows.RelativeRow.{RelativeRow}
use Rattle.js_tree.specs.declared.rows.relative_rows.RelativeRows.{RelativeRows}
use Rattle.js_tree.proofs.RowsOfTrees.RelativeRowsCollected.{at, opened_below, token_stands}
use Rattle.js_tree.proofs.RowsOfTrees.SilentLeaves.{opened_with}

-- ---- which node is the innermost

last_open : (x : DeclaredOpen) (xs : List DeclaredOpen) (nodes : List OpenNode) → Some x ≡ slice_get xs (length xs - 1)
    → (others : List OpenNode) × (open_nodes xs nodes ≡ open_node x ∷ others)
last_open x [] nodes e = absurd cc
last_open x (y ∷ []) nodes e = (nodes, cc)
last_open x (y ∷ z ∷ ys) nodes e =
    last_open x (z ∷ ys) (open_node y ∷ nodes)
    (e ∙ ap (slice_get (y ∷ z ∷ ys))
    (let a : suc (suc (length ys)) - 1 ≡ suc (suc (length ys) - 1) = omega (arith) in a))

pub innermost_at : (x : DeclaredOpen) (xs : List DeclaredOpen) (keyword instance : ℕ)
    → Some x ≡ slice_get xs (length xs - 1)
    → x.keyword ≡ keyword → instance ≤ x.instance
    → (o : OpenNode) × (others : List OpenNode) × (open_nodes xs [] ≡ o ∷ others) × (o.keyword ≡ keyword)
    × (instance ≤ o.instance)
innermost_at x xs keyword instance e k i =
    let found = last_open x xs [] e in
    (open_node x, found.0, found.1, k, i)

-- ---- its row

one_more : (rows : List FlatRow) (row : FlatRow) → length (rows ++ row ∷ []) - length rows ≡ 1
one_more rows row = omega (arith, length-append rows (row ∷ []))

closed_last : (rows : List FlatRow) (row : FlatRow) (valid : Bool) (note : Note)
    → with_closed (length rows) valid note 1 (rows ++ row ∷ []) ≡ rows ++ closed_row row valid note 1 ∷ []
closed_last [] row valid note = refl
closed_last (r ∷ rows) row valid note = ap (λ rs. r ∷ rs) (closed_last rows row valid note)

-- what is left of it
abbrev rows_left : Bool → List FlatRow → FlatRow → Bool → Note → List FlatRow
rows_left true rows row valid note = rows
rows_left false rows row valid note = rows ++ closed_row row valid note 1 ∷ []

last_closed : (goes : Bool) (rows : List FlatRow) (row : FlatRow) (valid : Bool) (note : Note)
    → rows_closed goes (length rows) valid note (rows ++ row ∷ []) ≡ rows_left goes rows row valid note
last_closed true rows row valid note = take-append_seam rows (row ∷ [])
last_closed false rows row valid note =
    ap (λ n. with_closed (length rows) valid note n (rows ++ row ∷ [])) (one_more rows row)
    ∙ closed_last rows row valid note

comes_and_closes : (trims goes : Bool) (rows : List FlatRow) (o : OpenNode) (nodes : List OpenNode)
    (keyword absolute instance : List ℕ) (valid : Bool) (note : Note)
    → goes ≡ row_goes trims note 1
    → relative_after (relative_opened trims rows (o ∷ nodes) keyword absolute instance) (closing valid note)
    ≡ at trims (rows_left goes rows (escaped_row (drop o.keyword keyword) absolute (drop o.instance instance))
    valid note) (o ∷ nodes)
comes_and_closes trims goes rows o nodes keyword absolute instance valid note g =
    let row : FlatRow = escaped_row (drop o.keyword keyword) absolute (drop o.instance instance) in
    ap (λ s. relative_after s (closing valid note)) (opened_below rows o nodes keyword absolute instance)
    ∙ (ap (λ n. at trims (rows_closed (row_goes trims note n) (length rows) valid note (rows ++ row ∷ []))
    (o ∷ nodes)) (one_more rows row)
    ∙ (ap (λ b. at trims (rows_closed b (length rows) valid note (rows ++ row ∷ [])) (o ∷ nodes)) (sym g)
    ∙ ap (λ zs. at trims zs (o ∷ nodes)) (last_closed goes rows row valid note)))

-- ---- what the code adds

-- the row has a slash and the name in both places
pub leaf_row : (o : OpenNode) (keyword schema name instance : List ℕ) (valid : Bool) (note : Note)
    → o.keyword ≡ length keyword → length instance ≤ o.instance → list_all stands name ≡ true
    → ◌≡◌ {A = FlatRow} (
      record
          { valid = valid; keyword = 47 ∷ name; absolute = escape schema ++ 47 ∷ name; instance = []; note = note },
      1,
    )
    (closed_row (escaped_row (drop o.keyword (keyword ++ 47 ∷ name)) (schema ++ 47 ∷ name)
    (drop o.instance instance)) valid note 1)
leaf_row o keyword schema name instance valid note k i n =
    let added : drop o.keyword (keyword ++ 47 ∷ name) ≡ 47 ∷ name = ap (λ m. drop m (keyword ++ 47 ∷ name)) k
    ∙ drop-append_seam keyword (47 ∷ name) in
    let none : drop o.instance instance ≡ [] = drop_all o.instance instance i in
    let plain : escape (47 ∷ name) ≡ 47 ∷ name = token_stands name n in
    let whole : escape (schema ++ 47 ∷ name) ≡ escape schema ++ 47 ∷ name =
    flat_map-append escape_byte schema (47 ∷ name) ∙ ap (λ z. escape schema ++ z) plain in
    sym (ap (λ z. closed_row (escaped_row z (schema ++ 47 ∷ name) (drop o.instance instance)) valid note 1) added
    ∙ (ap (λ z. closed_row (escaped_row (47 ∷ name) (schema ++ 47 ∷ name) z) valid note 1) none
    ∙ (ap (λ z. closed_row (opening_row z (escape (schema ++ 47 ∷ name)) []) valid note 1) plain
    ∙ ap (λ z. closed_row (opening_row (47 ∷ name) z []) valid note 1) whole)))

-- the events lead there
there : (old new : RelativeRows) (keyword schema name instance : List ℕ) (valid : Bool) (note : Note)
    → TakesLeafAt old keyword instance
    → relative_state new ≡ relative_after (relative_after (relative_state old)
    (opening (keyword ++ 47 ∷ name) (schema ++ 47 ∷ name) instance)) (closing valid note)
    → HasLeaf keyword schema name instance valid note old new
there old new keyword schema name instance valid note t e =
    let m = opened_with old old.rows.items old.nodes.items (keyword ++ 47 ∷ name) (schema ++ 47 ∷ name)
    instance t.few t.shallow in
    (m.0, m.1, (new, e ∙ ap (λ s. relative_after s (closing valid note)) (sym m.1), refl))

closed_at_once : (old : RelativeRows) (goes : Bool) (keyword schema name instance : List ℕ) (valid : Bool) (note : Note)
    → (t : TakesLeafAt old keyword instance) → goes ≡ row_goes old.trims note 1
    → at old.trims (rows_left goes (map relative_row old.rows.items) (escaped_row (drop t.node.keyword (keyword ++ 47
    ∷ name)) (schema ++ 47 ∷ name) (drop t.node.instance instance)) valid note) (open_nodes old.nodes.items [])
    ≡ relative_after (relative_after (relative_state old)
    (opening (keyword ++ 47 ∷ name) (schema ++ 47 ∷ name) instance)) (closing valid note)
closed_at_once old goes keyword schema name instance valid note t g =
    let rows = map relative_row old.rows.items in
    let row : FlatRow = escaped_row (drop t.node.keyword (keyword ++ 47 ∷ name)) (schema ++ 47 ∷ name)
    (drop t.node.instance instance) in
    ap (λ os. at old.trims (rows_left goes rows row valid note) os) t.open_are
    ∙ (sym (comes_and_closes old.trims goes rows t.node t.others (keyword ++ 47 ∷ name)
    (schema ++ 47 ∷ name) instance valid note g)
    ∙ ap (λ os. relative_after (relative_opened old.trims rows os (keyword ++ 47 ∷ name) (schema ++ 47 ∷ name)
    instance) (closing valid note)) (sym t.open_are))

-- a leaf that goes leaves the rows
pub leaf_goes : (old : RelativeRows) (keyword schema name instance : List ℕ) (valid : Bool) (note : Note)
    → TakesLeafAt old keyword instance → true ≡ row_goes old.trims note 1
    → HasLeaf keyword schema name instance valid note old old
leaf_goes old keyword schema name instance valid note t g =
    there old old keyword schema name instance valid note t
    (closed_at_once old true keyword schema name instance valid note t g)

-- any other is the last row
pub leaf_stays : (old new : RelativeRows) (r : RelativeRow) (keyword schema name instance : List ℕ)
    (valid : Bool) (note : Note)
    → TakesLeafAt old keyword instance → list_all stands name ≡ true → false ≡ row_goes old.trims note 1
    → new.rows.items ≡ old.rows.items ++ r ∷ [] → new.nodes.items ≡ old.nodes.items → new.trims ≡ old.trims
    → relative_row r ≡ (
      record
          { valid = valid; keyword = 47 ∷ name; absolute = escape schema ++ 47 ∷ name; instance = []; note = note },
      1,
    )
    → HasLeaf keyword schema name instance valid note old new
leaf_stays old new r keyword schema name instance valid note t n g rows nodes trims is =
    let row = leaf_row t.node keyword schema name instance valid note t.keyword_is t.instance_is n in
    let all = ap (map relative_row) rows ∙ (map-append relative_row old.rows.items (r ∷ [])
    ∙ ap (λ q. map relative_row old.rows.items ++ q ∷ []) (is ∙ row)) in
    there old new keyword schema name instance valid note t
    (ap (λ b. at b (map relative_row new.rows.items) (open_nodes new.nodes.items [])) trims
    ∙ (ap (λ os. at old.trims (map relative_row new.rows.items) (open_nodes os [])) nodes
    ∙ (ap (λ zs. at old.trims zs (open_nodes old.nodes.items [])) all
    ∙ closed_at_once old false keyword schema name instance valid note t g)))
