-- A collector of rows that have only what their locations add, and the events of a tree.
use Rattle.std.specs.Prelude.{◌≡◌, ℕ, suc, ◌+◌, ◌-◌, ◌==◌, ◌<◌, ◌≤◌, Bool, true, false, not, ◌||◌, List, [], ◌∷◌, ◌++◌}
use Rattle.std.specs.Prelude.{drop, get_or, length, map, take, slice_get, slice_set, slice_index_or, Some, refl}
use Rattle.std.proofs.Common.{arith, ap, sym, ◌∙◌, append-nil}
use Rattle.std.proofs.lemmas.List.{append_assoc, length-map, map-append, take-map}
use Rattle.std.specs.List.{list_all}
use Rattle.std.specs.Str.{bytes_eq}
use Rattle.std.proofs.lemmas.Bool.Decides.{nat_tests}
use Rattle.std.proofs.lemmas.Slice.Eq.{bytes_eq-Decides}
use Rattle.json.specs.Print.{escape}
use Rattle.js_doc.specs.Escapes.{stands}
use Rattle.js_doc.proofs.QuotedRuns.{nothing_escaped}
use Rattle.js_tree.specs.Events.{closing, events, events_of, Passes, after_all}
use Rattle.js_tree.specs.Flat.{flat_of}
use Rattle.js_tree.specs.FlatState.{FlatRow, opening_row, closed_row, with_closed}
use Rattle.js_tree.specs.Forest.{Forest, empty, tree, node_count}
use Rattle.js_tree.specs.Note.{Note}
use Rattle.js_tree.specs.OutputUnit.{OutputUnit}
use Rattle.js_tree.specs.Result.{ResultTree}
use Rattle.js_tree.proofs.ChildTexts.{rest_of}
use Rattle.js_tree.proofs.FlatFormCollected.{closed_at, row_closed, with_closed-beyond}
use Rattle.js_tree.proofs.EventSequences.{passes-after_all, after_all-append}
use Rattle.js_tree.specs.Rows.Relative.{escaped, escaped_unit, relative, relative_unit}
use Rattle.js_tree.specs.Rows.RelativeState.{OpenNode, RelativeState, escaped_row, relative_start, whole_relative}
use Rattle.js_tree.specs.Rows.RelativeState.{open_at}
use Rattle.js_tree.specs.Rows.RelativeState.{node_above, relative_opened, relative_closed, relative_after, rows_closed}
use Rattle.js_tree.specs.Rows.RelativeState.{row_goes, relative_row, open_node, open_nodes, relative_state}
use Rattle.js_tree.specs.declared.rows.relative_rows.OpenNode.{OpenNode as DeclaredOpen}
use Rattle.js_tree.specs.declared.rows.relative_rows.RelativeRow.{RelativeRow}
use Rattle.js_tree.specs.declared.rows.relative_rows.RelativeRows.{RelativeRows}

-- ---- the events of a tree

abbrev pub at : Bool → List FlatRow → List OpenNode → RelativeState
at trims rows nodes = record { rows = rows; nodes = nodes; trims = trims }

pub opened_below : {trims : Bool} (rows : List FlatRow) (o : OpenNode) (nodes : List OpenNode)
    (keyword absolute instance : List ℕ)
    → relative_opened trims rows (o ∷ nodes) keyword absolute instance ≡ at trims (rows ++ escaped_row (drop o.keyword
    keyword) absolute (drop o.instance instance) ∷ []) (open_at (length rows) keyword instance ∷ o ∷ nodes)
opened_below [] o nodes keyword absolute instance = refl
opened_below (r ∷ rows) o nodes keyword absolute instance = refl

abbrev pub unknown : OutputUnit → FlatRow
unknown u = opening_row u.keyword u.absolute u.instance

-- what follows a node that opens, once what is below it is known
pub opened_over : (trims : Bool) (u : OutputUnit) (below rest : Forest OutputUnit) (rows : List FlatRow) (o : OpenNode)
    (nodes : List OpenNode) (s : RelativeState)
    → after_all relative_after (at trims (rows ++ unknown (escaped_unit (relative_unit o.keyword o.instance u)) ∷ [])
    (open_at (length rows) u.keyword u.instance ∷ o ∷ nodes)) (events_of below) ≡ s
    → after_all relative_after (at trims rows (o ∷ nodes)) (events_of (tree u below rest))
    ≡ after_all relative_after (relative_after s (closing u.valid u.note)) (events_of rest)
opened_over trims u below rest rows o nodes s h =
    let v : OutputUnit = escaped_unit (relative_unit o.keyword o.instance u) in
    ap (λ s. after_all relative_after s (events_of below ++ (closing u.valid u.note ∷ events_of rest)))
    (opened_below rows o nodes u.keyword u.absolute u.instance)
    ∙ (after_all-append relative_after (at trims (rows ++ unknown v ∷ []) (open_at (length rows) u.keyword u.instance
    ∷ o ∷ nodes)) (events_of below) (closing u.valid u.note ∷ events_of rest)
    ∙ ap (λ s. after_all relative_after s (closing u.valid u.note ∷ events_of rest)) h)

-- and what the root's end leaves
pub root_over : (trims : Bool) (t : ResultTree) (s : RelativeState)
    → after_all relative_after (at trims (unknown (escaped_unit t.root) ∷ [])
    (open_at 0 t.root.keyword t.root.instance ∷ [])) (events_of t.below) ≡ s
    → after_all relative_after (at trims [] []) (events t) ≡ relative_after s (closing t.root.valid t.root.note)
root_over trims t s h =
    after_all-append relative_after (at trims (unknown (escaped_unit t.root) ∷ [])
    (open_at 0 t.root.keyword t.root.instance ∷ [])) (events_of t.below) (closing t.root.valid t.root.note ∷ [])
    ∙ ap (λ s. relative_after s (closing t.root.valid t.root.note)) h

relative_closed_at : (rows : List FlatRow) (u : OutputUnit) (f : Forest OutputUnit) (keyword instance : List ℕ)
    (nodes : List OpenNode)
    → relative_closed false ((rows ++ unknown u ∷ []) ++ flat_of f) (open_at (length rows) keyword instance ∷ nodes)
    u.valid u.note ≡ at false (rows ++ (u, suc (node_count f)) ∷ flat_of f) nodes
relative_closed_at rows u f keyword instance nodes = ap (λ s. at false s.rows nodes) (closed_at rows u f [])

reported_below : (f : Forest OutputUnit) (rows : List FlatRow) (o : OpenNode) (nodes : List OpenNode)
    → after_all relative_after (at false rows (o ∷ nodes)) (events_of f)
    ≡ at false (rows ++ flat_of (escaped (relative o.keyword o.instance f))) (o ∷ nodes)
reported_below empty rows o nodes = ap (λ zs. at false zs (o ∷ nodes)) (sym (append-nil rows))
reported_below (tree u below rest) rows o nodes =
    let v : OutputUnit = escaped_unit (relative_unit o.keyword o.instance u) in
    let g : Forest OutputUnit = escaped (relative (length u.keyword) (length u.instance) below) in
    opened_over false u below rest rows o nodes _
    (reported_below below (rows ++ unknown v ∷ []) (open_at (length rows) u.keyword u.instance) (o ∷ nodes))
    ∙ (ap (λ s. after_all relative_after s (events_of rest))
    (relative_closed_at rows v g u.keyword u.instance (o ∷ nodes))
    ∙ (reported_below rest (rows ++ (v, suc (node_count g)) ∷ flat_of g) o nodes
    ∙ ap (λ zs. at false zs (o ∷ nodes)) (append_assoc rows ((v, suc (node_count g)) ∷ flat_of g)
    (flat_of (escaped (relative o.keyword o.instance rest))))))

reported : (t : ResultTree) → after_all relative_after relative_start (events t) ≡ whole_relative false t
reported t =
    let o : OpenNode = open_at 0 t.root.keyword t.root.instance in
    let u : OutputUnit = escaped_unit t.root in
    root_over false t _ (reported_below t.below (unknown u ∷ []) o [])
    ∙ relative_closed_at [] u (escaped (relative o.keyword o.instance t.below)) t.root.keyword t.root.instance []

pub relative_held : (t : ResultTree) (c d : RelativeRows) → relative_state c ≡ relative_start → Passes (λ a e b.
    relative_state b ≡ relative_after (relative_state a) e) (events t) c d → relative_state d ≡ whole_relative d.trims t
relative_held t c d h p =
    let e : relative_state d ≡ whole_relative false t = passes-after_all relative_state relative_after (events t) c d p
    ∙ (ap (λ s. after_all relative_after s (events t)) h ∙ reported t) in
    e ∙ ap (λ trims. whole_relative trims t) (sym (ap (λ s. s.trims) e))

-- ---- the code's rows and open nodes

pub open_nodes-append : (os : List DeclaredOpen) (o : DeclaredOpen) (nodes : List OpenNode)
    → open_nodes (os ++ o ∷ []) nodes ≡ open_node o ∷ open_nodes os nodes
open_nodes-append [] o nodes = refl
open_nodes-append (x ∷ os) o nodes = open_nodes-append os o (open_node x ∷ nodes)

length-open_nodes : (os : List DeclaredOpen) (nodes : List OpenNode)
    → length (open_nodes os nodes) ≡ length os + length nodes
length-open_nodes [] nodes = omega (arith)
length-open_nodes (o ∷ os) nodes = omega (arith, length-open_nodes os (open_node o ∷ nodes))

-- the innermost is the last
pub innermost_is : (x : DeclaredOpen) (xs : List DeclaredOpen) (nodes : List OpenNode)
    → Some x ≡ slice_get xs (length xs - 1) → open_node x ≡ node_above (open_nodes xs nodes)
innermost_is x [] nodes e = absurd cc
innermost_is x (y ∷ []) nodes e = cc
innermost_is x (y ∷ z ∷ ys) nodes e = innermost_is x (z ∷ ys) (open_node y ∷ nodes) (e
    ∙ ap (slice_get (y ∷ z ∷ ys)) (let a : suc (suc (length ys)) - 1 ≡ suc (suc (length ys) - 1) = omega (arith) in a))

-- what isn't there doesn't go
none_goes : (trims : Bool) (note : Note) → false ≡ row_goes trims note 0
none_goes true note = refl
none_goes false note = refl

popped : {trims : Bool} (rows : List FlatRow) (os ps : List DeclaredOpen) (o : DeclaredOpen) (valid : Bool)
    (note : Note) (zs : List FlatRow) → os ≡ ps ++ o ∷ []
    → zs ≡ rows_closed (row_goes trims note (length rows - o.number)) o.number valid note rows
    → at trims zs (open_nodes ps []) ≡ relative_closed trims rows (open_nodes os []) valid note
popped {trims} rows os ps o valid note zs e f =
    ap (λ qs. at trims qs (open_nodes ps [])) f ∙ ap (λ ks. relative_closed trims rows ks valid note)
    (sym (ap (λ xs. open_nodes xs []) e ∙ open_nodes-append ps o []))

-- what is said of the row's going
goes_or_not : (trims : Bool) (rows : List RelativeRow) (o : DeclaredOpen) (note : Note) (size : ℕ) (b : Bool)
    → size ≡ length rows - o.number → b ≡ row_goes trims note size
    → b ≡ row_goes trims note (length (map relative_row rows) - o.number)
goes_or_not trims rows o note size b s g = g
    ∙ ap (row_goes trims note) (s ∙ ap (λ n. n - o.number) (sym (length-map rows relative_row)))

pub closes : {trims : Bool} (rows : List RelativeRow) (os ps : List DeclaredOpen) (o : DeclaredOpen)
    (old new : RelativeRow) (valid : Bool) (note : Note) (size : ℕ) → os ≡ ps ++ o ∷ [] → o.number < length rows
    → size ≡ length rows - o.number
    → false ≡ row_goes trims note size → old ≡ slice_index_or rows o.number old
    → relative_row new ≡ closed_row (relative_row old) valid note size
    → at trims (map relative_row (slice_set rows o.number new)) (open_nodes ps [])
    ≡ relative_closed trims (map relative_row rows) (open_nodes os []) valid note
closes {trims} rows os ps o old new valid note size e lt s g i f =
    popped (map relative_row rows) os ps o valid note _ e
    (row_closed relative_row rows o.number old new valid note size lt i f
    ∙ (ap (λ k. with_closed o.number valid note k (map relative_row rows))
    (let l = length-map rows relative_row in omega (arith, s, l))
    ∙ ap (λ b. rows_closed b o.number valid note (map relative_row rows))
    (goes_or_not trims rows o note size false s g)))

pub closes_beyond : {trims : Bool} (rows : List RelativeRow) (os ps : List DeclaredOpen) (o : DeclaredOpen)
    (valid : Bool) (note : Note) → os ≡ ps ++ o ∷ [] → length rows ≤ o.number
    → at trims (map relative_row rows) (open_nodes ps [])
    ≡ relative_closed trims (map relative_row rows) (open_nodes os []) valid note
closes_beyond {trims} rows os ps o valid note e le =
    let none : 0 ≡ length rows - o.number = omega (arith, le) in
    popped (map relative_row rows) os ps o valid note _ e
    (sym (with_closed-beyond o.number valid note _ (map relative_row rows)
    (let l = length-map rows relative_row in omega (arith, le, l)))
    ∙ ap (λ b. rows_closed b o.number valid note (map relative_row rows))
    (goes_or_not trims rows o note 0 false none (none_goes trims note)))

-- the last row goes
pub drops : {trims : Bool} (rows : List RelativeRow) (os ps : List DeclaredOpen) (o : DeclaredOpen)
    (new : List RelativeRow) (valid : Bool) (note : Note) (size : ℕ) → os ≡ ps ++ o ∷ [] → size ≡ length rows - o.number
    → true ≡ row_goes trims note size → new ≡ take o.number rows
    → at trims (map relative_row new) (open_nodes ps [])
    ≡ relative_closed trims (map relative_row rows) (open_nodes os []) valid note
drops {trims} rows os ps o new valid note size e s g n =
    popped (map relative_row rows) os ps o valid note _ e
    (ap (map relative_row) n ∙ (sym (take-map relative_row o.number rows) ∙ ap
    (λ b. rows_closed b o.number valid note (map relative_row rows)) (goes_or_not trims rows o note size true s g)))

opened_there : {trims : Bool} (rows : List FlatRow) (nodes : List OpenNode) (keyword absolute instance : List ℕ)
    → (length nodes ≡ 0 → length rows ≡ 0)
    → relative_opened trims rows nodes keyword absolute instance
    ≡ at trims (rows ++ escaped_row (drop (node_above nodes).keyword keyword) absolute
    (drop (node_above nodes).instance instance) ∷ []) (open_at (length rows) keyword instance ∷ nodes)
opened_there [] [] keyword absolute instance h = refl
opened_there (r ∷ rows) [] keyword absolute instance h = let a : suc (length rows) ≡ 0 = h refl in
    absurd (omega (arith, a))
opened_there rows (o ∷ nodes) keyword absolute instance h = opened_below rows o nodes keyword absolute instance

-- a row from what the code knows of its parts
pub opening_is : (above found : OpenNode) (keyword absolute instance k a i added_keyword added_instance : List ℕ)
    → found ≡ above → k ≡ keyword → i ≡ instance → added_keyword ≡ escape (drop found.keyword k) → a ≡ escape absolute
    → added_instance ≡ escape (drop found.instance i)
    → opening_row added_keyword a added_instance
    ≡ escaped_row (drop above.keyword keyword) absolute (drop above.instance instance)
opening_is above found keyword absolute instance k a i added_keyword added_instance n ke ie ka ae ia =
    let x : added_keyword ≡ escape (drop above.keyword keyword) = ka
    ∙ (ap (λ z. escape (drop found.keyword z)) ke ∙ ap (λ o. escape (drop o.keyword keyword)) n) in
    let y : added_instance ≡ escape (drop above.instance instance) = ia
    ∙ (ap (λ z. escape (drop found.instance z)) ie ∙ ap (λ o. escape (drop o.instance instance)) n) in
    ap (λ z. opening_row z a added_instance) x ∙ (ap (λ z. opening_row (escape (drop above.keyword keyword)) z
    added_instance) ae ∙ ap (λ z. opening_row (escape (drop above.keyword keyword)) (escape absolute) z) y)

may_open : (rows os : ℕ) → not (os == 0) || rows == 0 ≡ true → os ≡ 0 → rows ≡ 0
may_open rows os e h = grind (arith, nat_tests, e, h)

-- the row has what the locations add to those of the node above
pub opens : {trims still : Bool} (rows room new : List RelativeRow) (os space ps : List DeclaredOpen) (r : RelativeRow)
    (keyword absolute instance k i : List ℕ)
    → not (length os == 0) || length rows == 0 ≡ true → room ≡ rows → space ≡ os → k ≡ keyword → i ≡ instance
    → relative_row r ≡ escaped_row (drop (node_above (open_nodes os [])).keyword keyword) absolute
    (drop (node_above (open_nodes os [])).instance instance)
    → new ≡ room ++ r ∷ [] → open_nodes ps [] ≡ open_at (length room) k i ∷ open_nodes space [] → still ≡ trims
    → at still (map relative_row new) (open_nodes ps [])
    ≡ relative_opened trims (map relative_row rows) (open_nodes os []) keyword absolute instance
opens {trims} {still} rows room new os space ps r keyword absolute instance k i may same_rows same_nodes ke ie f e d t =
    let row : FlatRow = escaped_row (drop (node_above (open_nodes os [])).keyword keyword) absolute
    (drop (node_above (open_nodes os [])).instance instance) in
    let n : length (map relative_row rows) ≡ length rows = length-map rows relative_row in
    let a : map relative_row new ≡ map relative_row rows ++ row ∷ [] =
    ap (map relative_row) (e ∙ ap (λ rs. rs ++ r ∷ []) same_rows)
    ∙ (map-append relative_row rows (r ∷ []) ∙ ap (λ q. map relative_row rows ++ q ∷ []) f) in
    let b : open_nodes ps [] ≡ open_at (length (map relative_row rows)) keyword instance ∷ open_nodes os [] =
    d ∙ (ap (λ qs. open_at (length room) k i ∷ open_nodes qs []) same_nodes
    ∙ (ap (λ z. open_at (length room) z i ∷ open_nodes os []) ke
    ∙ (ap (λ z. open_at (length room) keyword z ∷ open_nodes os []) ie
    ∙ ap (λ z. open_at z keyword instance ∷ open_nodes os []) (ap length same_rows ∙ sym n)))) in
    let g : length (open_nodes os []) ≡ 0 → length (map relative_row rows) ≡ 0 = λ z. n
    ∙ may_open (length rows) (length os) may (let k = length-open_nodes os [] in omega (arith, z, k)) in
    ap (λ z. at z (map relative_row new) (open_nodes ps [])) t
    ∙ (ap (λ qs. at trims qs (open_nodes ps [])) a ∙ (ap (λ qs. at trims (map relative_row rows ++ row ∷ []) qs) b
    ∙ sym (opened_there (map relative_row rows) (open_nodes os []) keyword absolute instance g)))

-- ---- a keyword's name in place of what is added

pub token_there : (added name : List ℕ) (same : Bool) → (length added == 0) ≡ false → get_or added 0 0 ≡ 47
    → same ≡ bytes_eq (take (length added - 1) (drop 1 added)) name → same ≡ true → added ≡ 47 ∷ name
token_there [] name same some first is t = absurd cc
token_there (b ∷ added) name same some first is t = ap (λ c. c ∷ added) first ∙ ap (λ l. 47 ∷ l)
    (sym (rest_of (b ∷ added)) ∙ (bytes_eq-Decides (take (suc (length added) - 1) added) name).0 (sym is ∙ t))

pub token_stands : (name : List ℕ) → list_all stands name ≡ true → escape (47 ∷ name) ≡ 47 ∷ name
token_stands name e = nothing_escaped (47 ∷ name) e
