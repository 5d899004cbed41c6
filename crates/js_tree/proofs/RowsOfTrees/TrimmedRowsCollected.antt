-- A collector that trims, and the events of a tree.
use Rattle.std.specs.Prelude.{◌≡◌, ℕ, suc, ◌+◌, ◌-◌, Bool, true, false, not, ◌&&◌, nat_eq}
use Rattle.std.specs.Prelude.{if◌then◌else◌, List, [], ◌∷◌, ◌++◌, length, take, refl}
use Rattle.std.proofs.Common.{arith, ap, sym, ◌∙◌, append-nil}
use Rattle.std.proofs.Math.Seq.{take-append_seam}
use Rattle.std.proofs.lemmas.Bool.Decides.{nat_tests}
use Rattle.std.proofs.lemmas.List.{append_assoc, length-append}
use Rattle.js_tree.specs.Events.{events, events_of, Passes, after_all}
use Rattle.js_tree.specs.Flat.{flat_of}
use Rattle.js_tree.specs.FlatState.{FlatRow}
use Rattle.js_tree.specs.Forest.{Forest, empty, tree, node_count}
use Rattle.js_tree.specs.Note.{speaks}
use Rattle.js_tree.specs.OutputUnit.{OutputUnit}
use Rattle.js_tree.specs.Result.{ResultTree}
use Rattle.js_tree.specs.Trimmed.{is_silent_leaf, trimmed, trimmed_tree}
use Rattle.js_tree.proofs.FlatFormCollected.{closed_at, length-flat_of}
use Rattle.js_tree.proofs.EventSequences.{passes-after_all}
use Rattle.js_tree.specs.Rows.Relative.{AreLocated, IsLocated, escaped, escaped_unit, relative, relative_unit}
use Rattle.js_tree.specs.Rows.RelativeState.{OpenNode, open_at, relative_after, relative_closed, relative_state}
use Rattle.js_tree.specs.Rows.RelativeState.{rows_closed, row_goes, trimmed_relative, trimming_start}
use Rattle.js_tree.specs.declared.rows.relative_rows.RelativeRows.{RelativeRows}
use Rattle.js_tree.proofs.RowsOfTrees.RelativeRowsCollected.{at, opened_over, root_over, unknown}

-- ---- a node that closes

-- the rows of a closed node, if they don't go
abbrev closed_rows : OutputUnit → Forest OutputUnit → List FlatRow
closed_rows u f = (u, suc (node_count f)) ∷ flat_of f

not_one : (n : ℕ) → nat_eq (suc (suc n)) 1 ≡ false
not_one n = grind (arith, nat_tests)

-- a row goes exactly where a silent leaf does
goes : (u : OutputUnit) (f : Forest OutputUnit) (keyword instance : ℕ)
    → row_goes true u.note (suc (node_count (escaped (relative keyword instance f)))) ≡ is_silent_leaf u f
goes u empty keyword instance = refl
goes u (tree v below rest) keyword instance = ap (λ b. b && not (speaks u.note)) (not_one (node_count (escaped
    (relative (length v.keyword) (length v.instance) below)) + node_count (escaped (relative keyword instance rest))))

size_is : (rows : List FlatRow) (row : FlatRow) (f : Forest OutputUnit)
    → length ((rows ++ row ∷ []) ++ flat_of f) - length rows ≡ suc (node_count f)
size_is rows row f = omega
    (arith, length-append (rows ++ row ∷ []) (flat_of f), length-append rows (row ∷ []), length-flat_of f)

rows_before : (rows : List FlatRow) (row : FlatRow) (more : List FlatRow)
    → take (length rows) ((rows ++ row ∷ []) ++ more) ≡ rows
rows_before rows row more = ap (take (length rows)) (append_assoc rows (row ∷ []) more)
    ∙ take-append_seam rows (row ∷ more)

closed_by : (rows : List FlatRow) (u : OutputUnit) (f : Forest OutputUnit) (b : Bool)
    → rows_closed b (length rows) u.valid u.note ((rows ++ unknown u ∷ []) ++ flat_of f)
    ≡ (if b then rows else (rows ++ closed_rows u f))
closed_by rows u f true = rows_before rows (unknown u) (flat_of f)
closed_by rows u f false = ap (λ s. s.rows) (closed_at rows u f [])

trims_at : (rows : List FlatRow) (u : OutputUnit) (f : Forest OutputUnit) (keyword instance : List ℕ)
    (nodes : List OpenNode) (b : Bool) → row_goes true u.note (suc (node_count f)) ≡ b
    → relative_closed true ((rows ++ unknown u ∷ []) ++ flat_of f) (open_at (length rows) keyword instance ∷ nodes)
    u.valid u.note ≡ at true (if b then rows else (rows ++ closed_rows u f)) nodes
trims_at rows u f keyword instance nodes b e =
    ap (λ c. at true (rows_closed c (length rows) u.valid u.note ((rows ++ unknown u ∷ []) ++ flat_of f)) nodes)
    (ap (row_goes true u.note) (size_is rows (unknown u) f) ∙ e)
    ∙ ap (λ zs. at true zs nodes) (closed_by rows u f b)

-- ---- the events of a tree

-- what the rows come to after the trees, below a node
abbrev RowsAfter : Forest OutputUnit → OpenNode → List OpenNode → List FlatRow → Type 0
RowsAfter f o nodes rows = after_all relative_after (at true rows (o ∷ nodes)) (events_of f)
    ≡ at true (rows ++ flat_of (escaped (relative o.keyword o.instance (trimmed f)))) (o ∷ nodes)

-- after a node which is left or isn't
reported_rest : (b : Bool) (u : OutputUnit) (below rest : Forest OutputUnit) (rows : List FlatRow) (o : OpenNode)
    (nodes : List OpenNode) → ((before : List FlatRow) → RowsAfter rest o nodes before)
    → after_all relative_after
    (at true (if b then rows else (rows ++ closed_rows (escaped_unit (relative_unit o.keyword o.instance u))
    (escaped (relative (length u.keyword) (length u.instance) below)))) (o ∷ nodes)) (events_of rest)
    ≡ at true (rows ++ flat_of
    (escaped (relative o.keyword o.instance (if b then trimmed rest else tree u below (trimmed rest))))) (o ∷ nodes)
reported_rest true u below rest rows o nodes reported = reported rows
reported_rest false u below rest rows o nodes reported =
    let own : List FlatRow = closed_rows (escaped_unit (relative_unit o.keyword o.instance u))
    (escaped (relative (length u.keyword) (length u.instance) below)) in
    reported (rows ++ own) ∙ ap (λ zs. at true zs (o ∷ nodes))
    (append_assoc rows own (flat_of (escaped (relative o.keyword o.instance (trimmed rest)))))

trims_below : (f : Forest OutputUnit) (rows : List FlatRow) (o : OpenNode) (nodes : List OpenNode)
    → RowsAfter f o nodes rows
trims_below empty rows o nodes = ap (λ zs. at true zs (o ∷ nodes)) (sym (append-nil rows))
trims_below (tree u below rest) rows o nodes =
    let v : OutputUnit = escaped_unit (relative_unit o.keyword o.instance u) in
    let g : Forest OutputUnit = escaped (relative (length u.keyword) (length u.instance) (trimmed below)) in
    opened_over true u below rest rows o nodes _
    (trims_below below (rows ++ unknown v ∷ []) (open_at (length rows) u.keyword u.instance) (o ∷ nodes))
    ∙ (ap (λ s. after_all relative_after s (events_of rest)) (trims_at rows v g u.keyword u.instance (o ∷ nodes)
    (is_silent_leaf u (trimmed below)) (goes u (trimmed below) (length u.keyword) (length u.instance)))
    ∙ reported_rest (is_silent_leaf u (trimmed below)) u (trimmed below) rest rows o nodes
    (λ before. trims_below rest before o nodes))

trims : (t : ResultTree) → after_all relative_after trimming_start (events t) ≡ trimmed_relative t
trims t =
    let o : OpenNode = open_at 0 t.root.keyword t.root.instance in
    let u : OutputUnit = escaped_unit t.root in
    root_over true t _ (trims_below t.below (unknown u ∷ []) o [])
    ∙ trims_at [] u (escaped (relative o.keyword o.instance (trimmed t.below))) t.root.keyword t.root.instance []
    (is_silent_leaf t.root (trimmed t.below)) (goes t.root (trimmed t.below) o.keyword o.instance)

pub trimmed_held : (t : ResultTree) (c d : RelativeRows) → relative_state c ≡ trimming_start
    → Passes (λ a e b. relative_state b ≡ relative_after (relative_state a) e) (events t) c d
    → relative_state d ≡ trimmed_relative t
trimmed_held t c d h p = passes-after_all relative_state relative_after (events t) c d p
    ∙ (ap (λ s. after_all relative_after s (events t)) h ∙ trims t)

-- ---- what is left goes on from what is above it

kept_located : (b : Bool) (keyword instance : List ℕ) (f g : Forest OutputUnit) → AreLocated keyword instance f
    → AreLocated keyword instance g → AreLocated keyword instance (if b then f else g)
kept_located true keyword instance f g h k = h
kept_located false keyword instance f g h k = k

trimmed_located : (keyword instance : List ℕ) (f : Forest OutputUnit) → AreLocated keyword instance f
    → AreLocated keyword instance (trimmed f)
trimmed_located keyword instance empty h = h
trimmed_located keyword instance (tree u below rest) h =
    let after = trimmed_located keyword instance rest h.3 in
    kept_located (is_silent_leaf u (trimmed below)) keyword instance (trimmed rest)
    (tree u (trimmed below) (trimmed rest)) after (h.0, h.1, trimmed_located u.keyword u.instance below h.2, after)

pub tree_located : (t : ResultTree) → IsLocated t → IsLocated (trimmed_tree t)
tree_located t h = trimmed_located t.root.keyword t.root.instance t.below h
