-- A node that opens and closes without a note leaves nothing behind where such nodes have no rows.
use Rattle.std.specs.Prelude.{◌≡◌, ℕ, suc, ◌==◌, ◌-◌, ◌<◌, ◌^◌, ◌+◌, Bool, true, false, not, ◌||◌}
use Rattle.std.specs.Prelude.{List, [], ◌∷◌, ◌++◌, drop, length, map, refl}
use Rattle.std.specs.Global.{Vec}
use Rattle.std.proofs.Common.{arith, ap, sym, ◌∙◌, append-nil, Bor}
use Rattle.std.proofs.Math.Seq.{take-append_seam}
use Rattle.std.proofs.lemmas.Bool.Decides.{nat_tests}
use Rattle.std.proofs.lemmas.List.{length-append}
use Rattle.json.specs.Print.{escape}
use Rattle.js_tree.specs.Events.{closing, opening}
use Rattle.js_tree.specs.FlatState.{FlatRow, opening_row}
use Rattle.js_tree.specs.Note.{silent}
use Rattle.js_tree.specs.declared.note.Note.TheVariants as note
use Rattle.js_tree.specs.Rows.RelativeState.{DropsSilentLeaf, OpenNode, RelativeState, escaped_row, node_above, open_at}
use Rattle.js_tree.specs.Rows.RelativeState.{open_nodes, relative_after, relative_closed, relative_opened, relative_row}
use Rattle.js_tree.specs.Rows.RelativeState.{relative_state, rows_closed, row_goes}
use Rattle.js_tree.specs.declared.rows.relative_rows.OpenNode.{OpenNode as DeclaredOpen}
use Rattle.js_tree.specs.declared.rows.relative_rows.RelativeRow.{RelativeRow}
use Rattle.js_tree.specs.declared.rows.relative_rows.RelativeRows.{RelativeRows}
use Rattle.js_tree.proofs.RowsOfTrees.RelativeRowsCollected.{at, open_nodes-append, opened_below, opens}

-- ---- states

one_more : (rows : List FlatRow) (row : FlatRow) → length (rows ++ row ∷ []) - length rows ≡ 1
one_more rows row = omega (arith, length-append rows (row ∷ []))

goes_again : (rows : List FlatRow) (row : FlatRow) (nodes : List OpenNode) (keyword instance : List ℕ) (valid : Bool)
    → relative_closed true (rows ++ row ∷ []) (open_at (length rows) keyword instance ∷ nodes) valid silent
    ≡ at true rows nodes
goes_again rows row nodes keyword instance valid =
    ap (λ n. at true (rows_closed (row_goes true silent n) (length rows) valid silent (rows ++ row ∷ []))
    nodes) (one_more rows row)
    ∙ ap (λ zs. at true zs nodes) (take-append_seam rows (row ∷ []))

comes_and_goes : (rows : List FlatRow) (nodes : List OpenNode) (keyword absolute instance : List ℕ) (valid : Bool)
    → relative_after (relative_opened true rows nodes keyword absolute instance) (closing valid silent)
    ≡ at true rows nodes
comes_and_goes [] [] keyword absolute instance valid = refl
comes_and_goes (r ∷ rows) [] keyword absolute instance valid = refl
comes_and_goes rows (o ∷ nodes) keyword absolute instance valid =
    ap (λ s. relative_after s (closing valid silent)) (opened_below rows o nodes keyword absolute instance)
    ∙ goes_again rows (escaped_row (drop o.keyword keyword) absolute (drop o.instance instance))
    (o ∷ nodes) keyword instance valid

-- of any state of a collector that trims
pub leaves_nothing : (s : RelativeState) (keyword absolute instance : List ℕ) (valid : Bool) → s.trims ≡ true
    → relative_after (relative_after s (opening keyword absolute instance)) (closing valid silent) ≡ s
leaves_nothing s keyword absolute instance valid e =
    ap (λ trims. relative_after (relative_opened trims s.rows s.nodes keyword absolute instance)
    (closing valid silent)) e
    ∙ (comes_and_goes s.rows s.nodes keyword absolute instance valid ∙ ap (λ trims. at trims s.rows s.nodes) (sym e))

-- ---- values

lend : List ℕ → Bor (List ℕ)
lend text = record { ref_ptr = (0, 0); now = text }

abbrev row_at : List ℕ → List ℕ → List ℕ → RelativeRow
row_at keyword absolute instance = record {
  valid = false;
  keyword_slash = false;
  absolute_slash = false;
  keyword = lend (escape keyword);
  instance = lend (escape instance);
  schema = lend absolute;
  absolute = lend [];
  note = note.Silent;
  size = 0;
}

row_is : (keyword absolute instance : List ℕ)
    → relative_row (row_at keyword absolute instance) ≡ escaped_row keyword absolute instance
unfolding lend
row_is keyword absolute instance =
    ap (λ text. opening_row (escape keyword) text (escape instance)) (append-nil (escape absolute))

-- a vector in the place of another that has just the room for its items
abbrev filled_with : {X : Type 0} → Vec X → (xs : List X) → length xs < 2 ^ 63 → Vec X
filled_with old xs few = record {
  ptr = old.ptr;
  len = length xs;
  cap = length xs;
  alloc = old.alloc;
  items = xs;
  ok = (refl, omega (arith));
  small = few;
}

-- the rows and the open nodes, of which neither vector holds more than is possible
abbrev rows_with : RelativeRows → (rows : List RelativeRow) → (nodes : List DeclaredOpen) → length rows < 2 ^ 63
    → length nodes < 2 ^ 63 → RelativeRows
rows_with old rows nodes few shallow = record {
  arena = old.arena;
  rows = filled_with old.rows rows few;
  nodes = filled_with old.nodes nodes shallow;
  scratch = old.scratch;
  trims = old.trims;
}

-- some value has the state after a node has opened
abbrev pub IsThere : RelativeState → Type 0
IsThere s = (m : RelativeRows) × relative_state m ≡ s

there : (nodes rows : ℕ) → not (suc nodes == 0) || rows == 0 ≡ true
there nodes rows = grind (arith, nat_tests)

pushed : (old : RelativeRows) (rows : List RelativeRow) (nodes : List DeclaredOpen) (keyword absolute instance : List ℕ)
    → length rows + 1 < 2 ^ 63 → length nodes + 1 < 2 ^ 63 → not (length nodes == 0) || length rows == 0 ≡ true
    → IsThere (relative_opened old.trims (map relative_row rows) (open_nodes nodes []) keyword absolute instance)
pushed old rows nodes keyword absolute instance few shallow may =
    let above : OpenNode = node_above (open_nodes nodes []) in
    let row : RelativeRow = row_at (drop above.keyword keyword) absolute (drop above.instance instance) in
    let node : DeclaredOpen = record { number = length rows; keyword = length keyword; instance = length instance } in (
      rows_with old (rows ++ row ∷ []) (nodes ++ node ∷ []) (omega (arith, few, length-append rows (row ∷ [])))
          (omega (arith, shallow, length-append nodes (node ∷ []))),
      opens rows rows (rows ++ row ∷ []) nodes nodes (nodes ++ node ∷ []) row keyword absolute
          instance keyword instance may
          refl refl refl refl (row_is (drop above.keyword keyword) absolute (drop above.instance instance))
          refl (open_nodes-append nodes node []) refl,
    )

-- with a node that has opened, or without it after the root has closed
pub opened_with : (old : RelativeRows) (rows : List RelativeRow) (nodes : List DeclaredOpen)
    (keyword absolute instance : List ℕ) → length rows + 1 < 2 ^ 63 → length nodes + 1 < 2 ^ 63
    → IsThere (relative_opened old.trims (map relative_row rows) (open_nodes nodes []) keyword absolute instance)
opened_with old [] [] keyword absolute instance few shallow =
    pushed old [] [] keyword absolute instance few shallow refl
opened_with old (r ∷ rows) [] keyword absolute instance few shallow =
    (rows_with old (r ∷ rows) [] (omega (arith, few)) (omega (arith)), refl)
opened_with old rows (o ∷ nodes) keyword absolute instance few shallow =
    pushed old rows (o ∷ nodes) keyword absolute instance few shallow (there (length nodes) (length rows))

-- if there is room for a row and for an open node
pub drops_silent : (rows : RelativeRows) → rows.trims ≡ true → length rows.rows.items + 1 < 2 ^ 63
    → length rows.nodes.items + 1 < 2 ^ 63 → DropsSilentLeaf rows
drops_silent rows e few shallow = λ keyword absolute instance.
    let m = opened_with rows rows.rows.items rows.nodes.items keyword absolute instance few shallow in (
      m.0,
      m.1,
      (
        rows,
        sym (ap (λ s. relative_after s (closing true silent)) m.1
            ∙ leaves_nothing (relative_state rows) keyword absolute instance true e),
        refl,
      ),
    )
