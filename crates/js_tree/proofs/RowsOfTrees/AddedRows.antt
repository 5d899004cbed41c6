-- The rows of what is left, which come to the others tree by tree.
use Rattle.std.proofs.Common.{◌≡◌, ℕ, suc, ◌+◌, ◌-◌, ◌≤◌, ◌<◌, Bool, List, [], ◌∷◌, ◌++◌, length, take, drop, map}
use Rattle.std.proofs.Common.{get_or, slice_set, refl, ap, ap₂, sym, subst, ◌∙◌, append_assoc, append-nil, arith}
use Rattle.std.proofs.lemmas.List.{drop_all, length-append, take-append-drop, length-drop}
use Rattle.std.proofs.lemmas.List.{length-map, length-take, map-append}
use Rattle.std.proofs.lemmas.Slice.{drop-put_mid, take-put_mid}
use borrow.Rule.Slice.PartMut.{put_mid}
use Rattle.json.specs.Print.{escape}
use Rattle.js_tree.specs.Flat.{flat_form, flat_of}
use Rattle.js_tree.specs.FlatState.{FlatRow}
use Rattle.js_tree.specs.Forest.{Forest, empty, tree, ◌⊹◌, node_count}
use Rattle.js_tree.specs.Note.{Note}
use Rattle.js_tree.specs.OutputUnit.{OutputUnit}
use Rattle.js_tree.specs.Result.{ResultTree, kept, pruned}
use Rattle.js_tree.specs.Seen.{note_of}
use Rattle.js_tree.proofs.FlatRows.{flat_of-append}
use Rattle.js_tree.proofs.FlatFormCollected.{length-flat_of}
use Rattle.js_tree.proofs.Marks.{flat_form-flat_of}
use Rattle.js_tree.specs.Rows.Marks.{marked}
use Rattle.js_tree.specs.Rows.Relative.{IsLocated, escaped, escaped_tree, escaped_unit, placed_unit, relative_tree}
use Rattle.js_tree.specs.Rows.RelativeState.{absolute_part, keyword_part, relative_row, rows_of_tree}
use Rattle.js_tree.specs.code.KeptBetween.{AreAdded, AreSame, IsEnd, IsPending, kept_between, kept_relative}
use Rattle.js_tree.specs.code.Listing.{AreMarkedRows}
use Rattle.js_tree.specs.code.RelativeText.{AreRowsOfTrees}
use Rattle.js_tree.specs.declared.rows.keeping.Between.{Between}
use Rattle.js_tree.specs.declared.rows.keeping.Lengths.{Lengths}
use Rattle.js_tree.specs.declared.rows.relative_rows.RelativeRow.{RelativeRow}
use Rattle.js_tree.specs.declared.rows.marks.Left.{Left}
use Rattle.js_tree.proofs.RowsOfTrees.EscapedRows.{NextTree, further, no_trees}
use Rattle.js_tree.proofs.RowsOfTrees.KeptBetween.{next_between, relative_kept}
use Rattle.js_tree.proofs.RowsOfTrees.MarkedRows.{marked_below, next_marks}
use Rattle.js_tree.proofs.RowsOfTrees.RoomLeft.{fewer_below}

-- ---- what is pending

pub same_parts : (a b c : Between) → AreSame a b → AreSame b c → AreSame a c
same_parts a b c d e = record { keyword = e.keyword ∙ d.keyword; instance = e.instance ∙ d.instance }

still_pending : (a b : Between) (s : Lengths) (k i : List ℕ) → IsPending a s k i → AreSame a b → IsPending b s k i
still_pending a b s k i p e = record {
  keyword_fits = subst (λ xs. s.keyword ≤ length xs) (sym e.keyword) p.keyword_fits;
  instance_fits = subst (λ xs. s.instance ≤ length xs) (sym e.instance) p.instance_fits;
  keyword_is = ap (drop s.keyword) e.keyword ∙ p.keyword_is;
  instance_is = ap (drop s.instance) e.instance ∙ p.instance_is;
}

pub still_pending_at : (a b : Between) (s t : Lengths) (k i : List ℕ) → IsPending a s k i → AreSame a b
    → t ≡ s → IsPending b t k i
still_pending_at a b s t k i p e at = subst (λ l. IsPending b l k i) (sym at) (still_pending a b s k i p e)

pub none_pending : (a : Between) (s : Lengths) → IsEnd a s → IsPending a s [] []
none_pending a s e = record {
  keyword_fits = omega (arith, e.0);
  instance_fits = omega (arith, e.1);
  keyword_is = drop_all s.keyword a.keyword.items (omega (arith, e.0));
  instance_is = drop_all s.instance a.instance.items (omega (arith, e.1));
}

-- a row's unit, with these locations and this note
abbrev pub unit_at : RelativeRow → List ℕ → List ℕ → Note → OutputUnit
unit_at x keyword instance note = record {
  valid = x.valid;
  keyword = keyword;
  absolute = escape x.schema.now ++ absolute_part x;
  instance = instance;
  note = note;
}

-- the unit of a node that stays
pub joined_unit : (a : Between) (s : Lengths) (x : RelativeRow) (u : OutputUnit) (k i keyword instance : List ℕ)
    (note : Note) → IsPending a s k i → (relative_row x).0 ≡ escaped_unit u
    → keyword ≡ drop s.keyword a.keyword.items ++ keyword_part x
    → instance ≡ drop s.instance a.instance.items ++ x.instance.now → note ≡ note_of x.note
    → unit_at x keyword instance note ≡ escaped_unit (placed_unit k i u)
joined_unit a s x u k i keyword instance note p e kw ins n =
    ap (unit_at x keyword instance) n
    ∙ ap₂ (λ y z. unit_at x y z (note_of x.note))
    (further keyword (drop s.keyword a.keyword.items) (keyword_part x) k u.keyword kw p.keyword_is
    (ap (λ y. y.keyword) e))
    (further instance (drop s.instance a.instance.items) x.instance.now i u.instance ins p.instance_is
    (ap (λ y. y.instance) e))
    ∙ ap (λ y. record {
      valid = y.valid;
      keyword = escape (k ++ u.keyword);
      absolute = y.absolute;
      instance = escape (i ++ u.instance);
      note = y.note;
    }) e

-- it is as it was where nothing is pending
pub unit_stays : (a : Between) (s : Lengths) (x : RelativeRow) (u : OutputUnit) (k i : List ℕ) → IsPending a s k i
    → (relative_row x).0 ≡ escaped_unit u
    → length a.keyword.items ≤ s.keyword → length a.instance.items ≤ s.instance
    → (relative_row x).0 ≡ escaped_unit (placed_unit k i u)
unit_stays a s x u k i p e kw ins =
    joined_unit a s x u k i (keyword_part x) x.instance.now (note_of x.note) p e
    (ap (λ l. l ++ keyword_part x) (sym (drop_all s.keyword a.keyword.items kw)))
    (ap (λ l. l ++ x.instance.now) (sym (drop_all s.instance a.instance.items ins))) refl

-- and its row, after the others
pub row_added : (old new : List RelativeRow) (x y : RelativeRow) (n : ℕ) (note : Note) → new ≡ old ++ y ∷ []
    → note ≡ note_of x.note → relative_row y ≡ (unit_at x (keyword_part x) x.instance.now note, n)
    → map relative_row new ≡ map relative_row old ++ ((relative_row x).0, n) ∷ []
row_added old new x y n note e m r =
    ap (map relative_row) e ∙ (map-append relative_row old (y ∷ []) ∙ ap (λ z. map relative_row old ++ z ∷ [])
    (r ∙ ap (λ o. (unit_at x (keyword_part x) x.instance.now o, n)) m))

-- ---- the rows below the first

pub below_set : (rows : List RelativeRow) (x : RelativeRow) (marks : List Left) (v : Bool) (u : OutputUnit)
    (below : Forest OutputUnit) → AreMarkedRows rows marks v (tree u below empty)
    → AreMarkedRows (take (length (slice_set rows 0 x) - 1) (drop 1 (slice_set rows 0 x)))
    (take (length marks - 1) (drop 1 marks)) v below
below_set [] x marks v u below h = marked_below [] marks v u below h
below_set (r ∷ rows) x marks v u below h = marked_below (r ∷ rows) marks v u below h

pub fewer_set : (rows : List RelativeRow) (x : RelativeRow) → 0 < length rows
    → length (take (length (slice_set rows 0 x) - 1) (drop 1 (slice_set rows 0 x))) < length rows
fewer_set [] x h = absurd (omega (arith, h))
fewer_set (r ∷ rows) x h = fewer_below (r ∷ rows) h

-- ---- the row of a node and those below it

escaped-append : (f g : Forest OutputUnit) → escaped (f ⊹ g) ≡ (escaped f ⊹ escaped g)
escaped-append empty g = refl
escaped-append (tree u below after) g = ap (tree (escaped_unit u) (escaped below)) (escaped-append after g)

rows-append : (f g : Forest OutputUnit) → flat_of (escaped (f ⊹ g)) ≡ flat_of (escaped f) ++ flat_of (escaped g)
rows-append f g = ap flat_of (escaped-append f g) ∙ flat_of-append (escaped f) (escaped g)

cons_head : (x y : FlatRow) (xs ys : List FlatRow) → x ∷ xs ≡ y ∷ ys → x ≡ y
cons_head x y xs ys e = cc

cons_tail : (x y : FlatRow) (xs ys : List FlatRow) → x ∷ xs ≡ y ∷ ys → xs ≡ ys
cons_tail x y xs ys e = cc

-- one of them gets its size
sized_at : (front : List FlatRow) (rows : List RelativeRow) (r : FlatRow) (more : List FlatRow) (y d : RelativeRow)
    → map relative_row rows ≡ front ++ r ∷ more
    → (relative_row y).0 ≡ (relative_row (get_or rows (length front) d)).0
    → map relative_row (slice_set rows (length front) y) ≡ front ++ (r.0, y.size) ∷ more
sized_at [] [] r more y d e s = absurd cc
sized_at [] (x ∷ rows) r more y d e s =
    ap₂ (λ a b. (a, y.size) ∷ b) (s ∙ ap (λ q. q.0) (cons_head (relative_row x) r (map relative_row rows) more e))
    (cons_tail (relative_row x) r (map relative_row rows) more e)
sized_at (a ∷ front) [] r more y d e s = absurd cc
sized_at (a ∷ front) (x ∷ rows) r more y d e s =
    ap₂ (λ b c. b ∷ c) (cons_head (relative_row x) a (map relative_row rows) (front ++ r ∷ more) e)
    (sized_at front rows r more y d (cons_tail (relative_row x) a (map relative_row rows) (front ++ r ∷ more) e) s)

-- the rows so far, the node's own, and those below it
with_below : (old mid new : List RelativeRow) (row : FlatRow) (g : Forest OutputUnit)
    → map relative_row mid ≡ map relative_row old ++ row ∷ [] → AreAdded mid new g
    → map relative_row new ≡ map relative_row old ++ row ∷ flat_of (escaped g)
with_below old mid new row g m h = h
    ∙ (ap (λ rs. rs ++ flat_of (escaped g)) m ∙ append_assoc (map relative_row old) (row ∷ []) (flat_of (escaped g)))

pub so_many : (old new : List RelativeRow) (g : Forest OutputUnit) → AreAdded old new g
    → length new ≡ length old + node_count (escaped g)
so_many old new g h =
    omega (
      arith,
      ap length h,
      length-map new relative_row,
      length-map old relative_row,
      length-append
          (map relative_row old) (flat_of (escaped g)),
      length-flat_of (escaped g),
    )

-- with a node's row, and those below it, there are more than before
pub more_rows : (old mid new : List RelativeRow) (g : Forest OutputUnit) → length mid ≡ length old + 1
    → AreAdded mid new g → length old < length new
more_rows old mid new g e h = omega (arith, e, so_many mid new g h)

pub node_added : (old mid new : List RelativeRow) (y d : RelativeRow) (n : ℕ) (w : OutputUnit) (g : Forest OutputUnit)
    → map relative_row mid ≡ map relative_row old ++ (escaped_unit w, 0) ∷ []
    → length mid ≡ length old + 1 → AreAdded mid new g
    → n ≡ length old → (relative_row y).0 ≡ (relative_row (get_or new n d)).0 → y.size ≡ length new - n
    → AreAdded old (slice_set new n y) (tree w g empty)
node_added old mid new y d n w g m count h n_is y_is size_is =
    let front = map relative_row old in
    let more = flat_of (escaped g) in
    let at : n ≡ length front = n_is ∙ sym (length-map old relative_row) in
    let size : y.size ≡ suc (node_count (escaped g)) = omega (arith, size_is, n_is, count, so_many mid new g h) in
    ap (λ j. map relative_row (slice_set new j y)) at
    ∙ (sized_at front new (escaped_unit w, 0) more y d (with_below old mid new (escaped_unit w, 0) g m h)
    (y_is ∙ ap (λ j. (relative_row (get_or new j d)).0) at)
    ∙ (ap (λ b. front ++ (escaped_unit w, b) ∷ more) size
    ∙ ap (λ rs. front ++ (escaped_unit w, suc (node_count (escaped g))) ∷ rs) (sym (append-nil more))))

-- ---- of a whole tree

pub whole_rows_kept : (t : ResultTree) (old new : List RelativeRow) → IsLocated t → old ≡ []
    → AreAdded old new (tree (placed_unit [] [] (relative_tree t).root)
    (kept_between t.root.valid [] [] (relative_tree t).below) empty)
    → map relative_row new ≡ rows_of_tree (kept (pruned t))
whole_rows_kept t old new l e h =
    h
    ∙ (ap (λ os. map relative_row os ++ flat_of (escaped (tree (kept_relative t).root (kept_relative t).below empty))) e
    ∙ (sym (flat_form-flat_of (escaped_tree (kept_relative t)))
    ∙ ap (λ r. flat_form (escaped_tree r)) (sym (relative_kept t l))))

-- ---- tree by tree

-- the rows after the next tree are still there when those of the tree have changed
pub record StillThere (rows : List RelativeRow) (next : ℕ) (end : ℕ) (these : List RelativeRow) : Type 0 where
  pub after : drop end (put_mid next (end - next) rows these) ≡ drop end rows
  pub count : length (put_mid next (end - next) rows these) ≡ length rows

so_long : (rows : List RelativeRow) (next end : ℕ) → end ≤ length rows
    → length (take (end - next) (drop next rows)) ≡ end - next
so_long rows next end h = omega (arith, h, length-take (end - next) (drop next rows), length-drop next rows)

all_as_many : (rows these all : List RelativeRow) (next end : ℕ) → next ≤ end → end ≤ length rows
    → length these ≡ end - next → take end all ≡ take next rows ++ these → drop end all ≡ drop end rows
    → length all ≡ length rows
all_as_many rows these all next end within fits long front after =
    omega (
      arith,
      within,
      fits,
      long,
      ap length (take-append-drop end all),
      length-append (take end all) (drop end all),
      ap length front,
      ap length after,
      length-append (take next rows) these,
      length-take next
          rows,
      length-drop end rows,
    )

pub still_there : (rows : List RelativeRow) (next : ℕ) (f : Forest OutputUnit) (end : ℕ) (these : List RelativeRow)
    (t : NextTree rows next f end)
    → length these ≡ length (take (end - next) (drop next rows)) → StillThere rows next end these
still_there rows next f end these t e =
    let most : next ≤ length rows = omega (arith, t.size, t.fits) in
    let long : length these ≡ end - next = e ∙ so_long rows next end t.fits in
    let all = put_mid next (end - next) rows these in
    let last : end ≡ next + length these = omega (arith, long, t.size) in
    let within : next + (end - next) ≤ end = omega (arith, t.size) in
    let after = drop-put_mid next (end - next) rows these end within most long in
    let front = take-put_mid next (end - next) rows these end last most in
    record {
      after = after;
      count = all_as_many rows these all next end (omega (arith, t.size)) t.fits long front after;
    }

pub fewer_left : (rows : List RelativeRow) (next : ℕ) (f : Forest OutputUnit) (end : ℕ) (these : List RelativeRow)
    (t : NextTree rows next f end)
    → length these ≡ length (take (end - next) (drop next rows))
    → length (put_mid next (end - next) rows these) - end < length rows - next
fewer_left rows next f end these t e = omega (arith, (still_there rows next f end these t e).count, t.size, t.fits)

-- ---- what is left, tree by tree

-- with the rows of what is left of the trees from the next row on, they are all
pub record LeftToAdd (v : Bool) (k : List ℕ) (i : List ℕ) (old : List RelativeRow) (new : List RelativeRow)
    (rows : List RelativeRow) (marks : List Left) (next : ℕ) (f : Forest OutputUnit) : Type 0 where
  pub left : Forest OutputUnit
  pub left_is : AreRowsOfTrees (drop next rows) left
  pub marks_are : drop next marks ≡ marked v left
  pub all : map relative_row new ++ flat_of (escaped (kept_between v k i left))
      ≡ map relative_row old ++ flat_of (escaped (kept_between v k i f))

pub add_starts : (v : Bool) (k i : List ℕ) (old : List RelativeRow) (rows : List RelativeRow) (marks : List Left)
    (f : Forest OutputUnit)
    → AreMarkedRows rows marks v f → LeftToAdd v k i old old rows marks 0 f
add_starts v k i old rows marks f h = record { left = f; left_is = h.rows_are; marks_are = h.marks_are; all = refl }

pub add_goes_on : (v : Bool) (k i : List ℕ) (old mid new rows more : List RelativeRow) (marks : List Left) (next : ℕ)
    (f : Forest OutputUnit) (end : ℕ)
    (w : LeftToAdd v k i old mid rows marks next f) (t : NextTree rows next w.left end)
    → AreAdded mid new (kept_between v k i (tree t.unit t.below empty)) → drop end more ≡ drop end rows
    → LeftToAdd v k i old new more marks end f
add_goes_on v k i old mid new rows more marks next f end w t e d =
    let these = kept_between v k i (tree t.unit t.below empty) in
    let rest = kept_between v k i t.after in
    record {
      left = t.after;
      left_is = ap (map relative_row) d ∙ t.more;
      marks_are = (next_marks v marks rows next w.left end t w.marks_are).more;
      all =
          ap (λ rs. rs ++ flat_of (escaped rest)) e
          ∙ (append_assoc (map relative_row mid) (flat_of (escaped these)) (flat_of (escaped rest))
          ∙ (ap (λ rs. map relative_row mid ++ rs)
          (sym (ap (λ g. flat_of (escaped g)) (next_between v k i w.left t.unit t.below t.after t.is)
          ∙ rows-append these rest))
          ∙ w.all));
    }

pub add_ends : (v : Bool) (k i : List ℕ) (old new rows : List RelativeRow) (marks : List Left) (next : ℕ)
    (f : Forest OutputUnit)
    → LeftToAdd v k i old new rows marks next f → length rows ≤ next → AreAdded old new (kept_between v k i f)
add_ends v k i old new rows marks next f w h =
    sym (append-nil (map relative_row new))
    ∙ (ap (λ g. map relative_row new ++ flat_of (escaped (kept_between v k i g)))
    (sym (no_trees rows next w.left w.left_is h)) ∙ w.all)
