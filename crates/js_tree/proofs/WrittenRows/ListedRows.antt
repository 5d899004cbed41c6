-- Values that go out in an array one after the other, and rows whose trees are gone through one after the other.
use Rattle.std.proofs.Common.{◌≡◌, ℕ, ◌+◌, ◌-◌, ◌≤◌, ◌<◌, suc, ◌&&◌, ◌||◌, nat_lt, Bool, true, false, not, List}
use Rattle.std.proofs.Common.{[], ◌∷◌, ◌++◌, length, take, drop, get_or, map, codes, Result, Ok, Err, refl, ap}
use Rattle.std.proofs.Common.{sym, subst, ◌∙◌, append_assoc, append-nil, arith}
use Rattle.std.proofs.lemmas.Bool.{and_parts}
use Rattle.std.proofs.lemmas.Bool.Decides.{nat_tests}
use Rattle.std.specs.Result.{IsErr}
use Rattle.js_doc.specs.BytesOut.{Goes, Progress, Stops}
use Rattle.js_doc.specs.Compact.{comma_if, compact}
use Rattle.js_doc.specs.Value.{Value, items, list}
use Rattle.js_doc.proofs.BytesGone.{ends, goes_on, same_left, starts, stops}
use Rattle.js_tree.specs.Forest.{Forest, empty, tree, node_count}
use Rattle.js_tree.specs.Form.{node_value, unit_list}
use Rattle.js_tree.specs.OutputUnit.{OutputUnit, noted}
use Rattle.js_tree.specs.Result.{ResultTree, has_verdict, pruned, units}
use Rattle.js_tree.specs.NodeText.{annotation_part, error_part, head_text, list_start, tail_text, valid_text}
use Rattle.js_tree.proofs.FlatRows.{root_row, shorter}
use Rattle.js_tree.proofs.Marks.{flat_form-flat_of}
use Rattle.js_tree.proofs.NodeTexts.{leaf_text_is, list_text_is}
use Rattle.js_tree.proofs.Pieces.{nothing_goes}
use Rattle.js_tree.specs.Rows.Locations.{AreAt, HasRoom, IsBack}
use Rattle.js_tree.specs.Rows.Marks.{whole_of}
use Rattle.js_tree.specs.Rows.Relative.{escaped, escaped_tree, escaped_unit, relative_tree}
use Rattle.js_tree.specs.Rows.RelativeState.{AreRowsOf, relative_row}
use Rattle.js_tree.specs.code.Listing.{AllListed, AreListed, if_noted, later_after, leaves, listed}
use Rattle.js_tree.specs.code.Listing.{listed_tree, may_list, values_text}
use Rattle.js_tree.specs.code.RelativeText.{AreRowsOfTree, AreRowsOfTrees, opening_text, unit_there}
use Rattle.js_tree.specs.declared.rows.locations.Locations.{Locations}
use Rattle.js_tree.specs.declared.rows.relative_rows.RelativeRow.{RelativeRow}
use Rattle.js_tree.specs.declared.rows.relative_rows.RelativeRows.{RelativeRows}
use Rattle.js_tree.proofs.RowsOfTrees.EscapedRows.{NextTree, next_tree, no_trees}
use Rattle.js_tree.proofs.WrittenRows.ListedUnits.{array_text, gone_through, later_after-append, listed_all}
use Rattle.js_tree.proofs.WrittenRows.ListedUnits.{passed_over, values_text-append}
use Rattle.js_tree.proofs.RowsOfTrees.NextTrees.{EndsAt}
use Rattle.js_tree.proofs.RowsOfTrees.Placing.{placed_tree_again}
use Rattle.js_tree.proofs.WrittenRows.QuotedParts.{beginning_in_parts}
use Rattle.js_tree.proofs.WrittenRows.RelativeTexts.{room_for_part, unit_is_there}

-- ---- values after values

text_then : (a b : Progress) (later now : Bool) (us vs : List Value) → AllListed a b later us now
    → values_text later (us ++ vs) ≡ values_text later us ++ values_text now vs
text_then a b later now us vs w = values_text-append later us vs
    ∙ ap (λ n. values_text later us ++ values_text n vs) (sym w.now_is)

pub stops_first : (a b : Progress) (later : Bool) (us vs : List Value) → Stops a b (values_text later us)
    → Stops a b (values_text later (us ++ vs))
stops_first a b later us vs s =
    stops a a b (values_text later us) (values_text (later_after later us) vs) (values_text later (us ++ vs))
    (same_left a a (values_text later (us ++ vs)) (values_text later us ++ values_text (later_after later us) vs)
    (values_text later (us ++ vs)) (starts a (values_text later (us ++ vs))) (values_text-append later us vs)) s

pub stops_rest : (a b c : Progress) (later now : Bool) (us vs : List Value) → AllListed a b later us now
    → Stops b c (values_text now vs) → Stops a c (values_text later (us ++ vs))
stops_rest a b c later now us vs w s =
    let all = values_text later (us ++ vs) in
    let begun = same_left a a all (values_text later us ++ values_text now vs) all (starts a all)
    (text_then a b later now us vs w) in
    let left = goes_on a a b (values_text later us) (values_text now vs) all begun w.goes in
    stops a b c (values_text now vs) [] all (same_left a b (values_text now vs) (values_text now vs ++ []) all left
    (sym (append-nil (values_text now vs)))) s

pub both_listed : (a b c : Progress) (later now end : Bool) (us vs : List Value) → AllListed a b later us now
    → AllListed b c now vs end → AllListed a c later (us ++ vs) end
both_listed a b c later now end us vs w v =
    let all = values_text later (us ++ vs) in
    let begun = same_left a a all (values_text later us ++ values_text now vs) all (starts a all)
    (text_then a b later now us vs w) in
    record {
      goes = ends a b c (values_text now vs) all
          (goes_on a a b (values_text later us) (values_text now vs) all begun w.goes) v.goes;
      now_is = v.now_is ∙ (ap (λ n. later_after n vs) w.now_is ∙ sym (later_after-append later us vs));
    }

pub none_listed : (a : Progress) (later : Bool) → AllListed a a later [] later
none_listed a later = record { goes = nothing_goes a; now_is = refl }

pub listed_err : {E : Type 0} (a b : Progress) (later : Bool) (us : List Value) (r : Result Bool E) → IsErr r
    → Stops a b (values_text later us) → AreListed a b later us r
listed_err a b later us (Ok x) h s = absurd (cc)
listed_err a b later us (Err e) h s = s

-- one value
one_text : (later : Bool) (x : Value) → comma_if later ++ compact x ≡ values_text later (x ∷ [])
one_text later x = ap (λ l. comma_if later ++ l) (sym (append-nil (compact x)))

pub one_listed : (a b : Progress) (later : Bool) (x : Value) → Goes a b (comma_if later ++ compact x)
    → AllListed a b later (x ∷ []) true
one_listed a b later x g = record { goes = subst (Goes a b) (one_text later x) g; now_is = refl }

pub one_stops : (a b : Progress) (later : Bool) (x : Value) → Stops a b (comma_if later ++ compact x)
    → Stops a b (values_text later (x ∷ []))
one_stops a b later x s = subst (Stops a b) (one_text later x) s

-- ---- a unit

pub its_note : (u : OutputUnit) (some : Bool) → some ≡ noted u → some ≡ true → if_noted u ≡ node_value u [] ∷ []
its_note u true e h = let s = sym e in rw s refl
its_note u false e h = absurd cc

pub unit_in_parts : (later : Bool) (u : OutputUnit) → (comma_if later ++ head_text u)
    ++ (error_part u.note ++ tail_text u) ≡ comma_if later ++ compact (node_value u [])
unit_in_parts later u =
    append_assoc (comma_if later) (head_text u) (error_part u.note ++ tail_text u)
    ∙ ap (λ l. comma_if later ++ l) (leaf_text_is u u.note refl)

pub unit_pieces : (later : Bool) (u : OutputUnit) → opening_text later u.absolute ++ 34
    ∷ (annotation_part u.note ++ (error_part u.note ++ tail_text u)) ≡ comma_if later ++ compact (node_value u [])
unit_pieces later u =
    sym (append_assoc (opening_text later u.absolute) (34 ∷ annotation_part u.note) (error_part u.note ++ tail_text u))
    ∙ (ap (λ l. l ++ (error_part u.note ++ tail_text u)) (beginning_in_parts later u.absolute u.note)
    ∙ unit_in_parts later u)

-- ---- the units of a tree

pub tree_listed : (verdict : Bool) (k i : List ℕ) (x : RelativeRow) (r : ResultTree)
    → (relative_row x).0 ≡ escaped_unit r.root
    → if_noted (unit_there x (k ++ r.root.keyword) r.root.absolute (i ++ r.root.instance))
    ++ listed verdict (k ++ r.root.keyword) (i ++ r.root.instance) r.below ≡ listed_tree verdict k i r.root r.below
tree_listed verdict k i x r e = ap (λ u. if_noted u
    ++ listed verdict (k ++ r.root.keyword) (i ++ r.root.instance) r.below) (unit_is_there k i x r.root e)

-- ---- tree by tree

pub record LeftToList (old : Progress) (new : Progress) (later : Bool) (now : Bool) (shown : Forest OutputUnit
    → List Value) (rows : List RelativeRow) (next : ℕ) (f : Forest OutputUnit) : Type 0 where
  -- the values that have gone out, and the trees whose values are still to go
  pub done : List Value
  pub left : Forest OutputUnit
  pub left_is : AreRowsOfTrees (drop next rows) left
  pub all : done ++ shown left ≡ shown f
  pub gone : AllListed old new later done now

-- what has gone out of the trees before the next, wherever their node stands, and where it is said to stand
abbrev pub ListsUpTo : Progress → Progress → Bool → Bool → Bool → List RelativeRow → ℕ → Locations → Locations → Type 0
ListsUpTo old new later now verdict rows next above at =
    (next ≤ length rows)
    × IsBack above at
    × ((f : Forest OutputUnit) → AreRowsOfTrees rows f
    → (left : Forest OutputUnit) × AreRowsOfTrees (drop next rows) left)
    × ((f : Forest OutputUnit) (keyword instance : List ℕ) → AreAt above keyword instance → AreRowsOfTrees rows f
    → LeftToList old new later now (listed verdict keyword instance) rows next f)

pub lists_go_on : (a b d : Progress) (later now then verdict : Bool) (rows : List RelativeRow) (next : ℕ)
    (above mid at : Locations) (end : ℕ) (f : Forest OutputUnit)
    → ListsUpTo a b later now verdict rows next above mid → AreRowsOfTrees rows f → next < length rows
    → EndsAt rows next end → IsBack above at
    → ((g : Forest OutputUnit) (keyword instance : List ℕ) → AreAt above keyword instance → AreRowsOfTrees rows g
    → LeftToList a d later then (listed verdict keyword instance) rows end g)
    → ListsUpTo a d later then verdict rows end above at
lists_go_on a b d later now then verdict rows next above mid at end f w are some ends back gone =
    let here = w.2 f are in (
      (next_tree rows next here.0 end here.1 some ends).fits,
      back,
      λ g e.
          let there = w.2 g e in
          let t = next_tree rows next there.0 end there.1 some ends in
          (t.after, t.more),
      gone,
    )

-- the tree that comes next, with room for the locations of its nodes
pub record PartToList (rows : List RelativeRow) (next : ℕ) (end : ℕ) (at : Locations) : Type 0 where
  pub fewer : length (take (end - next) (drop next rows)) ≤ length rows
  pub trees : (r : ResultTree) × AreRowsOfTree (take (end - next) (drop next rows)) r
      × HasRoom at (take (end - next) (drop next rows))

pub part_to_list : (a b : Progress) (later now verdict : Bool) (rows : List RelativeRow)
    (next end : ℕ) (above at : Locations)
    → ListsUpTo a b later now verdict rows next above at → (f : Forest OutputUnit) × AreRowsOfTrees rows f
    × HasRoom above rows → next < length rows → EndsAt rows next end
    → PartToList rows next end at
part_to_list a b later now verdict rows next end above at w are some ends =
    let here = w.2 are.0 are.1 in
    record {
      fewer = shorter (end - next) next rows;
      trees = (
        _,
        (next_tree rows next here.0 end here.1 some ends).all,
        room_for_part above at rows next
            (end - next) are.2 w.1,
      );
    }

abbrev pub list_starts : (a : Progress) (later : Bool) (shown : Forest OutputUnit → List Value) (rows : List
    RelativeRow) (f : Forest OutputUnit) → AreRowsOfTrees rows f → LeftToList a a later later shown rows 0 f
list_starts a later shown rows f e = record { done = []; left = f; left_is = e; all = refl; gone = none_listed a later }

pub list_passes : (a b : Progress) (later now : Bool) (shown : Forest OutputUnit
    → List Value) (rows : List RelativeRow) (next : ℕ) (f : Forest OutputUnit) (end : ℕ)
    → (l : LeftToList a b later now shown rows next f) → (t : NextTree rows next l.left end)
    → shown l.left ≡ shown t.after
    → LeftToList a b later now shown rows end f
list_passes a b later now shown rows next f end l t e =
    record {
      done = l.done;
      left = t.after;
      left_is = t.more;
      all = ap (λ us. l.done ++ us) (sym e) ∙ l.all;
      gone = l.gone;
    }

abbrev pub list_goes_on : (a b c : Progress) (later now then : Bool) (shown : Forest OutputUnit
    → List Value) (rows : List RelativeRow) (next : ℕ) (f : Forest OutputUnit) (end : ℕ) (these : List Value)
    → (l : LeftToList a b later now shown rows next f) → (t : NextTree rows next l.left end)
    → shown l.left ≡ these ++ shown t.after → AllListed b c now these then
    → LeftToList a c later then shown rows end f
list_goes_on a b c later now then shown rows next f end these l t e w = record {
  done = l.done ++ these;
  left = t.after;
  left_is = t.more;
  all = append_assoc l.done these (shown t.after) ∙ (ap (λ us. l.done ++ us) (sym e) ∙ l.all);
  gone = both_listed a b c later now then l.done these l.gone w;
}

pub list_stops : (a b c : Progress) (later now : Bool) (shown : Forest OutputUnit
    → List Value) (rows : List RelativeRow) (next : ℕ) (f : Forest OutputUnit) (end : ℕ) (these : List Value)
    → (l : LeftToList a b later now shown rows next f) → (t : NextTree rows next l.left end)
    → shown l.left ≡ these ++ shown t.after → Stops b c (values_text now these)
    → Stops a c (values_text later (shown f))
list_stops a b c later now shown rows next f end these l t e s =
    let rest = subst (λ us. Stops b c (values_text now us)) (sym e) (stops_first b c now these (shown t.after) s) in
    subst (λ us. Stops a c (values_text later us)) l.all (stops_rest a b c later now l.done (shown l.left) l.gone rest)

pub list_ends : (a b : Progress) (later now : Bool) (shown : Forest OutputUnit
    → List Value) (rows : List RelativeRow) (next : ℕ) (f : Forest OutputUnit)
    → shown empty ≡ [] → LeftToList a b later now shown rows next f → length rows ≤ next
    → AllListed a b later (shown f) now
list_ends a b later now shown rows next f e l h =
    let none = no_trees rows next l.left l.left_is h in
    let all_is = sym (append-nil l.done) ∙ (ap (λ us. l.done ++ us) (sym (ap shown none ∙ e)) ∙ l.all) in
    subst (λ us. AllListed a b later us now) all_is l.gone

-- ---- those that basic lists

-- the row says it
same_verdict : (verdict : Bool) (x : RelativeRow) (u : OutputUnit) → (relative_row x).0 ≡ escaped_unit u
    → has_verdict verdict u ≡ has_verdict verdict (relative_row x).0
same_verdict true x u e = ap (λ y. y.valid) (sym e)
same_verdict false x u e = ap (λ y. not y.valid) (sym e)

is_false : (b : Bool) → not b ≡ true → b ≡ false
is_false true e = absurd cc
is_false false e = refl

its_verdict : (verdict : Bool) (u : OutputUnit) → has_verdict verdict u ≡ true → u.valid ≡ verdict
its_verdict true u e = e
its_verdict false u e = is_false u.valid e

-- of the tree that comes next, and of those after it
pub next_listed : (verdict : Bool) (keyword instance : List ℕ) (rows : List RelativeRow) (next : ℕ)
    (f : Forest OutputUnit) (end : ℕ) (x : RelativeRow)
    → (t : NextTree rows next f end) → x ≡ get_or rows next x → has_verdict verdict (relative_row x).0 ≡ true
    → listed verdict keyword instance f
    ≡ listed_tree t.unit.valid keyword instance t.unit t.below ++ listed verdict keyword instance t.after
next_listed verdict keyword instance rows next f end x t is e =
    let v : has_verdict verdict t.unit ≡ true = same_verdict verdict x t.unit (t.unit_is x is) ∙ e in
    ap (listed verdict keyword instance) t.is
    ∙ (gone_through verdict keyword instance t.unit t.below t.after v
    ∙ ap (λ b. listed_tree b keyword instance t.unit t.below ++ listed verdict keyword instance t.after)
    (sym (its_verdict verdict t.unit v)))

-- a node without a note and without children has none
alone_passed : (verdict : Bool) (keyword instance : List ℕ) (u : OutputUnit) (below after : Forest OutputUnit)
    → has_verdict verdict u ≡ true → noted u ≡ false → below ≡ empty
    → listed verdict keyword instance (tree u below after) ≡ listed verdict keyword instance after
alone_passed verdict keyword instance u below after v n e =
    gone_through verdict keyword instance u below after v
    ∙ (ap (λ f. listed_tree verdict keyword instance u f ++ listed verdict keyword instance after) e ∙ rw n refl)

no_more : (below : Forest OutputUnit) (size : ℕ) → size ≡ suc (node_count (escaped below))
    → nat_lt 1 size ≡ false → below ≡ empty
no_more empty size e h = refl
no_more (tree u below after) size e h = absurd (grind (arith, nat_tests, e, h))

not_listed : (b long said : Bool) (verdict : Bool) (keyword instance : List ℕ) (rows : List RelativeRow) (next : ℕ)
    (f : Forest OutputUnit) (end size : ℕ) → (t : NextTree rows next f end)
    → end ≡ next + size → has_verdict verdict t.unit ≡ b → nat_lt 1 size ≡ long → noted t.unit ≡ said
    → b && (long || said) ≡ false
    → listed verdict keyword instance f ≡ listed verdict keyword instance t.after
not_listed false long said verdict keyword instance rows next f end size t s v l n h =
    ap (listed verdict keyword instance) t.is ∙ passed_over verdict keyword instance t.unit t.below t.after v
not_listed true false false verdict keyword instance rows next f end size t s v l n h =
    ap (listed verdict keyword instance) t.is ∙ alone_passed verdict keyword instance t.unit t.below t.after v n
    (no_more t.below size (omega (arith, s, t.size)) l)
not_listed true true said verdict keyword instance rows next f end size t s v l n h = absurd cc
not_listed true false true verdict keyword instance rows next f end size t s v l n h = absurd cc

same_test : (verdict : Bool) (x : RelativeRow) (u : OutputUnit) → (relative_row x).0 ≡ escaped_unit u
    → may_list verdict (relative_row x) ≡ (has_verdict verdict u && (nat_lt 1 x.size || noted u))
same_test verdict x u e =
    ap (λ b. b && (nat_lt 1 x.size || noted (relative_row x).0)) (sym (same_verdict verdict x u e))
    ∙ ap (λ w. has_verdict verdict u && (nat_lt 1 x.size || noted w)) e

pub next_passed : (verdict : Bool) (keyword instance : List ℕ) (rows : List RelativeRow) (next : ℕ)
    (f : Forest OutputUnit) (end : ℕ) (x : RelativeRow)
    → (t : NextTree rows next f end) → x ≡ get_or rows next x → end ≡ next + x.size
    → may_list verdict (relative_row x) ≡ false
    → listed verdict keyword instance f ≡ listed verdict keyword instance t.after
next_passed verdict keyword instance rows next f end x t is s e =
    not_listed (has_verdict verdict t.unit) (nat_lt 1 x.size) (noted t.unit) verdict keyword instance rows next f end
    x.size t s refl refl refl (sym (same_test verdict x t.unit (t.unit_is x is)) ∙ e)

pub may_agree : (verdict : Bool) (x : RelativeRow) → may_list verdict (relative_row x) ≡ true
    → has_verdict verdict (relative_row x).0 ≡ true
may_agree verdict x e = (and_parts (has_verdict verdict (relative_row x).0)
    (nat_lt 1 x.size || noted (relative_row x).0) e).0

-- ---- a whole tree

pub whole_rows : (rows : RelativeRows) (t : ResultTree) (found : List RelativeRow) → found ≡ rows.rows.items
    → AreRowsOf rows t → AreRowsOfTree found (relative_tree t)
whole_rows rows t found e h = ap (map relative_row) e ∙ ap (λ s. s.rows) h.rows_are

pub whole_rows_of : (rows : RelativeRows) (t : ResultTree) (found : List RelativeRow) → found ≡ rows.rows.items
    → AreRowsOf rows t → AreRowsOfTrees found (whole_of t)
whole_rows_of rows t found e h = whole_rows rows t found e h ∙ flat_form-flat_of (escaped_tree (relative_tree t))

list_in_parts : (valid : Bool) (vs : List Value) → (list_start valid ++ codes "[") ++ (values_text false vs
    ++ (codes "]" ++ valid_text valid)) ≡ list_start valid ++ (compact (list (items vs)) ++ valid_text valid)
list_in_parts valid vs =
    append_assoc (list_start valid) (codes "[") (values_text false vs ++ (codes "]" ++ valid_text valid))
    ∙ ap (λ l. list_start valid ++ l)
    (sym (ap (λ l. l ++ valid_text valid) (array_text vs)
    ∙ (append_assoc (codes "[") (values_text false vs ++ codes "]") (valid_text valid)
    ∙ ap (λ l. codes "[" ++ l) (append_assoc (values_text false vs) (codes "]") (valid_text valid)))))

basic_in_parts : (rows : RelativeRows) (t : ResultTree) (verdict : Bool) → AreRowsOf rows t → verdict ≡ t.root.valid
    → (list_start verdict ++ codes "[") ++ (values_text false (listed verdict [] [] (whole_of t))
    ++ (codes "]" ++ valid_text verdict)) ≡ compact (unit_list (pruned t))
basic_in_parts rows t verdict h v =
    let vs = leaves (units (pruned t)) in
    ap (λ us. (list_start verdict ++ codes "[") ++ (values_text false us ++ (codes "]" ++ valid_text verdict)))
    (listed_all t (relative_tree t) verdict (placed_tree_again t h.located) v)
    ∙ (ap (λ b. (list_start b ++ codes "[") ++ (values_text false vs ++ (codes "]" ++ valid_text b))) v
    ∙ (list_in_parts t.root.valid vs ∙ list_text_is t.root.valid (list (items vs))))

-- the same by the first row
pub basic_by_first : (rows : RelativeRows) (t : ResultTree) (found : List RelativeRow) (x : RelativeRow)
    → found ≡ rows.rows.items → x ≡ get_or found 0 x → AreRowsOf rows t
    → (list_start x.valid ++ codes "[") ++ (values_text false (listed x.valid [] [] (whole_of t))
    ++ (codes "]" ++ valid_text x.valid)) ≡ compact (unit_list (pruned t))
basic_by_first rows t found x e is h =
    basic_in_parts rows t x.valid h (ap (λ u. u.valid)
    (root_row relative_row found (escaped_tree (relative_tree t)) x (whole_rows rows t found e h) is))
