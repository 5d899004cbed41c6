-- Room for the locations of the nodes below a node.
use Rattle.std.proofs.Common.{◌≡◌, ℕ, ◌+◌, ◌-◌, ◌<◌, List, [], ◌∷◌, length, take, drop}
use Rattle.std.proofs.Common.{map, get_or, ap, sym, ◌∙◌, arith}
use Rattle.std.proofs.lemmas.List.{length-append, length-take, length-drop}
use Rattle.std.proofs.lemmas.List.Sums.{sum_by-cons}
use Rattle.std.specs.List.{sum_by}
use Rattle.js_tree.specs.Flat.{flat_form}
use Rattle.js_tree.specs.Result.{ResultTree}
use Rattle.js_tree.specs.Rows.Locations.{HasRoom, IsDown}
use Rattle.js_tree.specs.Rows.RelativeState.{keyword_part, relative_row}
use Rattle.js_tree.specs.declared.rows.locations.Locations.{Locations}
use Rattle.js_tree.specs.declared.rows.relative_rows.RelativeRow.{RelativeRow}

first_and_rest : {R : Type 0} (f : R → ℕ) (rows : List R) (x : R) → 0 < length rows → x ≡ get_or rows 0 x
    → sum_by f rows ≡ f x + sum_by f (drop 1 rows)
first_and_rest f [] x h is = absurd (omega (arith, h))
first_and_rest f (r ∷ rows) x h is = sum_by-cons f r rows ∙ ap (λ y. f y + sum_by f rows) (sym is)

abbrev keyword_size : RelativeRow → ℕ
keyword_size r = length (keyword_part r)

abbrev instance_size : RelativeRow → ℕ
instance_size r = length r.instance.now

pub room_below : (old new : Locations) (rows : List RelativeRow) (x : RelativeRow) → HasRoom old rows → 0 < length rows
    → x ≡ get_or rows 0 x → IsDown old x new → HasRoom new (drop 1 rows)
room_below old new rows x h some is d = record {
  for_keyword = omega (
    arith,
    h.for_keyword,
    first_and_rest keyword_size rows x some is,
    ap length d.longer_keyword,
    length-append old.keyword.items (keyword_part x),
    d.keyword_room,
  );
  for_instance = omega (
    arith,
    h.for_instance,
    first_and_rest instance_size rows x some is,
    ap length d.longer_instance,
    length-append old.instance.items x.instance.now,
    d.instance_room,
  );
}

-- ---- the rows of a tree

pub some_row : (rows : List RelativeRow) (t : ResultTree) → map relative_row rows ≡ flat_form t → 0 < length rows
some_row [] t e = absurd cc
some_row (r ∷ rows) t e = omega arith

pub fewer_below : {R : Type 0} (rows : List R) → 0 < length rows
    → length (take (length rows - 1) (drop 1 rows)) < length rows
fewer_below rows h = omega (arith, h, length-take (length rows - 1) (drop 1 rows), length-drop 1 rows)
