-- What a node's locations add to those of the node above, and the locations with it again.
use Rattle.std.specs.Prelude.{◌≡◌, ℕ, suc, ◌+◌, List, [], ◌++◌, drop, length, refl}
use Rattle.std.proofs.Common.{ap, sym, ◌∙◌}
use Rattle.std.proofs.Math.Seq.{drop-append_seam}
use Rattle.js_tree.specs.Forest.{Forest, empty, tree, node_count}
use Rattle.js_tree.specs.OutputUnit.{OutputUnit}
use Rattle.js_tree.specs.Result.{ResultTree}
use Rattle.js_tree.specs.Rows.Relative.{AreLocated, BeginsWith, IsLocated, placed, placed_tree}
use Rattle.js_tree.specs.Rows.Relative.{placed_unit, relative, relative_tree, relative_unit}

beginning_again : (above text : List ℕ) → BeginsWith text above → above ++ drop (length above) text ≡ text
beginning_again above text w = ap (λ z. above ++ drop (length above) z) w.1
    ∙ (ap (λ z. above ++ z) (drop-append_seam above w.0) ∙ sym w.1)

unit_again : (keyword instance : List ℕ) (u : OutputUnit) → BeginsWith u.keyword keyword → BeginsWith u.instance
    instance → placed_unit keyword instance (relative_unit (length keyword) (length instance) u) ≡ u
unit_again keyword instance u k i =
    ap (λ z. record {
      valid = u.valid;
      keyword = z;
      absolute = u.absolute;
      instance = instance ++ drop (length instance) u.instance;
      note = u.note;
    }) (beginning_again keyword u.keyword k)
    ∙ ap (λ z. record { valid = u.valid; keyword = u.keyword; absolute = u.absolute; instance = z; note = u.note })
    (beginning_again instance u.instance i)

pub placed_again : (keyword instance : List ℕ) (f : Forest OutputUnit) → AreLocated keyword instance f
    → placed keyword instance (relative (length keyword) (length instance) f) ≡ f
placed_again keyword instance empty h = refl
placed_again keyword instance (tree u below after) h =
    let g : Forest OutputUnit = relative (length u.keyword) (length u.instance) below in
    let rest : Forest OutputUnit = placed keyword instance (relative (length keyword) (length instance) after) in
    let v : OutputUnit = placed_unit keyword instance (relative_unit (length keyword) (length instance) u) in
    ap (λ z. tree v (placed z v.instance g) rest) (beginning_again keyword u.keyword h.0)
    ∙ (ap (λ z. tree v (placed u.keyword z g) rest) (beginning_again instance u.instance h.1)
    ∙ (ap (λ z. tree z (placed u.keyword u.instance g) rest) (unit_again keyword instance u h.0 h.1)
    ∙ (ap (λ z. tree u z rest) (placed_again u.keyword u.instance below h.2)
    ∙ ap (λ z. tree u below z) (placed_again keyword instance after h.3))))

pub placed_tree_again : (t : ResultTree) → IsLocated t → placed_tree [] [] (relative_tree t) ≡ t
placed_tree_again t h = ap (λ z. record { root = t.root; below = z })
    (placed_again t.root.keyword t.root.instance t.below h)

-- ---- what stays as it was

pub node_count-relative : (keyword instance : ℕ) (f : Forest OutputUnit)
    → node_count (relative keyword instance f) ≡ node_count f
node_count-relative keyword instance empty = refl
node_count-relative keyword instance (tree u below after) =
    ap (λ n. suc (n + node_count (relative keyword instance after)))
    (node_count-relative (length u.keyword) (length u.instance) below)
    ∙ ap (λ n. suc (node_count below + n)) (node_count-relative keyword instance after)

pub node_count-placed : (keyword instance : List ℕ) (f : Forest OutputUnit)
    → node_count (placed keyword instance f) ≡ node_count f
node_count-placed keyword instance empty = refl
node_count-placed keyword instance (tree u below after) =
    ap (λ n. suc (n + node_count (placed keyword instance after)))
    (node_count-placed (keyword ++ u.keyword) (instance ++ u.instance) below)
    ∙ ap (λ n. suc (node_count below + n)) (node_count-placed keyword instance after)
