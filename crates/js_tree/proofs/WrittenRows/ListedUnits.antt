-- The units that basic lists, tree by tree, and their text.
use Rattle.std.proofs.Common.{◌≡◌, ℕ, Bool, true, false, not, List, [], ◌∷◌, ◌++◌, if◌then◌else◌}
use Rattle.std.proofs.Common.{codes, refl, ap, sym, ◌∙◌, append_assoc, append-nil}
use Rattle.std.proofs.lemmas.List.{map-append}
use mathlib.Core.Bool.{beq}
use Rattle.js_doc.specs.Compact.{comma_if, compact, compact_items}
use Rattle.js_doc.specs.Value.{Value, items, list}
use Rattle.js_tree.specs.Form.{node_value}
use Rattle.js_tree.specs.Forest.{Forest, empty, tree}
use Rattle.js_tree.specs.OutputUnit.{OutputUnit, noted}
use Rattle.js_tree.specs.Pruned.{pruned_below}
use Rattle.js_tree.specs.Result.{ResultTree, has_verdict, pruned, units}
use Rattle.js_tree.specs.Units.{units_below}
use Rattle.js_tree.specs.Rows.Relative.{placed, placed_tree, placed_unit}
use Rattle.js_tree.specs.code.Listing.{later_after, leaves, listed, listed_tree, values_text}

-- ---- text

still_later : (vs : List Value) → later_after true vs ≡ true
still_later [] = refl
still_later (v ∷ vs) = refl

pub values_text-append : (later : Bool) (us vs : List Value)
    → values_text later (us ++ vs) ≡ values_text later us ++ values_text (later_after later us) vs
values_text-append later [] vs = refl
values_text-append later (u ∷ us) vs =
    ap (λ l. comma_if later ++ (compact u ++ l))
    (values_text-append true us vs ∙ ap (λ b. values_text true us ++ values_text b vs) (still_later us))
    ∙ (ap (λ l. comma_if later ++ l) (sym (append_assoc (compact u) (values_text true us) (values_text true vs)))
    ∙ sym (append_assoc (comma_if later) (compact u ++ values_text true us) (values_text true vs)))

pub later_after-append : (later : Bool) (us vs : List Value)
    → later_after later (us ++ vs) ≡ later_after (later_after later us) vs
later_after-append later [] vs = refl
later_after-append later (u ∷ us) [] = refl
later_after-append later (u ∷ us) (v ∷ vs) = refl

items_text : (later : Bool) (vs : List Value) → compact_items later (items vs) ≡ values_text later vs ++ codes "]"
items_text later [] = refl
items_text later (v ∷ vs) =
    ap (λ l. comma_if later ++ (compact v ++ l)) (items_text true vs)
    ∙ (ap (λ l. comma_if later ++ l) (sym (append_assoc (compact v) (values_text true vs) (codes "]")))
    ∙ sym (append_assoc (comma_if later) (compact v ++ values_text true vs) (codes "]")))

pub array_text : (vs : List Value) → compact (list (items vs)) ≡ codes "[" ++ (values_text false vs ++ codes "]")
array_text vs = ap (λ l. codes "[" ++ l) (items_text false vs)

-- ---- units

pub agrees_placed : (verdict : Bool) (keyword instance : List ℕ) (u : OutputUnit)
    → has_verdict verdict (placed_unit keyword instance u) ≡ has_verdict verdict u
agrees_placed true keyword instance u = refl
agrees_placed false keyword instance u = refl

-- the root's unit, those below it, and those after it
in_turn : (b : Bool) (u : OutputUnit) (us vs : List OutputUnit)
    → leaves ((if b then u ∷ us else us) ++ vs) ≡ ((if b then node_value u [] ∷ [] else []) ++ leaves us) ++ leaves vs
in_turn true u us vs = ap (λ xs. node_value u [] ∷ xs) (map-append (λ u. node_value u []) us vs)
in_turn false u us vs = map-append (λ u. node_value u []) us vs

pub passed_over : (verdict : Bool) (keyword instance : List ℕ) (u : OutputUnit) (below after : Forest OutputUnit)
    → has_verdict verdict u ≡ false
    → listed verdict keyword instance (tree u below after) ≡ listed verdict keyword instance after
passed_over verdict keyword instance u below after e = let p = agrees_placed verdict keyword instance u ∙ e in rw p refl

abbrev units_of : Bool → List ℕ → List ℕ → Forest OutputUnit → List OutputUnit
units_of verdict keyword instance f = units_below noted (pruned_below (has_verdict verdict) (placed keyword instance f))

pub gone_through : (verdict : Bool) (keyword instance : List ℕ) (u : OutputUnit) (below after : Forest OutputUnit)
    → has_verdict verdict u ≡ true
    → listed verdict keyword instance (tree u below after)
    ≡ listed_tree verdict keyword instance u below ++ listed verdict keyword instance after
gone_through verdict keyword instance u below after e =
    let p = agrees_placed verdict keyword instance u ∙ e in
    rw p (in_turn (noted u) (placed_unit keyword instance u) (units_of verdict (keyword ++ u.keyword)
    (instance ++ u.instance) below) (units_of verdict keyword instance after))

same_verdict : (verdict : Bool) (u : OutputUnit) → u.valid ≡ verdict → has_verdict verdict u ≡ true
same_verdict true u e = e
same_verdict false u e = rw e refl

-- the verdict compared
pub other_verdict : (valid verdict : Bool) (u : OutputUnit) → u.valid ≡ valid → not (beq valid verdict) ≡ true
    → has_verdict verdict u ≡ false
other_verdict true true u e h = absurd cc
other_verdict true false u e h = rw e refl
other_verdict false true u e h = e
other_verdict false false u e h = absurd cc

pub its_verdict : (valid verdict : Bool) (u : OutputUnit) → u.valid ≡ valid → not (beq valid verdict) ≡ false
    → has_verdict verdict u ≡ true
its_verdict true true u e h = e
its_verdict true false u e h = absurd cc
its_verdict false true u e h = absurd cc
its_verdict false false u e h = rw e refl

-- ---- of a whole tree

pub agrees_itself : (u : OutputUnit) → has_verdict u.valid u ≡ true
agrees_itself u = same_verdict u.valid u refl

abbrev listed_whole : Bool → ResultTree → List OutputUnit
listed_whole verdict t = units_below noted (pruned_below (has_verdict verdict) (tree t.root t.below empty))

whole_tree : (t : ResultTree) → listed_whole t.root.valid t ≡ units (pruned t)
whole_tree t = rw (agrees_itself t.root) (append-nil (units (pruned t)))

pub listed_all : (t r : ResultTree) (verdict : Bool) → placed_tree [] [] r ≡ t → verdict ≡ t.root.valid
    → listed verdict [] [] (tree r.root r.below empty) ≡ leaves (units (pruned t))
listed_all t r verdict e v = ap (λ s. leaves (listed_whole verdict s)) e
    ∙ (ap (λ b. leaves (listed_whole b t)) v ∙ ap leaves (whole_tree t))
