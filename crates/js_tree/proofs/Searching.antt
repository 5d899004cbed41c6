-- What a search below one of several trees says of the search among them all, and of the move.
use Rattle.std.proofs.Common.{◌≡◌, ◌≢◌, ℕ, zero, suc, ◌+◌, ◌≤◌, ◌<◌, ◌-◌, List, length, take}
use Rattle.std.proofs.Common.{get_or, set, None, refl, ap, sym, ◌∙◌, arith}
use Rattle.js_tree.specs.Alike.{same_but_keyword}
use Rattle.js_tree.specs.Forest.{empty, node_count, forest_of}
use Rattle.js_tree.specs.Moves.{moved_at, moved_below_root}
use Rattle.js_tree.specs.OutputUnit.{noted}
use Rattle.js_tree.specs.Result.{ResultTree, moved}
use Rattle.js_tree.specs.code.Search.{Searched}
use Rattle.js_tree.specs.declared.reducing.moves.Move.{Move}
use Rattle.js_tree.specs.declared.reducing.moves.Rule.{Rule}
use Rattle.js_tree.specs.declared.reducing.moves.Search.{Search}
use Rattle.js_tree.specs.declared.reducing.moves.Search.TheVariants.{Made, NotPossible, Further}
use Rattle.js_tree.proofs.Forests.{same_tree, replaced_by_same, nodes_through_le}
use Rattle.js_tree.proofs.Siblings.{moved_inside, not_moved_inside, moved_at_none}

pub searched_child : (found : Search) (rule : Rule) (ts : List (ResultTree)) (i n m : ℕ) (old new : ResultTree)
    → i < length ts → old ≡ get_or ts i old → node_count (forest_of (take i ts)) + suc n ≡ m → new.root ≡ old.root
    → ((rest : ℕ) → found ≡ Further rest → ⊥) → Searched found rule n old.below new.below
    → Searched found rule m (forest_of ts) (forest_of (set ts i new))
searched_child Made rule ts i n m old new h v e o not s =
    rw (← e) (moved_inside noted same_but_keyword rule ts i n old new h (o ∙ ap (λ t. t.root) v)
    (ap (λ t. moved_at noted same_but_keyword rule empty t.below n) (sym v) ∙ s))
searched_child NotPossible rule ts i n m old new h v e o not s =
    let below : node_count (get_or ts i old).below ≡ node_count old.below = ap (λ t. node_count t.below) (sym v) in
    let l : n < node_count (get_or ts i old).below = omega (arith, below, s.0) in (
      omega (arith, nodes_through_le ts i old h, l),
      rw (← e) (not_moved_inside noted same_but_keyword rule ts i n old h l
          (ap (λ t. moved_at noted same_but_keyword rule empty t.below n) (sym v) ∙ s.1)),
      ap forest_of (replaced_by_same ts i old new (o ∙ ap (λ t. t.root) v) (s.2 ∙ ap (λ t. t.below) v)),
    )
searched_child (Further rest) rule ts i n m old new h v e o not s = absurd (not rest refl)

not_moved_at : (n : ℕ) (rule : Rule) (t : ResultTree) → n ≢ 0 → moved_at noted same_but_keyword rule empty t.below
    (n - 1) ≡ None → moved_below_root noted same_but_keyword rule n t ≡ None
not_moved_at zero rule t l e = refl
not_moved_at (suc n) rule t l e = let d : suc n - 1 ≡ n = omega arith in let k = rw d at e in rw k refl

pub not_made : (found : Search) (m : Move) (t u : ResultTree) → m.position ≢ 0 → (found ≡ Made → ⊥) → u.root ≡ t.root
    → Searched found m.rule (m.position - 1) t.below u.below → (moved m t ≡ None) × (u ≡ t)
not_made Made m t u p not o s = absurd (not refl)
not_made NotPossible m t u p not o s = (not_moved_at m.position m.rule t p s.1, same_tree t u o s.2)
not_made (Further rest) m t u p not o s =
    let l : node_count t.below ≤ m.position - 1 = omega (arith, s.0) in (
      not_moved_at m.position m.rule t p
          (moved_at_none noted same_but_keyword m.rule t.below (m.position - 1) l),
      same_tree t u o s.1,
    )
