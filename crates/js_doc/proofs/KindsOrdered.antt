-- Values of two kinds are in the order of the kinds.
use Rattle.std.proofs.Common.{◌≡◌, ◌≢◌, ℕ, suc, ◌<◌, true, false, refl, pos, negsuc, sym, ap}
use Rattle.std.proofs.Common.{◌∙◌, arith, Ordering, Less, Equal, Greater}
use Rattle.std.specs.Cmp.{ranks}
use Rattle.std.specs.Ordering.{nat_cmp, ordering_then, ordering_reverse, MatchOrdering}
use base.Stored.{Gv, gnil, gnum, gcons}
use Rattle.js_doc.specs.Value.{Value, null, truth, whole, text, list, object}
use Rattle.js_doc.specs.Coding.{to_value}
use Rattle.js_doc.specs.Order.{order, order-total, tree_order}
use Rattle.js_doc.specs.code.Kinds.{kind_rank}

-- how far to the left a stored tree goes
abbrev rank : Gv → ℕ
rank gnil = 0
rank (gnum n) = 1
rank (gcons a b) = suc (suc (rank a))

stored_rank : (v : Value) → kind_rank v ≡ rank (to_value v)
stored_rank null = refl
stored_rank (truth false) = refl
stored_rank (truth true) = refl
stored_rank (text s) = refl
stored_rank (whole (pos n)) = refl
stored_rank (whole (negsuc n)) = refl
stored_rank (list vs) = refl
stored_rank (object ms) = refl

below : (a b : Gv) → rank a < rank b → tree_order a b ≡ Less
below gnil gnil h = absurd (omega (arith, h))
below gnil (gnum n) h = refl
below gnil (gcons c d) h = refl
below (gnum m) gnil h = absurd (omega (arith, h))
below (gnum m) (gnum n) h = absurd (omega (arith, h))
below (gnum m) (gcons c d) h = refl
below (gcons a b) gnil h = absurd (omega (arith, h))
below (gcons a b) (gnum n) h = absurd (omega (arith, h))
below (gcons a b) (gcons c d) h = ap (λ r. ordering_then r (tree_order b d)) (below a c (omega (arith, h)))

lower : (v w : Value) → kind_rank v < kind_rank w → order v w ≡ Less
lower v w h = below (to_value v) (to_value w) (omega (arith, h, stored_rank v, stored_rank w))

by_rank : (v w : Value) (r : Ordering) → MatchOrdering r (kind_rank v < kind_rank w) (kind_rank v ≡ kind_rank w)
    (kind_rank w < kind_rank v) → kind_rank v ≢ kind_rank w → r ≡ order v w
by_rank v w Less h n = sym (lower v w h)
by_rank v w Equal h n = absurd (n h)
by_rank v w Greater h n = sym (order-total.antisymm v w ∙ ap ordering_reverse (lower w v h))

pub kinds_ordered : (v w : Value) → kind_rank v ≢ kind_rank w → nat_cmp (kind_rank v) (kind_rank w) ≡ order v w
kinds_ordered v w n = by_rank v w (nat_cmp (kind_rank v) (kind_rank w)) (ranks (kind_rank v) (kind_rank w)) n
