-- A loop over an object's members, one after the other, or over a list's items.
use Rattle.std.proofs.Common.{◌≡◌, ℕ, ◌<◌, List, [], ◌∷◌, ◌++◌, map, get_or, length, String}
use Rattle.std.proofs.Common.{Global, refl, sym, ap, ◌∙◌, subst, append_assoc}
use Rattle.js_doc.specs.Nesting.{depth}
use Rattle.js_doc.specs.Value.{Named, list, items, object, members}
use Rattle.js_doc.specs.Seen.{value_of, pair_of}
use Rattle.js_doc.specs.declared.doc.Doc.{Doc}
use Rattle.js_doc.proofs.Smaller.{item_smaller, member_smaller}

abbrev pub Pairs : Type 0
Pairs = List (List ℕ × Doc)

-- some are done, and these are left
abbrev pub IsSplit : Pairs → Pairs → Type 0
IsSplit all left = (done : Pairs) × (all ≡ done ++ left)

split_next : (all old left : Pairs) (m : List ℕ × Doc) → IsSplit all old → old ≡ m ∷ left → IsSplit all left
split_next all old left m split step = (
  split.0 ++ m ∷ [],
  split.1 ∙ ap (λ es. split.0 ++ es) step ∙ sym (append_assoc split.0 (m ∷ []) left),
)

-- of these members some are done, and this holds of those that are left
pub record IsLoopOver (all left : Pairs) (Known : Pairs → Type 0) : Type 0 where
  pub split : IsSplit all left
  pub recorded : Known left

pub loop_next : {all old left : Pairs} {m : List ℕ × Doc} {Before After : Pairs → Type 0}
    → IsLoopOver all old Before → old ≡ m ∷ left → (Before (m ∷ left) → After left) → IsLoopOver all left After
loop_next {all} {old} {left} {m} {Before} loop step next =
    record { split = split_next all old left m loop.split step; recorded = next (subst Before step loop.recorded) }

-- the next one nests less deep than the object
pub next_smaller : {pairs all old left : Pairs} {name : List ℕ} {value : Doc} {ms : Named}
    → map pair_of pairs ≡ ms → all ≡ pairs → IsSplit all old → old ≡ (name, value) ∷ left
    → depth (value_of value) < depth (object (members ms))
next_smaller {pairs} {all} {old} {left} {name} {value} {ms} seen same split step =
    member_smaller pairs split.0 (name, value) left ms seen (sym same ∙ split.1 ∙ ap (λ es. split.0 ++ es) step)

-- an item nests less deep than the list
pub next_item_smaller : (ds : List Doc) (i : ℕ) {x : Doc} → x ≡ get_or ds i x → i < length ds
    → depth (value_of x) < depth (list (items (map value_of ds)))
next_item_smaller ds i {x} is low = item_smaller ds (map value_of ds) i x x refl low (sym is)
