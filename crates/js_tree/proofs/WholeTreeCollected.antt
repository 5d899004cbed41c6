-- A collector of the whole tree, and the events of a tree.
use Rattle.std.specs.Prelude.{◌≡◌, Bool, false, List, [], ◌∷◌, ◌++◌, Option, Some, None, is_some, refl}
use Rattle.std.proofs.Common.{ap, sym, ◌∙◌}
use Rattle.js_tree.specs.BoxedState.{Frame, BoxedState, boxed_start, unit_of, with_tree, boxed_opened}
use Rattle.js_tree.specs.BoxedState.{boxed_closed, boxed_after, frame_of, frames_of, boxed_state}
use Rattle.js_tree.specs.Events.{closing, events, events_of, Passes, after_all}
use Rattle.js_tree.specs.Forest.{Forest, empty, tree, forest_of, ◌⊹◌}
use Rattle.js_tree.specs.Note.{Note}
use Rattle.js_tree.specs.OutputUnit.{OutputUnit}
use Rattle.js_tree.specs.Result.{ResultTree}
use Rattle.js_tree.specs.declared.collecting.boxed.OpenTree.{OpenTree}
use Rattle.js_tree.specs.declared.collecting.boxed.Boxed.{Boxed}
use Rattle.js_tree.proofs.Forests.{append-empty, append-append, forest_of-append}
use Rattle.js_tree.proofs.EventSequences.{passes-after_all, after_all-append}

-- ---- the events of a tree

abbrev at : List Frame → BoxedState
at frames = record { frames = frames; found = None }

abbrev over : Frame → Forest OutputUnit → Frame
over f below = record { keyword = f.keyword; absolute = f.absolute; instance = f.instance; below = below }

abbrev frame : OutputUnit → Forest OutputUnit → Frame
frame u below = record { keyword = u.keyword; absolute = u.absolute; instance = u.instance; below = below }

reported_below : (f : Forest OutputUnit) (k : Frame) (frames : List Frame)
    → after_all boxed_after (at (k ∷ frames)) (events_of f) ≡ at (over k (k.below ⊹ f) ∷ frames)
reported_below empty k frames = ap (λ b. at (over k b ∷ frames)) (sym (append-empty k.below))
reported_below (tree u below rest) k frames =
    after_all-append boxed_after (at (frame u empty ∷ k ∷ frames)) (events_of below)
    (closing u.valid u.note ∷ events_of rest)
    ∙ (ap (λ s. after_all boxed_after s (closing u.valid u.note ∷ events_of rest))
    (reported_below below (frame u empty) (k ∷ frames))
    ∙ (reported_below rest (with_tree k u below) frames
    ∙ ap (λ b. at (over k b ∷ frames)) (append-append k.below (tree u below empty) rest)))

reported : (t : ResultTree) → after_all boxed_after boxed_start (events t) ≡ record { frames = []; found = Some t }
reported t =
    after_all-append boxed_after (at (frame t.root empty ∷ [])) (events_of t.below)
    (closing t.root.valid t.root.note ∷ [])
    ∙ ap (λ s. boxed_after s (closing t.root.valid t.root.note)) (reported_below t.below (frame t.root empty) [])

pub boxed_held : (t : ResultTree) (c d : Boxed) → boxed_state c ≡ boxed_start
    → Passes (λ a e b. boxed_state b ≡ boxed_after (boxed_state a) e) (events t) c d → (boxed_state d).found ≡ Some t
boxed_held t c d h p = ap (λ s. s.found) (passes-after_all boxed_state boxed_after (events t) c d p
    ∙ (ap (λ s. after_all boxed_after s (events t)) h ∙ reported t))

-- after the events of a tree no node is open
pub boxed_closes_all : (t : ResultTree) (c d : Boxed) → boxed_state c ≡ boxed_start
    → Passes (λ a e b. boxed_state b ≡ boxed_after (boxed_state a) e) (events t) c d → (boxed_state d).frames ≡ []
boxed_closes_all t c d h p = ap (λ s. s.frames) (passes-after_all boxed_state boxed_after (events t) c d p
    ∙ (ap (λ s. after_all boxed_after s (events t)) h ∙ reported t))

-- ---- the code's list of open nodes

frames_of-append : (os : List OpenTree) (o : OpenTree) (frames : List Frame)
    → frames_of (os ++ o ∷ []) frames ≡ frame_of o ∷ frames_of os frames
frames_of-append [] o frames = refl
frames_of-append (x ∷ os) o frames = frames_of-append os o (frame_of x ∷ frames)

abbrev holding : Option ResultTree → List Frame → BoxedState
holding found frames = record { frames = frames; found = found }

-- one more node is open
pub opens : (found : Option ResultTree) (old new : List OpenTree) (o : OpenTree) → is_some found ≡ false
    → new ≡ old ++ o ∷ [] → forest_of o.children.items ≡ empty
    → holding found (frames_of new [])
    ≡ boxed_opened found (frames_of old []) o.head.keyword o.head.absolute o.head.instance
opens None old new o h e f =
    ap (holding None) (ap (λ xs. frames_of xs []) e ∙ (frames_of-append old o [] ∙ ap
    (λ b. record { keyword = o.head.keyword; absolute = o.head.absolute; instance = o.head.instance; below = b }
    ∷ frames_of old []) f))
opens (Some t) old new o h e f = cc

abbrev tree_of : OpenTree → Bool → Note → ResultTree
tree_of o valid note = record { root = unit_of (frame_of o) valid note; below = (frame_of o).below }

-- the innermost node closes below p, which is then q
pub closes : (found : Option ResultTree) (old rest : List OpenTree) (o p q : OpenTree) (valid : Bool) (note : Note)
    (t : ResultTree) → old ≡ (rest ++ p ∷ []) ++ o ∷ [] → t ≡ tree_of o valid note
    → q.head ≡ p.head → q.children.items ≡ p.children.items ++ t ∷ []
    → holding found (frames_of (rest ++ q ∷ []) []) ≡ boxed_closed found (frames_of old []) valid note
closes found old rest o p q valid note t e f g h =
    let a : frames_of old [] ≡ frame_of o ∷ frame_of p ∷ frames_of rest [] =
    ap (λ xs. frames_of xs []) e
    ∙ (frames_of-append (rest ++ p ∷ []) o [] ∙ ap (λ frames. frame_of o ∷ frames) (frames_of-append rest p [])) in
    let b : frame_of q ≡ with_tree (frame_of p) (unit_of (frame_of o) valid note) (frame_of o).below =
    ap (λ w. record
    { keyword = w.keyword; absolute = w.absolute; instance = w.instance; below = forest_of q.children.items }) g
    ∙ ap (λ b. record { keyword = p.head.keyword; absolute = p.head.absolute; instance = p.head.instance; below = b })
    (ap forest_of h ∙ (forest_of-append p.children.items (t ∷ [])
    ∙ ap (λ w. forest_of p.children.items ⊹ tree w.root w.below empty) f)) in
    ap (holding found) (frames_of-append rest q [] ∙ ap (λ w. w ∷ frames_of rest []) b)
    ∙ ap (λ frames. boxed_closed found frames valid note) (sym a)

-- both are put back
pub put_back : (found : Option ResultTree) (old rest : List OpenTree) (o p q : OpenTree)
    → old ≡ (rest ++ p ∷ []) ++ o ∷ [] → q.head ≡ p.head → q.children.items ≡ p.children.items
    → holding found (frames_of ((rest ++ q ∷ []) ++ o ∷ []) []) ≡ holding found (frames_of old [])
put_back found old rest o p q e f g =
    let a : (r : OpenTree) → frames_of ((rest ++ r ∷ []) ++ o ∷ []) [] ≡ frame_of o ∷ frame_of r ∷ frames_of rest [] =
    λ r. frames_of-append (rest ++ r ∷ []) o [] ∙ ap (λ frames. frame_of o ∷ frames) (frames_of-append rest r []) in
    let b : frame_of q ≡ frame_of p =
    ap (λ w. record
    { keyword = w.keyword; absolute = w.absolute; instance = w.instance; below = forest_of q.children.items }) f
    ∙ ap (λ xs. record
    { keyword = p.head.keyword; absolute = p.head.absolute; instance = p.head.instance; below = forest_of xs }) g in
    ap (holding found) (a q ∙ (ap (λ w. frame_of o ∷ w ∷ frames_of rest []) b
    ∙ (sym (a p) ∙ ap (λ xs. frames_of xs []) (sym e))))

-- a node is open
pub one_open : (os rest : List OpenTree) (o : OpenTree) → os ≡ rest ++ o ∷ [] → frames_of os [] ≡ [] → ⊥
one_open os rest o e f =
    let k : frame_of o ∷ frames_of rest []
    ≡ [] = sym (ap (λ xs. frames_of xs []) e ∙ frames_of-append rest o []) ∙ f in cc
