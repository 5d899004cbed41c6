-- A keyword's leaf as two events, one after the other.
use Rattle.std.specs.Prelude.{◌≡◌, ℕ, Bool, [], ◌∷◌, ◌++◌, Some, refl}
use Rattle.std.proofs.Common.{ap, append-nil, sym, ◌∙◌, subst}
use Rattle.js_doc.specs.Pointer.{escape}
use Rattle.js_doc.specs.Value.{Value}
use Rattle.js_tree.specs.Events.{Event, Passes, closing, opening}
use Rattle.js_tree.specs.Note.{Note}
use Rattle.js_tree.specs.Rows.RelativeState.{HasLeaf, relative_after, relative_state}
use Rattle.js_eval.specs.Keywords.{Member}
use Rattle.js_eval.specs.SchemaSet.{Text, SchemaSet}
use Rattle.js_eval.specs.Walk.Progress.{LeafReported, at_name, says_at}
use Rattle.js_eval.specs.code.Recorded.{TakesEvent}
use Rattle.js_eval.specs.declared.reporters.recording.Recording.{Recording}

-- its node opens and closes
pub leaf_of_steps : {C P : Type 0} (S : SchemaSet P) (takes : C → Event → C → Type 0) (place : P) (v : Value)
    (k : Member) (matching : ℕ) (passes : Bool) (succeeded : ℕ) (keyword instance mid : Text) (c m d : C)
    → mid ≡ at_name keyword k → takes c (opening mid (S.absolute place (Some k.0)) instance) m
    → takes m (closing passes (says_at S place v matching k succeeded [] [] passes)) d
    → LeafReported S takes place v k matching passes succeeded keyword instance c d
leaf_of_steps S takes place v k matching passes succeeded keyword instance mid c m d e opened closed =
    (m, subst (λ text. takes c (opening text (S.absolute place (Some k.0)) instance) m) e opened, (d, closed, refl))

-- where its name is written as it is
pub name_as_it_is : (trail : Text) (k : Member) → escape k.0 ≡ k.0 → trail ++ 47 ∷ k.0 ≡ at_name trail k
unfolding at_name
name_as_it_is trail k e =
    ap (λ name. trail ++ 47 ∷ name) (sym e) ∙ ap (λ text. trail ++ 47 ∷ text) (sym (append-nil (escape k.0)))

-- its row is added
pub leaf_recorded : (old new : Recording) (keyword schema name instance text absolute : Text)
    (valid : Bool) (note said : Note)
    → HasLeaf keyword schema name instance valid note old.rows new.rows
    → keyword ++ 47 ∷ name ≡ text → schema ++ 47 ∷ name ≡ absolute → note ≡ said
    → Passes TakesEvent
    (opening text absolute instance ∷ closing valid said ∷ []) old new
leaf_recorded old new keyword schema name instance text absolute valid note said leaf t a s =
    let opened = subst (λ z. relative_state leaf.0
    ≡ relative_after (relative_state old.rows) (opening z absolute instance)) t
    (subst (λ z. relative_state leaf.0
    ≡ relative_after (relative_state old.rows) (opening (keyword ++ 47 ∷ name) z instance)) a leaf.1) in
    let closed = subst (λ z. relative_state new.rows ≡ relative_after (relative_state leaf.0) (closing valid z)) s
    (subst (λ rows. relative_state rows
    ≡ relative_after (relative_state leaf.0) (closing valid note)) leaf.2.2 leaf.2.1) in
    (record { rows = leaf.0; token = old.token }, opened, (new, closed, refl))
