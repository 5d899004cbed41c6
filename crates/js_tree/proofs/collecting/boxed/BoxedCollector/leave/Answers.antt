use Rattle.std.proofs.Common.{[], ◌∷◌, ◌++◌, ap, refl, ◌∙◌}
use Rattle.js_tree.specs.Seen.{note_of}
use Rattle.js_tree.proofs.WholeTreeCollected.{closes, one_open, put_back}
use Rattle.js_tree.proofs.collecting.boxed.BoxedCollector.leave.Goals as goal

pub returns-in-Ok-clause-takes : goal.returns-in-Ok-clause-takes
returns-in-Ok-clause-takes c =
    rw c.push_reserved-in-Ok.ensures.items
    (closes c.args.self.now.found c.args.self.now.nodes.items c.pop-in-Some.new.self.items c.in-Some.node
    c.in-Some-pop.parent (record { head = c.in-Some-pop.parent.head; children = c.push_reserved.new.self })
    c.args.valid (note_of c.args.note) c.closed-in-Ok.result
    (c.in-Some.ensures.items ∙ ap (λ xs. xs ++ c.in-Some.node ∷ []) c.in-Some-pop.ensures.items) c.closed-in-Ok.ensures
    refl (c.push_reserved.ensures.items ∙ ap (λ xs. xs ++ c.closed-in-Ok.result ∷ []) c.in-Ok.ensures.items))

pub returns-in-Err-clause-kept : goal.returns-in-Err-clause-kept
returns-in-Err-clause-kept c =
    rw (c.push_reserved-in-Err-2.ensures.items, c.push_reserved-in-Err.ensures.items)
    (put_back c.args.self.now.found c.args.self.now.nodes.items c.pop-in-Some.new.self.items c.in-Some.node
    c.in-Some-pop.parent (record { head = c.in-Some-pop.parent.head; children = c.reserve.new.self })
    (c.in-Some.ensures.items ∙ ap (λ xs. xs ++ c.in-Some.node ∷ []) c.in-Some-pop.ensures.items) refl
    c.in-Err.ensures.items)

pub returns-in-Err-clause-ok : goal.returns-in-Err-clause-ok
returns-in-Err-clause-ok c =
    λ none. absurd (one_open c.args.self.now.nodes.items _ c.in-Some.node c.in-Some.ensures.items none)
