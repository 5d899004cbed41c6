use Rattle.std.proofs.Common.{sym, ◌∙◌, ap, ◌++◌, [], ◌∷◌}
use Rattle.js_doc.specs.Seen.{value_of}
use Rattle.js_upgrade.specs.Schema.{seen_with}
use Rattle.js_upgrade.proofs.EachOnce.{next_new, next_seen}
use Rattle.js_upgrade.proofs.once.each_once.Goals as goal
use Rattle.js_upgrade.proofs.once.each_once.Goals.{then-branch+in_ok-copy+in_ok-push, else-branch}

pub loop-doc-preserved : goal.loop-doc-preserved
loop-doc-preserved c =
    let l = c.loop-doc in
    let names = l.invariant.0 in
    let x = c.doc-item.result in
    let known = c.in_ok-is_new.ensures names l.invariant.1 in
    elim c.if-branch.branch [
      | then-branch+in_ok-copy+in_ok-push w ↦ (
        seen_with names (value_of x),
        known.1,
        next_new names l.found.items c.if-branch.found.items c.args.docs.now l.doc-index x _ c.loop-doc-test.true
            c.doc-item.is (sym known.0 ∙ w.if-branch.true)
            (ap (λ v. v.items) w.found-is ∙ w.in_ok-push.ensures.items
            ∙ ap (λ d. l.found.items ++ d ∷ []) w.in_ok-copy.ensures) l.invariant.2,
      )
      | else-branch w ↦ (
        seen_with names (value_of x),
        known.1,
        next_seen names l.found.items c.if-branch.found.items c.args.docs.now l.doc-index x _ c.loop-doc-test.true
            c.doc-item.is (sym known.0 ∙ w.if-branch.false) (ap (λ v. v.items) w.found-is) l.invariant.2,
      )
    ]
