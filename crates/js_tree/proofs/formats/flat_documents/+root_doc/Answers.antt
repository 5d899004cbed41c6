use Rattle.std.proofs.Common.{◌≡◌, ◌-◌, ◌+◌, [], ◌∷◌, ◌++◌, map, sym, ap, ◌∙◌, arith, append_assoc, append-nil}
use Rattle.std.proofs.lemmas.List.{map-append}
use Rattle.std.proofs.lemmas.Result.{IfOk-weaker}
use Rattle.js_doc.specs.Seen.{value_of}
use Rattle.js_tree.specs.FlatState.{row_of}
use Rattle.js_tree.specs.Form.{node_value, node_values}
use Rattle.js_tree.proofs.ChildTexts.{rest_of}
use Rattle.js_tree.proofs.FlatRows.{first_tree, root_row, rows_below, all_gone, shorter}
use Rattle.js_tree.proofs.NextRows.{next_done, slice_of_first}
use Rattle.js_tree.proofs.formats.flat_documents.+root_doc.Goals as goal

pub root_doc-returns : goal.root_doc-returns
root_doc-returns t c =
    let rows = c.args.rows.now in
    let u = c.index-rows-0.result.unit in
    IfOk-weaker c.node_doc.result _ _
    (λ doc p t' e.
    p ∙ (ap (node_value u) (c.in_ok-children.ensures t'.below
    (ap (map row_of) (rest_of rows) ∙ rows_below row_of rows t' e))
    ∙ ap (λ u. node_value u (node_values t'.below))
    (root_row row_of rows t' c.index-rows-0.result e c.index-rows-0.is)))
    c.node_doc.ensures

pub root_docs-overflow_add-end : goal.root_docs-overflow_add-end
root_docs-overflow_add-end t' c =
    let w = c.loop-next.invariant.1 c.requires.0 c.requires.1 in
    omega (arith, (first_tree row_of _ _ _ _ w.1 c.loop-next-test.true c.index-rows-next.is).fits)

pub root_docs-slice_bounds-root_doc-end : goal.root_docs-slice_bounds-root_doc-end
root_docs-slice_bounds-root_doc-end t' c =
    let w = c.loop-next.invariant.1 c.requires.0 c.requires.1 in
    (first_tree row_of _ _ _ _ w.1 c.loop-next-test.true c.index-rows-next.is).fits

pub root_docs-root_doc-requires : goal.root_docs-root_doc-requires
root_docs-root_doc-requires t' c =
    let w = c.loop-next.invariant.1 c.requires.0 c.requires.1 in
    let t = first_tree row_of _ _ _ _ w.1 c.loop-next-test.true c.index-rows-next.is in
    let all_is = slice_of_first row_of _ _ _ _ t in
    let l = c.loop-next in
    let few = shorter (l.next + c.index-rows-next.result.size - l.next) l.next c.args.rows.now in
    (omega (arith, few, c.decreases), (_, all_is))

pub root_docs-loop-next-smaller : goal.root_docs-loop-next-smaller
root_docs-loop-next-smaller t' c =
    let w = c.loop-next.invariant.1 c.requires.0 c.requires.1 in
    let t = first_tree row_of _ _ _ _ w.1 c.loop-next-test.true c.index-rows-next.is in
    omega (arith, t.size, t.fits)

pub root_docs-loop-next-preserved : goal.root_docs-loop-next-preserved
root_docs-loop-next-preserved t' c =
    let l = c.loop-next in
    let docs = l.docs.items in
    let doc = c.in_ok-root_doc.field-0 in
    next_done row_of c.args.rows.now l.next c.index-rows-next.result
    (λ f left. map value_of docs ++ node_values left ≡ node_values f)
    (λ f left. map value_of c.push.new.self.items ++ node_values left ≡ node_values f) c.requires l.invariant
    c.loop-next-test.true c.index-rows-next.is
    (λ f left t w.
    ap (λ ds. map value_of ds ++ node_values t.after) c.in_ok-push.ensures.items
    ∙ (ap (λ vs. vs ++ node_values t.after) (map-append value_of docs (doc ∷ []))
    ∙ (append_assoc (map value_of docs) (value_of doc ∷ []) (node_values t.after)
    ∙ (ap (λ v. map value_of docs ++ v ∷ node_values t.after)
    (c.in_ok-root_doc.ensures _ (slice_of_first row_of _ _ _ _ t))
    ∙ (ap (λ vs. map value_of docs ++ vs) (sym (ap node_values t.is)) ∙ w)))))

pub root_docs-returns : goal.root_docs-returns
root_docs-returns t' c =
    let l = c.loop-next in
    λ f e.
    let w = l.invariant.1 f e in
    let none = all_gone row_of c.args.rows.now l.next _ w.1 (omega (arith, c.loop-next-test.false)) in
    sym (append-nil (map value_of l.docs.items))
    ∙ (ap (λ vs. map value_of l.docs.items ++ vs) (sym (ap node_values none)) ∙ w.2)
