use Rattle.std.proofs.Common.{◌≡◌, ◌+◌, ◌-◌, ◌*◌, ◌++◌, length, map}
use Rattle.js_doc.specs.Seen.{value_of}
use Rattle.js_tree.specs.FlatState.{row_of}
use Rattle.js_tree.specs.Form.{node_values}
use Rattle.js_tree.proofs.NextRows.{TreesLeft}
use Rattle.js_tree.proofs.formats.flat_documents.+root_doc.Given as goal

abbrev pub decreases-root_doc : goal.decreases-root_doc
decreases-root_doc l = 2 * length l.rows.now

abbrev pub decreases-root_docs : goal.decreases-root_docs
decreases-root_docs l = 2 * length l.rows.now + 1

abbrev pub decreases-root_docs-loop-next : goal.decreases-root_docs-loop-next
decreases-root_docs-loop-next l = length l.rows - l.next

abbrev pub invariant-root_docs-loop-next : goal.invariant-root_docs-loop-next
invariant-root_docs-loop-next l =
    TreesLeft row_of l.rows l.next (λ f left. map value_of l.docs.items ++ node_values left ≡ node_values f)
