use Rattle.js_upgrade.proofs.clear_documents.is_clear_below.Goals as goal

pub returns : goal.returns
returns c = λ is. (c.in_ok-has_fault.ensures c.if-branch.false, c.is_clear_inside.ensures is)
