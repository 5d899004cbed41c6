use Rattle.js_doc.proofs.FiniteMaps.{get-put, get-put_other, ascending-put}
use Rattle.js_doc.proofs.laws.what_is_put_is_got.Goals as goal

pub returns-clause-same : goal.returns-clause-same
returns-clause-same c = get-put

pub returns-clause-others : goal.returns-clause-others
returns-clause-others c = get-put_other

pub returns-clause-ascending : goal.returns-clause-ascending
returns-clause-ascending c = ascending-put
