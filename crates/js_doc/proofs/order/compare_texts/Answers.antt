use Rattle.std.proofs.Common.{◌∙◌}
use Rattle.js_doc.proofs.Ordered.{text_order}
use Rattle.js_doc.proofs.order.compare_texts.Goals as goal

pub returns : goal.returns
returns c = c.cmp.ensures ∙ text_order c.args.x.now c.args.y.now
