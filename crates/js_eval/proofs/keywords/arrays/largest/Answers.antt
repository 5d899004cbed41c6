use Rattle.std.proofs.Common.{refl}
use Rattle.js_eval.proofs.Largest.{largest_is}
use Rattle.js_eval.proofs.keywords.arrays.largest.Goals as goal

pub returns-in-Some : goal.returns-in-Some
returns-in-Some c = largest_is c.args.indexes.now c.args.indexes.now c.in-Some.index.now refl c.in-Some.ensures.item.3.0
    c.in-Some.ensures.item.1
