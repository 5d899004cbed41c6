use Rattle.js_doc.specs.Seen.{value_of}
use Rattle.js_eval.specs.Seen.{keyword_of}
use Rattle.js_eval.proofs.Holding.{one_ranked}
use Rattle.js_eval.proofs.schema_lookup.held_below.Goals as goal

pub below_at_rank-requires-clause-held : goal.below_at_rank-requires-clause-held
below_at_rank-requires-clause-held c =
    let k = c.args.at.now.keyword in
    one_ranked k.which (value_of c.args.at.now.schema.now) (keyword_of k) k.known
    c.requires.1.0 c.requires.1.1
