use Rattle.std.proofs.Common.{map, ap}
use Rattle.js_eval.specs.Applications.{indexed_from}
use Rattle.js_eval.specs.SchemaSet as spec
use Rattle.js_eval.specs.Seen.{instance_of}
use Rattle.js_eval.specs.code.Starting.{by_keyword}
use Rattle.js_eval.proofs.keywords.in_place.each_in_list.Goals as goal

pub returns-clause-asked : goal.returns-clause-asked
returns-clause-asked c = λ documents.
    ap (λ vs. map (λ e. by_keyword documents c.args.start.now.at.now (spec.Index e.0) spec.Alone
    (instance_of c.args.start.now.value)) (indexed_from 0 vs)) c.array_in.ensures
