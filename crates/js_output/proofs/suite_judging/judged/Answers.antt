use Rattle.std.proofs.Common.{Bool, true, false, Option}
use Rattle.js_bundle.specs.Document.{Documents}
use Rattle.js_bundle.specs.Resource.{Site}
use Rattle.js_bundle.specs.Schemas.{place_at}
use Rattle.js_doc.specs.Seen.{value_of}
use Rattle.js_doc.specs.Value.{Value}
use Rattle.js_eval.specs.Result.{standard_limits}
use Rattle.js_output.specs.Suite.{HasVerdict, IsStatusOn}
use Rattle.js_output.specs.code.SuiteJudging.{compared}
use Rattle.js_output.proofs.Sites.{judged-there}
use Rattle.js_output.proofs.suite_judging.judged.Goals as goal

status_of_verdict : (docs : Documents) (entry : Option Site) (v : Value) (found valid : Bool)
    → HasVerdict standard_limits docs entry v found → IsStatusOn docs entry v valid (compared found valid)
status_of_verdict docs entry v true true h = h
status_of_verdict docs entry v true false h = h
status_of_verdict docs entry v false true h = h
status_of_verdict docs entry v false false h = h

pub returns-in-Ok : goal.returns-in-Ok
returns-in-Ok c =
    let docs = c.args.entry.now.schemas in
    let place = c.args.entry.now.place in
    let v = value_of c.args.instance.now in
    rw c.compared.ensures (status_of_verdict docs (place_at docs place) v c.in-Ok.found c.args.valid
    (judged-there standard_limits docs place v c.requires c.in-Ok.found c.in-Ok.ensures.ok))
