use Rattle.std.proofs.Common.{rules}
use Rattle.std.proofs.lemmas.Result.{err_from_is_err_and}
use Rattle.js_doc.specs.Seen.{value_of}
use Rattle.js_tree.specs.Form.{form}
use Rattle.js_bundle.specs.Schemas.{place_at}
use Rattle.js_output.proofs.Answering.{reports-sent, reports-begun}
use Rattle.js_output.proofs.judging.judge_value.Goals as goal

pub returns-in_err-write-clause-answer : goal.returns-in_err-write-clause-answer
returns-in_err-write-clause-answer g c =
    let p = err_from_is_err_and c.from_residual-in_err-write.result c.from_residual-in_err-write.ensures.1 in
    let docs = c.args.schemas.now in
    let format = c.args.format in
    let (t, is, stands, made) = c.in_ok-prepared.ensures.prepared in
    rw (p.1, p.2) (reports-begun c.args.limits docs (place_at docs c.args.place) (value_of c.args.instance.now) format t
    is stands
    g.W.Write.contents c.args.out.now c.write.new.out
    c.in_err-write.field-0.0 (c.in_err-write.ensures.sent t.root.valid (form format t) made))

pub returns-clause-answer : goal.returns-clause-answer
returns-clause-answer g c =
    let docs = c.args.schemas.now in
    let format = c.args.format in
    let (t, is, stands, made) = c.in_ok-prepared.ensures.prepared in
    reports-sent c.args.limits docs (place_at docs c.args.place) (value_of c.args.instance.now) format t is stands
    g.W.Write.contents
    c.args.out.now c.write.new.out
    c.root_valid-valid.result (c.root_valid-valid.ensures t.root.valid (form format t) made)
    (c.in_ok-write.ensures.sent t.root.valid (form format t) made)

pub returns-clause-nothing : goal.returns-clause-nothing
returns-clause-nothing g c = search rules
