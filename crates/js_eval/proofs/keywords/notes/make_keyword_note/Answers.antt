use Rattle.std.proofs.Common.{true, false}
use Rattle.std.proofs.lemmas.Result.{IfOk-weaker}
use Rattle.js_assert.specs.Argument.{entries}
use Rattle.js_tree.specs.Seen.{note_of}
use Rattle.js_eval.specs.Bundle.{schemas_of}
use Rattle.js_eval.specs.Seen.{instance_of, keyword_of, texts_of}
use Rattle.js_eval.specs.Sited.{numbered_site}
use Rattle.js_eval.proofs.SaysThere.{says_there}
use Rattle.js_eval.proofs.keywords.notes.make_keyword_note.Goals as goal

pub returns-then-judged : goal.returns-then-judged
returns-then-judged c =
    let place = numbered_site c.args.here.now.schemas.now c.args.place in IfOk-weaker c.annotation_of.result _ _
    (λ n reported. says_there (schemas_of c.args.here.now.schemas.now) place (instance_of c.args.value)
    c.args.findings.matching (keyword_of c.args.keyword) c.args.findings.judged.succeeded
    (texts_of c.args.findings.names.now) c.args.findings.indexes.now
    true c.args.findings.judged.passes c.args.keyword.which (note_of n) c.args.keyword.known c.if-judged.true reported)
    (c.annotation_of.ensures (entries place.schema) c.args.findings.matching c.args.findings.judged.succeeded)

pub returns-in_ok-error : goal.returns-in_ok-error
returns-in_ok-error c =
    let place = numbered_site c.args.here.now.schemas.now c.args.place in IfOk-weaker c.failure_of.result _ _
    (λ n reported. says_there (schemas_of c.args.here.now.schemas.now) place (instance_of c.args.value)
    c.args.findings.matching (keyword_of c.args.keyword) c.args.findings.judged.succeeded
    (texts_of c.args.findings.names.now) c.args.findings.indexes.now
    false c.args.findings.judged.passes c.args.keyword.which (note_of n) c.args.keyword.known c.if-judged.false
    reported)
    (c.failure_of.ensures (entries place.schema) (instance_of c.args.value) c.args.findings.matching
    (keyword_of c.args.keyword) (texts_of c.args.findings.names.now) c.args.findings.indexes.now
    (rw c.look_up_assertion-assertion.ensures at c.in_ok-error.ensures))
