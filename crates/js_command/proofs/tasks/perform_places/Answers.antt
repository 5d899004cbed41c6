use Rattle.std.proofs.Common.{◌∙◌}
use Rattle.std.proofs.lemmas.Result.{err_from_is_err_and}
use Rattle.js_command.specs.Words.{pairs_seen}
use Rattle.js_command.proofs.ProgramAnswers.{places_begun, places_refused, places_reported, places_untaken}
use Rattle.js_command.proofs.tasks.perform_places.Goals as goal

-- a document's file isn't taken
pub returns-in_err-taken-clause-answer : goal.returns-in_err-taken-clause-answer
returns-in_err-taken-clause-answer g c =
    let contents = g.F.Files.contents c.args.files.now in
    let p = err_from_is_err_and c.from_residual.result c.from_residual.ensures.1 in
    rw (p.1, p.2) (places_untaken contents (pairs_seen c.args.documents.now) g.W.Write.contents c.args.out.now
    c.args.out.now c.in_err-taken.field-0.0 c.in_err-taken.ensures.fault)

-- one is refused
pub returns-in_err-schemas-clause-answer : goal.returns-in_err-schemas-clause-answer
returns-in_err-schemas-clause-answer g c =
    let contents = g.F.Files.contents c.args.files.now in
    let p = err_from_is_err_and c.from_residual-in_err-schemas.result c.from_residual-in_err-schemas.ensures.1 in
    let (texts, holds, kept) = c.in_ok-taken.ensures.taken in
    rw (p.1, p.2) (places_refused contents (pairs_seen c.args.documents.now) g.W.Write.contents c.args.out.now
    c.args.out.now texts holds c.in_err-schemas.field-0.0 (c.in_err-schemas.ensures texts kept))

pub returns-in_err-write_all-clause-answer : goal.returns-in_err-write_all-clause-answer
returns-in_err-write_all-clause-answer g c =
    let contents = g.F.Files.contents c.args.files.now in
    let p = err_from_is_err_and c.from_residual-in_err-write_all.result c.from_residual-in_err-write_all.ensures.1 in
    let (texts, holds, kept) = c.in_ok-taken.ensures.taken in
    rw (p.1, p.2) (places_begun contents (pairs_seen c.args.documents.now) g.W.Write.contents c.args.out.now
    c.write_all.new.self texts holds c.in_ok-schemas.schemas (c.in_ok-schemas.ensures texts kept)
    c.as_bytes.result.now (c.as_bytes.ensures.value ∙ c.in_ok-text.ensures.text) c.in_err-write_all.field-0.0
    c.in_err-write_all.ensures.fault
    (c.in_err-write_all.ensures.begins, c.in_err-write_all.ensures.failed, c.in_err-write_all.ensures.calls))

pub returns-clause-answer : goal.returns-clause-answer
returns-clause-answer g c =
    let contents = g.F.Files.contents c.args.files.now in
    let (texts, holds, kept) = c.in_ok-taken.ensures.taken in
    places_reported contents (pairs_seen c.args.documents.now) g.W.Write.contents c.args.out.now c.write_all.new.self
    texts holds c.in_ok-schemas.schemas (c.in_ok-schemas.ensures texts kept) c.as_bytes.result.now
    (c.as_bytes.ensures.value ∙ c.in_ok-text.ensures.text)
    (c.in_ok-write_all.ensures.ok, c.in_ok-write_all.ensures.failed, c.in_ok-write_all.ensures.calls)
