use Rattle.std.proofs.Common.{◌≡◌, ◌≤◌, [], ◌∷◌, ◌++◌, length, sym, subst}
use Rattle.std.proofs.lemmas.Result.{err_from_is_err_and}
use Rattle.js_output.specs.Device.{input_limit, IsLeft}
use Rattle.js_output.specs.declared.fault.Fault.TheVariants as fault
use Rattle.js_command.specs.Files.{IsFirstFileFault}
use Rattle.js_command.specs.Words.{files_of, pairs_seen}
use Rattle.js_command.specs.code.Taken.{AreTaken}
use Rattle.js_command.proofs.ProgramAnswers.{texts_untaken, documents_refused, check_reported, suite_reported}
use Rattle.js_command.proofs.ProgramAnswers.{suite_fault}
use Rattle.js_command.proofs.tasks.perform_judging.Goals as goal

-- a file isn't taken
pub returns-in_err-texts-clause-answer : goal.returns-in_err-texts-clause-answer
returns-in_err-texts-clause-answer g c =
    let contents = g.F.Files.contents c.args.files.now in
    let judging = c.args.judging.now in
    let e = c.in_err-texts.field-0.0 in
    let p = err_from_is_err_and c.from_residual.result c.from_residual.ensures.1 in
    rw (p.1, p.2) (texts_untaken contents (pairs_seen judging.documents.items) judging.file.now g.W.Write.contents
    c.args.out.now c.args.out.now judging.subject e
    (subst (λ ds. ¬ (e ≡ fault.Memory) → IsFirstFileFault contents (files_of (pairs_seen ds) ++ judging.file.now ∷ [])
    e)
    c.as_slice.ensures.value c.in_err-texts.ensures.fault))

-- a document is refused
pub returns-in_err-schemas-clause-answer : goal.returns-in_err-schemas-clause-answer
returns-in_err-schemas-clause-answer g c =
    let contents = g.F.Files.contents c.args.files.now in
    let p = err_from_is_err_and c.from_residual-in_err-schemas.result c.from_residual-in_err-schemas.ensures.1 in
    let (texts, holds, kept) = subst (λ ds. AreTaken contents (pairs_seen ds) c.in_ok-texts.texts.documents)
    c.as_slice.ensures.value c.in_ok-texts.ensures.taken in
    rw (p.1, p.2) (documents_refused contents c.args.judging.now texts c.in_ok-texts.texts.judged.items holds
    c.in_ok-texts.ensures.judged g.W.Write.contents c.args.out.now c.args.out.now c.in_err-schemas.field-0.0
    (c.in_err-schemas.ensures texts kept))

pub returns-in-Instance-clause-answer : goal.returns-in-Instance-clause-answer
returns-in-Instance-clause-answer g c =
    let contents = g.F.Files.contents c.args.files.now in
    let judging = c.args.judging.now in
    let bytes = c.as_slice-text.result.now in
    let here = subst (IsLeft (contents judging.file.now)) (sym c.as_slice-text.ensures.value)
    c.in_ok-texts.ensures.judged in
    let (texts, holds, kept) = subst (λ ds. AreTaken contents (pairs_seen ds) c.in_ok-texts.texts.documents)
    c.as_slice.ensures.value c.in_ok-texts.ensures.taken in
    check_reported contents judging texts bytes holds here g.W.Write.contents
    c.args.out.now c.run_text.new.out c.in_ok-schemas.schemas (c.in_ok-schemas.ensures texts kept)
    c.in-Instance.format c.in-Instance.entry c.run_text.result c.in-Instance.is c.run_text.ensures.answer

pub returns-clause-answer : goal.returns-clause-answer
returns-clause-answer g c =
    let contents = g.F.Files.contents c.args.files.now in
    let judging = c.args.judging.now in
    let bytes = c.as_slice-text.result.now in
    let here = subst (IsLeft (contents judging.file.now)) (sym c.as_slice-text.ensures.value)
    c.in_ok-texts.ensures.judged in
    let few = subst (λ b. length b ≤ input_limit) (sym c.as_slice-text.ensures.value) c.in_ok-texts.ensures.fits in
    let (texts, holds, kept) = subst (λ ds. AreTaken contents (pairs_seen ds) c.in_ok-texts.texts.documents)
    c.as_slice.ensures.value c.in_ok-texts.ensures.taken in
    rw c.all_passed.ensures (suite_reported contents judging texts bytes holds here
    g.W.Write.contents c.args.out.now c.run_suite_text.new.out c.in_ok-schemas.schemas
    (c.in_ok-schemas.ensures texts kept) few c.in_ok-counts-in-Suite.counts c.in-Suite.is
    c.in_ok-counts-in-Suite.ensures.answer)

pub returns-in_err-counts-in-Suite-clause-answer : goal.returns-in_err-counts-in-Suite-clause-answer
returns-in_err-counts-in-Suite-clause-answer g c =
    let contents = g.F.Files.contents c.args.files.now in
    let judging = c.args.judging.now in
    let bytes = c.as_slice-text.result.now in
    let here = subst (IsLeft (contents judging.file.now)) (sym c.as_slice-text.ensures.value)
    c.in_ok-texts.ensures.judged in
    let few = subst (λ b. length b ≤ input_limit) (sym c.as_slice-text.ensures.value) c.in_ok-texts.ensures.fits in
    let p = err_from_is_err_and c.from_residual-in_err-counts-in-Suite.result
    c.from_residual-in_err-counts-in-Suite.ensures.1 in
    let (texts, holds, kept) = subst (λ ds. AreTaken contents (pairs_seen ds) c.in_ok-texts.texts.documents)
    c.as_slice.ensures.value c.in_ok-texts.ensures.taken in
    rw (p.1, p.2) (suite_fault contents judging texts bytes holds here
    g.W.Write.contents c.args.out.now c.run_suite_text.new.out c.in_ok-schemas.schemas
    (c.in_ok-schemas.ensures texts kept) few c.in_err-counts-in-Suite.field-0.0 c.in-Suite.is
    c.in_err-counts-in-Suite.ensures.answer)
