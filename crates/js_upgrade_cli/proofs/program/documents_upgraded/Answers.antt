use Rattle.std.proofs.Common.{subst}
use Rattle.std.proofs.lemmas.Result.{err_from_is_err_and}
use Rattle.js_command.specs.Words.{files_of, pairs_seen}
use Rattle.js_upgrade_cli.specs.Outcome.{IsUntaken}
use Rattle.js_upgrade_cli.specs.code.Seen.{upgrade_request_seen}
use Rattle.js_upgrade_cli.proofs.Ending.{untaken_stops}
use Rattle.js_upgrade_cli.proofs.program.documents_upgraded.Goals as goal

-- a file isn't taken
pub returns-in_err-taken-clause-stop : goal.returns-in_err-taken-clause-stop
returns-in_err-taken-clause-stop g c =
    let contents = g.F.Files.contents c.args.files.now in
    let e = c.in_err-taken.field-0.0 in
    let p = err_from_is_err_and c.from_residual.result c.from_residual.ensures.1 in
    rw (p.1, p.2) (untaken_stops contents (upgrade_request_seen c.args.request.now) e.document e.fault
    (subst (λ ds. IsUntaken contents 0 (files_of (pairs_seen ds)) e.document e.fault) c.as_slice.ensures.value
    c.in_err-taken.ensures.stop))
