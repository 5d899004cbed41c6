use Rattle.std.proofs.Common.{inl, refl}
use Rattle.std.proofs.lemmas.Result.{err_from_is_err_and}
use Rattle.js_output.specs.declared.fault.Fault.TheVariants as fault
use Rattle.js_upgrade.specs.Documents.{Sources}
use Rattle.js_upgrade.specs.Fault.{memory_fault}
use Rattle.jschema_c.specs.Upgrading.{RefusesSources, sources}
use Rattle.jschema_c.proofs.upgrading.upgraded_bundle.Goals as goal

memory : (all : Sources) → RefusesSources all fault.Memory
memory all = (memory_fault, inl refl, refl)

pub returns-in_err-sources-clause-err : goal.returns-in_err-sources-clause-err
returns-in_err-sources-clause-err c =
    let p = err_from_is_err_and c.from_residual.result c.from_residual.ensures.1 in
    rw (p.1, p.2) (memory (sources c.args.assumed c.args.bundle.now))

pub returns-in_err-with_roots-in-Ok-clause-err : goal.returns-in_err-with_roots-in-Ok-clause-err
returns-in_err-with_roots-in-Ok-clause-err c =
    let p = err_from_is_err_and c.from_residual-in_err-with_roots-in-Ok.result
    c.from_residual-in_err-with_roots-in-Ok.ensures.1 in
    rw (p.1, p.2) (memory (sources c.args.assumed c.args.bundle.now))
