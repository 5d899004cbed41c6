use Rattle.std.proofs.Common.{◌∙◌, Some, ap, map, subst, sym}
use Rattle.js_upgrade.specs.Copies.{sources_with}
use Rattle.js_upgrade.specs.Fault.{fault_with, IsStoppedBy}
use Rattle.js_upgrade.specs.Seen.{source_of}
use Rattle.js_upgrade.proofs.CopyLoops.{all_upgraded_is, none_first, some_first}
use Rattle.js_upgrade.proofs.documents.all_upgraded.Goals as goal

pub returns-in-Ok-clause-ok : goal.returns-in-Ok-clause-ok
returns-in-Ok-clause-ok c =
    sym (all_upgraded_is c.as_slice-copies.result.now (map source_of c.args.sources.now)
    (c.as_slice-copies.ensures.value ∙ c.in_ok-found.ensures)) ∙ c.in-Ok.ensures.ok

pub returns-in-Ok-clause-clear : goal.returns-in-Ok-clause-clear
returns-in-Ok-clause-clear c =
    none_first c.as_slice-copies.result.now (map source_of c.args.sources.now)
    (c.as_slice-copies.ensures.value ∙ c.in_ok-found.ensures) c.in-Ok.ensures.clear

pub returns-in-Err-Fault-clause-err : goal.returns-in-Err-Fault-clause-err
returns-in-Err-Fault-clause-err c =
    let copies = c.as_slice-copies.result.now in
    let sources = map source_of c.args.sources.now in
    let stopped = subst (IsStoppedBy (fault_with copies (sources_with copies sources))) c.in-Err-Fault.field-0-is
    c.in-Err-Fault.ensures.err in
    some_first copies sources (c.as_slice-copies.ensures.value ∙ c.in_ok-found.ensures) c.in-Err-Fault.fault stopped
    ∙ sym (ap Some c.in_ok-in_original-in-Err-Fault.ensures)
