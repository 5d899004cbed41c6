use Rattle.std.proofs.Common.{ap, map, sym, ◌∙◌}
use Rattle.js_upgrade.specs.Fault.{fault_among}
use Rattle.js_upgrade.specs.Seen.{source_of}
use Rattle.js_upgrade.proofs.ClearDocuments.{uncopied}
use Rattle.js_upgrade.proofs.documents.clear_upgraded.Goals as goal

pub upgraded_clear-requires-clause-resources : goal.upgraded_clear-requires-clause-resources
upgraded_clear-requires-clause-resources c =
    c.requires.roots ∙ sym (uncopied c.args.copies.now (map source_of c.args.sources.now) c.requires.uncopied
    ∙ c.requires.clear.0)

pub upgraded_clear-requires-clause-clear : goal.upgraded_clear-requires-clause-clear
upgraded_clear-requires-clause-clear c =
    let sources = map source_of c.args.sources.now in
    ap (λ rs. fault_among rs sources) (uncopied c.args.copies.now sources c.requires.uncopied ∙ c.requires.clear.0
    ∙ sym c.requires.roots) ∙ sym c.in_ok-fault.ensures ∙ c.in-None.is

pub returns-in-Some-clause-err : goal.returns-in-Some-clause-err
returns-in-Some-clause-err c =
    let sources = map source_of c.args.sources.now in
    ap (λ rs. fault_among rs sources) (uncopied c.args.copies.now sources c.requires.uncopied ∙ c.requires.clear.0
    ∙ sym c.requires.roots) ∙ sym c.in_ok-fault.ensures ∙ c.in-Some.is

pub returns-in_ok-upgraded_clear-in-None-clause-clear :
    goal.returns-in_ok-upgraded_clear-in-None-clause-clear
returns-in_ok-upgraded_clear-in-None-clause-clear c =
    let sources = map source_of c.args.sources.now in
    ap (λ rs. fault_among rs sources) (uncopied c.args.copies.now sources c.requires.uncopied ∙ c.requires.clear.0
    ∙ sym c.requires.roots) ∙ sym c.in_ok-fault.ensures ∙ c.in-None.is
