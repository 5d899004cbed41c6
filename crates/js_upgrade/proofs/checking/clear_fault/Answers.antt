use Rattle.std.proofs.Common.{◌≡◌, IfOk, ap, map, sym, ◌∙◌, subst}
use Rattle.std.proofs.lemmas.List.{length-map}
use Rattle.js_upgrade.specs.Dialect.{first_of}
use Rattle.js_upgrade.specs.Fault.{names_fault, number_fault}
use Rattle.js_upgrade.specs.Seen.{source_of}
use Rattle.js_upgrade.specs.code.Table.{all_of}
use Rattle.js_upgrade.proofs.AnyFault.{uris_decide}
use Rattle.js_upgrade.proofs.checking.clear_fault.Goals as goal

pub returns-in-None : goal.returns-in-None
returns-in-None c =
    let all = all_of c.args.resources.now in
    let sources = map source_of c.args.sources.now in
    let none = ap number_fault (length-map c.args.sources.now source_of) ∙ sym c.number_fault.ensures ∙ c.in-None.is in
    let same = uris_decide all sources c.requires ∙ sym (ap (λ f. first_of f (names_fault all sources)) none) in
    subst (λ f. IfOk c.repeated_fault.result (λ g. g ≡ f)) same c.repeated_fault.ensures
