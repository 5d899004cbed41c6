use Rattle.std.proofs.Common.{◌≡◌, IfOk, map, sym, ◌∙◌, subst}
use Rattle.js_upgrade.specs.Seen.{source_of}
use Rattle.js_upgrade.specs.code.Table.{all_of}
use Rattle.js_upgrade.proofs.AnyFault.{none_there, uris_decide}
use Rattle.js_upgrade.proofs.checking.names_fault.Goals as goal

pub returns-then-is_none : goal.returns-then-is_none
returns-then-is_none c =
    let same = uris_decide (all_of c.args.resources.now) (map source_of c.args.sources.now)
    (sym c.in_ok-any.ensures ∙ none_there c.in_ok-any.any c.if-is_none.ensures) in
    subst (λ f. IfOk c.repeated_fault.result (λ g. g ≡ f)) same c.repeated_fault.ensures
