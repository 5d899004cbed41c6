use Rattle.std.proofs.Common.{◌≡◌, ◌∙◌, ap, ap₂, rules}
use Rattle.std.proofs.lemmas.Result.{IfOk-weaker}
use Rattle.clap.specs.Words.{App, app_of, with_subcommand}
use Rattle.js_command.specs.Grammar.{program}
use Rattle.js_command.proofs.grammar.grammar.Goals as goal

pub returns : goal.returns
returns c =
    let program_is : app_of c.subcommand_required.result ≡ program = search rules in
    let top = λ (a : App). a.top in
    IfOk-weaker c.subcommand-3.result _ _ (λ m h. h.shape c.in_ok-places_command.ensures.local
    ∙ ap₂ with_subcommand (c.in_ok-subcommand-2.ensures.shape c.in_ok-suite_command.ensures.local
    ∙ ap₂ with_subcommand (c.in_ok-subcommand.ensures.shape c.in_ok-check_command.ensures.local
    ∙ ap₂ with_subcommand program_is (ap top c.in_ok-check_command.ensures.shape))
    (ap top c.in_ok-suite_command.ensures.shape)) (ap top c.in_ok-places_command.ensures.shape)) c.subcommand-3.ensures
