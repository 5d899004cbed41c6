use Rattle.std.proofs.Common.{ap, ◌∙◌, sym}
use Rattle.std.specs.List.{position_from}
use Rattle.js_upgrade.specs.Url.{uri_printed}
use Rattle.js_upgrade.specs.code.First.{has_uri}
use Rattle.js_upgrade.specs.code.Table.{all_of}
use Rattle.js_upgrade.proofs.LocalFragments.{always_joined, local_named}
use Rattle.js_upgrade.proofs.scope.number_here.Goals as goal

pub returns-then-is_bare : goal.returns-then-is_bare
returns-then-is_bare c =
    c.number_by_uri.ensures
    ∙ ap (λ u. position_from (has_uri u) 0 (all_of c.args.resources.now))
    (c.uri_printed.ensures ∙ sym (c.is_bare.ensures.local c.if-is_bare.true))

pub returns-in_ok-bare-in-Some : goal.returns-in_ok-bare-in-Some
returns-in_ok-bare-in-Some c =
    c.number_by_uri-in-Some.ensures
    ∙ ap (λ u. position_from (has_uri u) 0 (all_of c.args.resources.now)) (c.uri_printed-in-Some.ensures
    ∙ ap uri_printed c.in_ok-bare-in-Some.ensures
    ∙ local_named c.args.base.now c.in-Some.url (sym c.in-Some.is ∙ c.in_ok-url.ensures))

pub returns-in-None : goal.returns-in-None
returns-in-None c = absurd (always_joined c.args.base.now (sym c.in-None.is ∙ c.in_ok-url.ensures))
