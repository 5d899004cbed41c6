use Rattle.std.proofs.Common.{◌∙◌}
use Rattle.js_upgrade.proofs.LocalFragments.{bare_text, none_there}
use Rattle.js_upgrade.proofs.uri.printed_bare.Goals as goal

pub returns-then-is_none : goal.returns-then-is_none
returns-then-is_none c =
    let url = c.args.url.now in
    c.slice.ensures.value
    ∙ bare_text url (none_there c.query.result url.query c.is_none.result c.query.ensures.value c.is_none.ensures
    c.if-is_none.true)
