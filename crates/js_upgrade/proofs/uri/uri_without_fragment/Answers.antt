use Rattle.std.proofs.Common.{sym}
use Rattle.js_upgrade.proofs.uri.uri_without_fragment.Goals as goal

pub returns-then-is_bare : goal.returns-then-is_bare
returns-then-is_bare c = sym (c.is_bare.ensures.stays c.if-is_bare.true)
