use Rattle.std.proofs.Common.{sym, ◌∙◌}
use Rattle.js_upgrade.proofs.AnyRecurses.{any_recurses}
use Rattle.js_upgrade.proofs.resource_table.has_recursive.Goals as goal

pub returns : goal.returns
returns c = c.any_recurses.ensures ∙ sym (any_recurses c.args.resources.now)
