use Rattle.std.proofs.Common.{◌∙◌}
use Rattle.js_upgrade.proofs.resource_table.number_by_uri.Goals as goal

pub returns : goal.returns
returns c = c.copied.ensures ∙ c.get.ensures.value ∙ c.args.table.now.first.first c.args.uri.now
