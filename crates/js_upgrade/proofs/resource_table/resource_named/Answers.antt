use Rattle.std.proofs.Common.{ap, ◌∙◌, map, option_and_then, slice_get}
use Rattle.js_upgrade.specs.Seen.{resource_seen}
use Rattle.js_upgrade.specs.code.First.{has_uri}
use Rattle.js_upgrade.proofs.Tables.{found_at}
use Rattle.js_upgrade.proofs.resource_table.resource_named.Goals as goal

pub returns : goal.returns
returns c =
    let all = map resource_seen c.args.table.now.resources.items in
    c.resource_numbered.ensures ∙ ap (option_and_then (slice_get all)) c.number_by_uri.ensures
    ∙ found_at (has_uri c.args.uri.now) all
