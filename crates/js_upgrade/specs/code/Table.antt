-- A table of resources.
use Rattle.std.specs.Prelude.{List, map}
use Rattle.js_upgrade.specs.Resource.{Resource}
use Rattle.js_upgrade.specs.Seen.{resource_seen}
use Rattle.js_upgrade.specs.declared.resource_table.ResourceTable.{ResourceTable}

abbrev pub all_of : ResourceTable → List Resource
all_of t = map resource_seen t.resources.items
