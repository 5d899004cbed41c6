-- The first fault of a schema and of those that it holds, where its own dialect and base are known.
use Rattle.std.specs.Prelude.{List, Option}
use Rattle.url.specs.Parts.{Parts}
use Rattle.js_doc.specs.Value.{Named, members}
use Rattle.js_upgrade.specs.Dialect.{first_of}
use Rattle.js_upgrade.specs.Fault.{FoundFault, member_fault, schema_fault}
use Rattle.js_upgrade.specs.Resource.{Resource}
use Rattle.js_upgrade.specs.Upgrade.{holding_in}
use Rattle.js_upgrade.specs.declared.dialect.Dialect.{Dialect}
use Rattle.js_upgrade.specs.declared.fault.Pass.{Pass}

abbrev pub fault_below : Pass → List Resource → Dialect → Dialect → Parts → Parts → Named → Option FoundFault
fault_below pass all d own base below siblings =
    first_of (schema_fault pass all d own base below siblings)
    (member_fault pass all (holding_in own siblings) own below (members siblings))
