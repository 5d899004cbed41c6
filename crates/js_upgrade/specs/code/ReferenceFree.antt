-- What has no references to parts: it leads to nothing that is copied, whatever its dialect and its base.
use Rattle.std.specs.Prelude.{◌≡◌, List, Option}
use Rattle.url.specs.Parts.{Parts}
use Rattle.js_doc.specs.Value.{Value, Items, Members}
use Rattle.js_upgrade.specs.Copies.{Copies, all_copied, copied_for, items_copied, members_copied}
use Rattle.js_upgrade.specs.Resource.{Resource}
use Rattle.js_upgrade.specs.declared.dialect.Dialect.{Dialect}

abbrev pub LeadsToNoPart : Option Value → Type 0
LeadsToNoPart found = (roots : List Resource) (base : Parts) (copies : Copies)
    → copied_for roots base found copies ≡ copies

abbrev pub IsFree : Value → Type 0
IsFree v = (roots : List Resource) (d : Dialect) (base : Parts) (copies : Copies)
    → all_copied roots d base v copies ≡ copies

abbrev pub AreFreeMembers : Members → Type 0
AreFreeMembers ms = (roots : List Resource) (d : Dialect) (base : Parts) (copies : Copies)
    → members_copied roots d base ms copies ≡ copies

abbrev pub AreFreeItems : Items → Type 0
AreFreeItems vs = (roots : List Resource) (d : Dialect) (base : Parts) (copies : Copies)
    → items_copied roots d base vs copies ≡ copies
