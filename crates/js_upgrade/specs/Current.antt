-- A value in which each schema is of 2020-12: none declares an older draft.
use Rattle.std.specs.Prelude.{◌≡◌}
use Rattle.js_doc.specs.Value.{Value, Text, list, object, Items, no_items, item, Members, no_members, member}
use Rattle.js_doc.specs.Parts.{member_list}
use Rattle.js_upgrade.specs.Upgrade.{holding_in, own_dialect}
use Rattle.js_upgrade.specs.declared.dialect.Dialect.TheVariants.{Draft2020}
use Rattle.js_upgrade.specs.declared.holding.SchemaHolding.{SchemaHolding}
use Rattle.js_upgrade.specs.declared.holding.SchemaHolding.TheVariants.{One, Listed, Named as ByName, OneOrListed}

abbrev mutual
  pub IsCurrent : SchemaHolding → Value → Type 0
  IsCurrent One (object ms) =
      (own_dialect Draft2020 (member_list ms) ≡ Draft2020) × AreCurrent (holding_in Draft2020 (member_list ms)) ms
  IsCurrent OneOrListed (object ms) =
      (own_dialect Draft2020 (member_list ms) ≡ Draft2020) × AreCurrent (holding_in Draft2020 (member_list ms)) ms
  IsCurrent ByName (object ms) = AreCurrent (λ name. One) ms
  IsCurrent Listed (list vs) = ItemsAreCurrent vs
  IsCurrent OneOrListed (list vs) = ItemsAreCurrent vs
  IsCurrent _ v = Unit {0}

  pub ItemsAreCurrent : Items → Type 0
  ItemsAreCurrent no_items = Unit {0}
  ItemsAreCurrent (item v vs) = IsCurrent One v × ItemsAreCurrent vs

  -- each as its name holds it
  pub AreCurrent : (Text → SchemaHolding) → Members → Type 0
  AreCurrent held no_members = Unit {0}
  AreCurrent held (member name v ms) = IsCurrent (held name) v × AreCurrent held ms
