-- Which arguments stay when references are rewritten: by the keyword, in each dialect, beside a reference too.
use Rattle.std.proofs.Common.{◌≡◌, Bool, true, false, ◌&&◌, cond, codes, refl}
use Rattle.js_doc.specs.Value.{Text}
use Rattle.js_upgrade.specs.Keyword.{applicator_change, assertion_change, change_in, core_change}
use Rattle.js_upgrade.specs.Schema.{beside_reference}
use Rattle.js_upgrade.specs.Upgrade.{holding_by_change}
use Rattle.js_upgrade.specs.declared.dialect.Dialect.{Dialect}
use Rattle.js_upgrade.specs.declared.dialect.Dialect.TheVariants.{Draft03, Draft04, Draft06}
use Rattle.js_upgrade.specs.declared.dialect.Dialect.TheVariants.{Draft07, Draft2019, Draft2020}
use Rattle.js_upgrade.specs.declared.keyword.Change.{Change}
use Rattle.js_upgrade.specs.declared.holding.SchemaHolding.{SchemaHolding}
use Rattle.js_upgrade.specs.declared.holding.SchemaHolding.TheVariants.{Named as ByName, Nothing}
use Rattle.js_upgrade.proofs.ByCases.{by_dialect, is_no_reference}

abbrev pub is_nothing : SchemaHolding → Bool
is_nothing Nothing = true
is_nothing _ = false

-- or an object of schemas
abbrev pub is_named : SchemaHolding → Bool
is_named ByName = true
is_named h = is_nothing h

abbrev pub keeps : Change → Bool
keeps change = is_no_reference change && is_nothing (holding_by_change change)

abbrev pub keeps_names : Change → Bool
keeps_names change = is_no_reference change && is_named (holding_by_change change)

-- ---- in each dialect

abbrev pub IsEverywhere : (Change → Bool) → Text → Type 0
IsEverywhere p k = (d : Dialect) (hidden : Bool)
    → p (cond hidden (beside_reference (change_in d k)) (change_in d k)) ≡ true

abbrev both_ways : (Change → Bool) → Text → Dialect → Bool
both_ways p k d = p (change_in d k) && p (beside_reference (change_in d k))

pub split : (a b : Bool) → (a && b) ≡ true → (a ≡ true) × (b ≡ true)
split true b e = (refl, e)
split false b e = absurd (cc)

module _ (p : Change → Bool) (k : Text) where
  known : both_ways p k Draft03 ≡ true → both_ways p k Draft04 ≡ true → both_ways p k Draft06 ≡ true
      → both_ways p k Draft07 ≡ true → both_ways p k Draft2019 ≡ true → both_ways p k Draft2020 ≡ true
      → IsEverywhere p k
  known a b c e f g d hidden = way hidden (by_dialect (λ d. both_ways p k d ≡ true) a b c e f g d)
    where
      way : (hidden : Bool) → both_ways p k d ≡ true
          → p (cond hidden (beside_reference (change_in d k)) (change_in d k)) ≡ true
      way true here = (split (p (change_in d k)) (p (beside_reference (change_in d k))) here).1
      way false here = (split (p (change_in d k)) (p (beside_reference (change_in d k))) here).0

-- ---- keywords

pub record AreKept : Type 0 where
  pub schema : IsEverywhere keeps (codes "$schema")
  pub id : IsEverywhere keeps (codes "id")
  pub dollar_id : IsEverywhere keeps (codes "$id")
  pub required : IsEverywhere keeps (codes "required")
  pub exclusive_minimum : IsEverywhere keeps (codes "exclusiveMinimum")
  pub exclusive_maximum : IsEverywhere keeps (codes "exclusiveMaximum")
  pub max_contains : IsEverywhere keeps (codes "maxContains")
  pub min_contains : IsEverywhere keeps (codes "minContains")
  pub properties : IsEverywhere keeps_names (codes "properties")
  pub items : IsEverywhere is_no_reference (codes "items")

pub are_kept : AreKept
unfolding core_change applicator_change assertion_change
are_kept =
    record {
      schema = known keeps (codes "$schema") refl refl refl refl refl refl;
      id = known keeps (codes "id") refl refl refl refl refl refl;
      dollar_id = known keeps (codes "$id") refl refl refl refl refl refl;
      required = known keeps (codes "required") refl refl refl refl refl refl;
      exclusive_minimum = known keeps (codes "exclusiveMinimum") refl refl refl refl refl refl;
      exclusive_maximum = known keeps (codes "exclusiveMaximum") refl refl refl refl refl refl;
      max_contains = known keeps (codes "maxContains") refl refl refl refl refl refl;
      min_contains = known keeps (codes "minContains") refl refl refl refl refl refl;
      properties = known keeps_names (codes "properties") refl refl refl refl refl refl;
      items = known is_no_reference (codes "items") refl refl refl refl refl refl;
    }
