-- What holds of each dialect, and of each change: the cases are written once.
use Rattle.std.proofs.Common.{◌≡◌, List, Bool, true, false, refl}
use Rattle.url.specs.Parts.{Parts}
use Rattle.js_doc.specs.Value.{Value}
use Rattle.js_upgrade.specs.Reference.{argument_rewritten, recursion_rewritten, rewritten}
use Rattle.js_upgrade.specs.Resource.{Resource}
use Rattle.js_upgrade.specs.Schema.{beside_reference}
use Rattle.js_upgrade.specs.declared.dialect.Dialect.{Dialect}
use Rattle.js_upgrade.specs.declared.dialect.Dialect.TheVariants.{Draft03, Draft04, Draft06}
use Rattle.js_upgrade.specs.declared.dialect.Dialect.TheVariants.{Draft07, Draft2019, Draft2020}
use Rattle.js_upgrade.specs.declared.keyword.Change.{Change}
use Rattle.js_upgrade.specs.declared.keyword.Change.TheVariants.{Stays, Asserts, Refers}
use Rattle.js_upgrade.specs.declared.keyword.Change.TheVariants.{HoldsOne, HoldsList, HoldsNamed}
use Rattle.js_upgrade.specs.declared.keyword.Change.TheVariants.{Goes, Identifier, Definitions, Items, AdditionalItems}
use Rattle.js_upgrade.specs.declared.keyword.Change.TheVariants.{Dependencies, Minimum, Maximum, Divisor, Types}
use Rattle.js_upgrade.specs.declared.keyword.Change.TheVariants.{Disallowed, Extended, Properties}
use Rattle.js_upgrade.specs.declared.keyword.Change.TheVariants.{Contains, Anchor, RecursiveReference, RecursiveAnchor}

pub by_dialect : (P : Dialect → Type 0) → P Draft03 → P Draft04 → P Draft06 → P Draft07 → P Draft2019 → P Draft2020
    → (d : Dialect) → P d
by_dialect P a b c e f g Draft03 = a
by_dialect P a b c e f g Draft04 = b
by_dialect P a b c e f g Draft06 = c
by_dialect P a b c e f g Draft07 = e
by_dialect P a b c e f g Draft2019 = f
by_dialect P a b c e f g Draft2020 = g

-- ---- a keyword that stays as it is

abbrev pub is_plain : Change → Bool
is_plain Stays = true
is_plain Asserts = true
is_plain Refers = true
is_plain HoldsOne = true
is_plain HoldsList = true
is_plain HoldsNamed = true
is_plain _ = false

module _ (P : Change → Type 0) (stays : P Stays) (asserts : P Asserts) (refers : P Refers) (one : P HoldsOne)
    (listed : P HoldsList) (named : P HoldsNamed) where
  pub by_plain : (change : Change) → is_plain change ≡ true → P change
  by_plain Stays e = stays
  by_plain Asserts e = asserts
  by_plain Refers e = refers
  by_plain HoldsOne e = one
  by_plain HoldsList e = listed
  by_plain HoldsNamed e = named
  by_plain Goes e = absurd (cc)
  by_plain Identifier e = absurd (cc)
  by_plain Definitions e = absurd (cc)
  by_plain Items e = absurd (cc)
  by_plain AdditionalItems e = absurd (cc)
  by_plain Dependencies e = absurd (cc)
  by_plain Minimum e = absurd (cc)
  by_plain Maximum e = absurd (cc)
  by_plain Divisor e = absurd (cc)
  by_plain Types e = absurd (cc)
  by_plain Disallowed e = absurd (cc)
  by_plain Extended e = absurd (cc)
  by_plain Properties e = absurd (cc)
  by_plain Contains e = absurd (cc)
  by_plain Anchor e = absurd (cc)
  by_plain RecursiveReference e = absurd (cc)
  by_plain RecursiveAnchor e = absurd (cc)

-- ---- a change that is no reference's leaves the argument to its schemas

abbrev pub is_no_reference : Change → Bool
is_no_reference Refers = false
is_no_reference RecursiveReference = false
is_no_reference _ = true

module _ (all : List Resource) (base : Parts) (P : Change → (Value → Value → Value) → Type 0)
    (refers : P Refers (λ v w. rewritten all base v))
    (recursive : P RecursiveReference (λ v w. recursion_rewritten all base v))
    (other : (change : Change) → is_no_reference change ≡ true → P change (λ v w. w)) where
  pub by_argument : (change : Change) → P change (λ v w. argument_rewritten all change base v w)
  by_argument Refers = refers
  by_argument RecursiveReference = recursive
  by_argument Stays = other Stays refl
  by_argument Asserts = other Asserts refl
  by_argument HoldsOne = other HoldsOne refl
  by_argument HoldsList = other HoldsList refl
  by_argument HoldsNamed = other HoldsNamed refl
  by_argument Goes = other Goes refl
  by_argument Identifier = other Identifier refl
  by_argument Definitions = other Definitions refl
  by_argument Items = other Items refl
  by_argument AdditionalItems = other AdditionalItems refl
  by_argument Dependencies = other Dependencies refl
  by_argument Minimum = other Minimum refl
  by_argument Maximum = other Maximum refl
  by_argument Divisor = other Divisor refl
  by_argument Types = other Types refl
  by_argument Disallowed = other Disallowed refl
  by_argument Extended = other Extended refl
  by_argument Properties = other Properties refl
  by_argument Contains = other Contains refl
  by_argument Anchor = other Anchor refl
  by_argument RecursiveAnchor = other RecursiveAnchor refl

-- ---- beside a reference, what isn't there goes

module _ (P : Change → Change → Type 0) (refers : P Refers Refers) (definitions : P Definitions Definitions)
    (stays : P Stays Stays) (goes : (change : Change) → P change Goes) where
  pub by_sibling : (change : Change) → P change (beside_reference change)
  by_sibling Refers = refers
  by_sibling Definitions = definitions
  by_sibling Stays = stays
  by_sibling Asserts = goes Asserts
  by_sibling HoldsOne = goes HoldsOne
  by_sibling HoldsList = goes HoldsList
  by_sibling HoldsNamed = goes HoldsNamed
  by_sibling Goes = goes Goes
  by_sibling Identifier = goes Identifier
  by_sibling Items = goes Items
  by_sibling AdditionalItems = goes AdditionalItems
  by_sibling Dependencies = goes Dependencies
  by_sibling Minimum = goes Minimum
  by_sibling Maximum = goes Maximum
  by_sibling Divisor = goes Divisor
  by_sibling Types = goes Types
  by_sibling Disallowed = goes Disallowed
  by_sibling Extended = goes Extended
  by_sibling Properties = goes Properties
  by_sibling Contains = goes Contains
  by_sibling Anchor = goes Anchor
  by_sibling RecursiveReference = goes RecursiveReference
  by_sibling RecursiveAnchor = goes RecursiveAnchor
