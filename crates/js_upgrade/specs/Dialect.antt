-- The dialects, and the URIs that name them: draft-03, section 5.29; draft-04, Core, section 6; draft-06, Core,
-- section 7; draft-07, Core, section 7; 2019-09, Core, section 8.1.1; 2020-12, Core, section 8.1.1. Schemas name the
-- meta-schema or the hyper-schema of a draft, with `http` or `https`, and with an empty fragment or none.
use Rattle.std.specs.Prelude.{ℕ, Bool, List, [], ◌∷◌, Option, Some, None, codes, bytes_eq}
use Rattle.std.specs.Prelude.{◌==◌, if◌then◌else◌, option_and_then, nat_lt}
use Rattle.js_doc.specs.Value.{Text}
use Rattle.js_upgrade.specs.declared.dialect.Dialect.{Dialect}
use Rattle.js_upgrade.specs.declared.dialect.Dialect.TheVariants.{Draft03, Draft04, Draft06}
use Rattle.js_upgrade.specs.declared.dialect.Dialect.TheVariants.{Draft07, Draft2019, Draft2020}

-- ---- the order of the drafts

abbrev pub draft_number : Dialect → ℕ
draft_number Draft03 = 0
draft_number Draft04 = 1
draft_number Draft06 = 2
draft_number Draft07 = 3
draft_number Draft2019 = 4
draft_number Draft2020 = 5

abbrev pub is_before : Dialect → Dialect → Bool
is_before d e = nat_lt (draft_number d) (draft_number e)

-- ---- their URIs

-- what the table has under the name
abbrev pub found : {A : Type 0} → List (Text × A) → Text → Option A
found [] name = None
found (row ∷ rows) name = if bytes_eq name row.0 then Some row.1 else found rows name

-- what stands behind the prefix
abbrev pub after_prefix : Text → Text → Option Text
after_prefix [] text = Some text
after_prefix (p ∷ ps) [] = None
after_prefix (p ∷ ps) (b ∷ bs) = if b == p then after_prefix ps bs else None

-- behind `https://json-schema.org/draft`
abbrev pub versions : List (Text × Dialect)
versions =
    (codes "-03/schema", Draft03) ∷ (codes "-03/schema#", Draft03)
    ∷ (codes "-03/hyper-schema", Draft03) ∷ (codes "-03/hyper-schema#", Draft03)
    ∷ (codes "-04/schema", Draft04) ∷ (codes "-04/schema#", Draft04)
    ∷ (codes "-04/hyper-schema", Draft04) ∷ (codes "-04/hyper-schema#", Draft04)
    ∷ (codes "-06/schema", Draft06) ∷ (codes "-06/schema#", Draft06)
    ∷ (codes "-06/hyper-schema", Draft06) ∷ (codes "-06/hyper-schema#", Draft06)
    ∷ (codes "-07/schema", Draft07) ∷ (codes "-07/schema#", Draft07)
    ∷ (codes "-07/hyper-schema", Draft07) ∷ (codes "-07/hyper-schema#", Draft07)
    ∷ (codes "/2019-09/schema", Draft2019) ∷ (codes "/2019-09/schema#", Draft2019)
    ∷ (codes "/2019-09/hyper-schema", Draft2019) ∷ (codes "/2019-09/hyper-schema#", Draft2019)
    ∷ (codes "/2020-12/schema", Draft2020) ∷ (codes "/2020-12/schema#", Draft2020) ∷ []

unfoldable pub version_named : Text → Option Dialect
version_named path = found versions path

abbrev pub first_of : {A : Type 0} → Option A → Option A → Option A
first_of None second = second
first_of (Some a) second = Some a

abbrev pub dialect_named : Text → Option Dialect
dialect_named uri = option_and_then version_named
    (first_of (after_prefix (codes "https://json-schema.org/draft") uri) (after_prefix
    (codes "http://json-schema.org/draft") uri))
