-- The keywords of 2020-12 stay under their names, with their arguments.
use Rattle.std.proofs.Common.{◌≡◌, List, [], ◌∷◌, Bool, true, false, Option, Some, None, cond, refl, bytes_eq}
use Rattle.js_doc.specs.Value.{Value, Text, Named}
use Rattle.js_upgrade.specs.Dialect.{found, first_of}
use Rattle.js_upgrade.specs.Keyword.{applicator_change, applicator_rows, assertion_change, assertion_rows}
use Rattle.js_upgrade.specs.Keyword.{change_in, core_rows, core_change, or_stays}
use Rattle.js_upgrade.specs.Schema.{one, upgraded_by}
use Rattle.js_upgrade.specs.declared.dialect.Dialect.TheVariants.{Draft2020}
use Rattle.js_upgrade.specs.declared.keyword.Change.{Change}
use Rattle.js_upgrade.proofs.ByCases.{by_plain, is_plain}

abbrev plain_or_none : Option Change → Bool
plain_or_none None = true
plain_or_none (Some change) = is_plain change

abbrev all_plain : List (Text × Change) → Bool
all_plain [] = true
all_plain (row ∷ rows) = cond (is_plain row.1) (all_plain rows) false

found_in : (here plain more : Bool) (change : Change) (rest : Option Change) → is_plain change ≡ plain
    → cond plain more false ≡ true → (more ≡ true → plain_or_none rest ≡ true)
    → plain_or_none (cond here (Some change) rest) ≡ true
found_in true true more change rest is e next = is
found_in false true more change rest is e next = next e
found_in true false more change rest is e next = absurd (cc)
found_in false false more change rest is e next = absurd (cc)

found_plain : (rows : List (Text × Change)) (name : Text) → all_plain rows ≡ true
    → plain_or_none (found rows name) ≡ true
found_plain [] name e = refl
found_plain (row ∷ rows) name e =
    found_in (bytes_eq name row.0) (is_plain row.1) (all_plain rows) row.1 (found rows name) refl e
    (found_plain rows name)

first_plain : (a b : Option Change) → plain_or_none a ≡ true → plain_or_none b ≡ true
    → plain_or_none (first_of a b) ≡ true
first_plain None b e f = f
first_plain (Some change) b e f = e

or_plain : (found : Option Change) → plain_or_none found ≡ true → is_plain (or_stays Draft2020 found) ≡ true
or_plain None e = refl
or_plain (Some change) e = e

pub change_plain : (name : Text) → is_plain (change_in Draft2020 name) ≡ true
unfolding core_change applicator_change assertion_change
change_plain name = or_plain _ (first_plain _ _ (found_plain (assertion_rows Draft2020) name refl)
    (first_plain _ _ (found_plain (applicator_rows Draft2020) name refl) (found_plain (core_rows Draft2020) name refl)))

stays_by : (siblings : Named) (name : Text) (v : Value) (change : Change) → is_plain change ≡ true
    → upgraded_by siblings name v change ≡ one name v
stays_by siblings name v change =
    by_plain (λ c. upgraded_by siblings name v c ≡ one name v) refl refl refl refl refl refl change

pub keyword_stays : (siblings : Named) (name : Text) (v : Value)
    → upgraded_by siblings name v (change_in Draft2020 name) ≡ one name v
keyword_stays siblings name v = stays_by siblings name v _ (change_plain name)
