-- What becomes of some schema documents.
use Rattle.std.proofs.Common.{◌≡◌, List, ℕ, Some, refl}
use Rattle.std.specs.Prelude.{Option, codes, ⊤}
use Rattle.core.specs.Fmt.{digits}
use Rattle.fast_float.proofs.OnLiterals.{fast_float_on_literals}
use Rattle.json.proofs.OnLiterals.{json_on_literals}
use Rattle.js_upgrade.specs.Dialect.{version_named}
use Rattle.js_upgrade.specs.Keyword.{applicator_change, assertion_change, core_change}
use Rattle.js_upgrade.specs.declared.dialect.Dialect.TheVariants.{Draft04, Draft2020}
use Rattle.js_numbers.specs.NumberKeyword.{bound_named, other_named}
use Rattle.js_numbers.specs.Schema.{exact_schema}

-- what computes on a literal
unfoldable on_literals : ⊤
unfolding fast_float_on_literals json_on_literals digits version_named applicator_change
    assertion_change core_change bound_named other_named
on_literals = tt

abbrev now : List ℕ → Option (List ℕ)
now text = exact_schema Draft2020 text

abbrev old : List ℕ → Option (List ℕ)
old text = exact_schema Draft04 text

-- bounds, in a schema and below it
bounds : now (codes "{\"minimum\":0.5,\"not\":{\"maximum\":-0.5}}")
    ≡ Some (codes "{\"minimum\":1,\"not\":{\"maximum\":-1}}")
unfolding on_literals
bounds = refl

exclusive_bounds : now (codes "{\"exclusiveMinimum\":0.5,\"exclusiveMaximum\":2.5}")
    ≡ Some (codes "{\"exclusiveMinimum\":0,\"exclusiveMaximum\":3}")
unfolding on_literals
exclusive_bounds = refl

-- beyond the range a bound excludes nothing
far_bounds : now (codes "{\"minimum\":-1e300,\"exclusiveMaximum\":1e300}")
    ≡ Some (codes "{\"minimum\":-9223372036854775808}")
unfolding on_literals
far_bounds = refl

-- or everything, whatever stands beside it
bounds_of_none : now (codes "{\"minimum\":1e300,\"exclusiveMinimum\":5}")
    ≡ Some (codes "{\"exclusiveMinimum\":18446744073709551615}")
unfolding on_literals
bounds_of_none = refl

-- before draft-06
old_bounds : old (codes "{\"minimum\":0.5,\"exclusiveMinimum\":true}")
    ≡ Some (codes "{\"minimum\":0,\"exclusiveMinimum\":true}")
unfolding on_literals
old_bounds = refl

old_bounds_stay : old (codes "{\"minimum\":1.0,\"exclusiveMinimum\":true}")
    ≡ Some (codes "{\"minimum\":1,\"exclusiveMinimum\":true}")
unfolding on_literals
old_bounds_stay = refl

old_far_bounds : old (codes "{\"maximum\":1e300,\"exclusiveMaximum\":true}") ≡ Some (codes "{}")
unfolding on_literals
old_far_bounds = refl

-- the root may name its dialect
declared_dialect : now (codes "{\"$schema\":\"http://json-schema.org/draft-04/schema#\",\"maximum\":0.5}")
    ≡ Some (codes "{\"$schema\":\"http://json-schema.org/draft-04/schema#\",\"maximum\":0}")
unfolding on_literals
declared_dialect = refl

-- 2.5 is 5 / 2
divisor : now (codes "{\"items\":{\"multipleOf\":2.5}}") ≡ Some (codes "{\"items\":{\"multipleOf\":5}}")
unfolding on_literals
divisor = refl

counts : now (codes "{\"minLength\":2.0,\"maxLength\":1e30}")
    ≡ Some (codes "{\"minLength\":2,\"maxLength\":18446744073709551615}")
unfolding on_literals
counts = refl

enumeration : now (codes "{\"enum\":[0.5,1.0,\"0.5\",{\"a\":[0.1]}]}") ≡ Some (codes "{\"enum\":[1,\"0.5\"]}")
unfolding on_literals
enumeration = refl

constant : now (codes "{\"const\":[0.5],\"enum\":[1]}") ≡ Some (codes "{\"enum\":[]}")
unfolding on_literals
constant = refl

-- no keyword of draft-04
no_constant : old (codes "{\"const\":0.5}") ≡ Some (codes "{\"const\":0.5}")
unfolding on_literals
no_constant = refl

-- annotations and names stay
annotations :
    now (codes "{\"default\":0.5,\"properties\":{\"minimum\":{\"type\":\"null\"}}}")
    ≡ Some (codes "{\"default\":0.5,\"properties\":{\"minimum\":{\"type\":\"null\"}}}")
unfolding on_literals
annotations = refl
