-- Where parts of upgraded schemas come from.
use Rattle.std.proofs.Common.{◌≡◌, [], ◌∷◌, Some, codes, refl, true}
use Rattle.std.specs.Fmt.{digits}
use Rattle.js_doc.specs.Pointer.{Tokens}
use Rattle.js_doc.specs.Value.{text, truth, Named}
use Rattle.js_upgrade.specs.Keyword.{core_change, applicator_change, assertion_change}
use Rattle.js_upgrade.specs.Originals.{original_in}
use Rattle.js_upgrade.specs.declared.dialect.Dialect.{Dialect}
use Rattle.js_upgrade.specs.declared.dialect.Dialect.TheVariants.{Draft03, Draft04, Draft07, Draft2019}
use Rattle.js_upgrade.proofs.Examples.{arr, is_null, is_string, obj}

-- what stands at the one place in the upgraded schema comes from the other in the schema of the draft
abbrev Comes : Dialect → Named → Tokens → Tokens → Type 0
Comes d schema new old = original_in d (obj schema) new ≡ Some old

-- ---- definitions and items

abbrev nested : Named
nested = (
  codes "definitions",
  obj ((codes "a", obj ((codes "items", arr (is_null ∷ is_string ∷ [])) ∷ [])) ∷ []),
) ∷ []

definitions : Comes Draft07 nested (codes "$defs" ∷ codes "a" ∷ codes "prefixItems" ∷ codes "1" ∷ codes "type" ∷ [])
    (codes "definitions" ∷ codes "a" ∷ codes "items" ∷ codes "1" ∷ codes "type" ∷ [])
unfolding core_change applicator_change assertion_change digits
definitions = refl

-- ---- dependencies

abbrev dependent : Named
dependent = (
  codes "dependencies",
  obj ((codes "a", arr (text (codes "b") ∷ [])) ∷ (codes "c", is_null) ∷ []),
) ∷ []

names : Comes Draft07 dependent (codes "dependentRequired" ∷ codes "a" ∷ codes "0" ∷ [])
    (codes "dependencies" ∷ codes "a" ∷ [])
unfolding core_change applicator_change assertion_change digits
names = refl

schemas : Comes Draft07 dependent (codes "dependentSchemas" ∷ codes "c" ∷ codes "type" ∷ [])
    (codes "dependencies" ∷ codes "c" ∷ codes "type" ∷ [])
unfolding core_change applicator_change assertion_change digits
schemas = refl

-- ---- draft-03

single : Comes Draft03 ((codes "extends", is_null) ∷ []) (codes "allOf" ∷ codes "0" ∷ codes "type" ∷ [])
    (codes "extends" ∷ codes "type" ∷ [])
unfolding core_change applicator_change assertion_change digits
single = refl

alternative : Comes Draft03 ((codes "type", arr (text (codes "string") ∷ is_null ∷ [])) ∷ [])
    (codes "anyOf" ∷ codes "0" ∷ codes "type" ∷ []) (codes "type" ∷ codes "0" ∷ [])
unfolding core_change applicator_change assertion_change digits
alternative = refl

disallowed : Comes Draft03 ((codes "disallow", text (codes "string")) ∷ []) (codes "not" ∷ codes "type" ∷ [])
    (codes "disallow" ∷ [])
unfolding core_change applicator_change assertion_change digits
disallowed = refl

-- ---- limits, and contains of 2019-09

limit : Comes Draft04 ((codes "exclusiveMinimum", truth true) ∷ (codes "minimum", is_null) ∷ [])
    (codes "exclusiveMinimum" ∷ []) (codes "minimum" ∷ [])
unfolding core_change applicator_change assertion_change
limit = refl

wrapped : Comes Draft2019 ((codes "contains", is_null) ∷ (codes "minContains", is_null) ∷ [])
    (codes "allOf" ∷ codes "0" ∷ codes "not" ∷ codes "not" ∷ codes "contains" ∷ codes "type" ∷ [])
    (codes "contains" ∷ codes "type" ∷ [])
unfolding core_change applicator_change assertion_change digits
wrapped = refl

wrapper : Comes Draft2019 ((codes "contains", is_null) ∷ []) (codes "allOf" ∷ []) (codes "contains" ∷ [])
unfolding core_change applicator_change assertion_change
wrapper = refl
