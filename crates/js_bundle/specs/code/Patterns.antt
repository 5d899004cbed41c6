-- The patterns of `patternProperties` as they are kept, each under its name.
use Rattle.std.specs.Prelude.{◌≡◌, ℕ, ◌<◌, List, Some, slice_get}
use Rattle.std.specs.declared.cmp.Ordering.TheVariants.{Less}
use Rattle.js_doc.specs.Members.{name_cmp}
use Rattle.js_bundle.specs.declared.check.assertions_and_patterns.BuiltPattern.{BuiltPattern}

-- their names ascend
abbrev pub AreInOrder : List BuiltPattern → Type 0
AreInOrder built = (i j : ℕ) (a b : BuiltPattern) → i < j → slice_get built i ≡ Some a → slice_get built j ≡ Some b
    → name_cmp a.name b.name ≡ Less
