-- The two keywords of section 11 of JSON Schema Core, which depend on what all the others have evaluated.
use Rattle.std.specs.Prelude.{Bool, true, false, ◌||◌}
use Rattle.js_keyword.specs.declared.keyword.Keyword.{Keyword}
use Rattle.js_keyword.specs.declared.keyword.Keyword.TheVariants.{UnevaluatedItems, UnevaluatedProperties}

abbrev pub is_unevaluated_items : Keyword → Bool
is_unevaluated_items UnevaluatedItems = true
is_unevaluated_items _ = false

abbrev pub is_unevaluated_properties : Keyword → Bool
is_unevaluated_properties UnevaluatedProperties = true
is_unevaluated_properties _ = false

abbrev pub is_unevaluated : Keyword → Bool
is_unevaluated κ = is_unevaluated_items κ || is_unevaluated_properties κ
