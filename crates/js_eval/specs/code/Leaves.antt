-- Which keywords of the standard have a node that is a leaf of the result (of private functions).
use Rattle.std.specs.Prelude.{Bool, true, false}
use Rattle.js_keyword.specs.declared.keyword.Keyword.{Keyword}
use Rattle.js_keyword.specs.declared.keyword.Keyword.TheVariants.{Assertion, Other}
use Rattle.js_keyword.specs.declared.other_keyword.OtherKeyword.TheVariants.{Unknown}

-- it has a node, and applies no schemas
abbrev pub has_leaf : Keyword → Bool
has_leaf (Assertion _) = true
has_leaf (Other Unknown) = true
has_leaf _ = false

-- it judges a value by itself (Validation, section 6)
abbrev pub is_assertion : Keyword → Bool
is_assertion (Assertion _) = true
is_assertion _ = false
