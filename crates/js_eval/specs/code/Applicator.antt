-- The keywords that apply schemas, by which keywords of the standard the members of a schema are (of private
-- functions).
use Rattle.std.specs.Prelude.{ℕ, Bool, true, List, drop, filter}
use Rattle.std.specs.List.{list_any}
use Rattle.js_doc.specs.Value.{Named}
use Rattle.js_keyword.specs.declared.keyword.Keyword.{Keyword}
use Rattle.js_eval.specs.Walk.Visited.{may_apply, is_visited}

abbrev pub has_applicator : List Keyword → Bool
has_applicator names = list_any may_apply names

-- the members from the rank on that apply schemas
abbrev pub applicators_from : Named → ℕ → Named
applicators_from ms rank = filter (is_visited true) (drop rank ms)
