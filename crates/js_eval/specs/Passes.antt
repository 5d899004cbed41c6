-- Whether a keyword passes, given the verdicts of its applications (JSON Schema Core, sections 8.2.3, 10 and 11;
-- Validation, section 6).
use Rattle.std.specs.Prelude.{ℕ, ◌==◌, List, Bool, true, false, not, ◌||◌, Option, count_by, pos, codes}
use Rattle.std.specs.List.{list_any, list_all}
use Rattle.std.specs.Option.{option_and_then, option_map_or}
use Rattle.js_doc.specs.Value.{Value, whole, Named}
use Rattle.js_doc.specs.Equality.{same}
use Rattle.js_doc.specs.Members.{get}
use Rattle.js_assert.specs.Argument.{entries, on_array}
use Rattle.js_assert.specs.Assertion.{Asserted, asserted, says}
use Rattle.js_eval.specs.Keywords.{Member}
use Rattle.js_eval.specs.SchemaSet.{Text}
use Rattle.js_keyword.specs.declared.keyword.Keyword.{Keyword}
use Rattle.js_keyword.specs.declared.keyword.Keyword.TheVariants.{AnyOf, OneOf, Not, If, Contains}
use Rattle.js_keyword.specs.declared.keyword.Keyword.TheVariants.{Assertion, Other}

abbrev pub all : List Bool → Bool
all verdicts = list_all (λ holds. holds) verdicts

abbrev pub any : List Bool → Bool
any verdicts = list_any (λ holds. holds) verdicts

-- how many of the applications hold
abbrev pub how_many : List Bool → ℕ
how_many verdicts = count_by (λ holds. holds) verdicts

-- the adjacent `minContains` is 0 (10.3.1.3; Validation, 6.4.5)
abbrev pub may_contain_none : Named → Bool
may_contain_none siblings =
    option_map_or (λ argument. same argument (whole (pos 0))) (get (codes "minContains") siblings) false

-- the assertion that the keyword of this name makes in a schema
abbrev pub assertion_in : Value → Text → Option Asserted
assertion_in schema name =
    option_and_then (λ argument. asserted name argument (entries schema)) (get name (entries schema))

-- ---- the table: v is evaluated under the keyword k among its siblings, and these are the verdicts of k's
-- applications. `matching`: how many items of v match the adjacent `contains`.

module _ (siblings : Named) (v : Value) (matching : ℕ) (k : Member) (verdicts : List Bool) where
  abbrev pub passes_of : Keyword → Bool
  -- 10.2.1.2
  passes_of AnyOf = any verdicts
  -- 10.2.1.3
  passes_of OneOf = how_many verdicts == 1
  -- 10.2.1.4
  passes_of Not = not (any verdicts)
  -- 10.2.2.1: it only chooses between `then` and `else`
  passes_of If = true
  -- 10.3.1.3
  passes_of Contains = on_array v (λ _. any verdicts || may_contain_none siblings)
  -- Validation, section 6
  passes_of (Assertion _) = option_map_or (λ a. says a v matching) (asserted k.0 k.1 siblings) true
  passes_of (Other _) = true
  -- any other keyword passes if all its applications hold
  passes_of _ = all verdicts
