-- The locations of a node of the result (JSON Schema Core, sections 12.3.1 and 12.3.3).
use Rattle.std.specs.Prelude.{[], ◌∷◌, ◌++◌}
use Rattle.js_doc.specs.Pointer.{Tokens}
-- what a step adds to a pointer
pub use Rattle.js_bundle.specs.Schemas.{step_tokens}
use Rattle.js_eval.specs.Applications.{Application}
use Rattle.js_eval.specs.SchemaSet.{Text}

pub record Location : Type 0 where
  -- the path of evaluation through the schemas, references included (12.3.1)
  pub keyword : Tokens
  -- the path through the instance (12.3.3)
  pub instance : Tokens

-- at the root of the schema and of the instance
abbrev pub at_root : Location
at_root = record { keyword = []; instance = [] }

-- at the keyword with this name
abbrev pub at_keyword_named : Location → Text → Location
at_keyword_named at name = record { keyword = at.keyword ++ name ∷ []; instance = at.instance }

-- from a keyword to one of its applications
abbrev pub at_application : {Place : Type 0} → Location → Application Place → Location
at_application at a = record { keyword = at.keyword ++ step_tokens a.step; instance = at.instance ++ step_tokens a.at }
