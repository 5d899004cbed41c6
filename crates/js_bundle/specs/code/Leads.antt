-- What is left to check decides about the whole.
use Rattle.std.specs.Prelude.{List}
use Rattle.js_bundle.specs.declared.refusal.Refusal.{Refusal}
use Rattle.js_bundle.specs.Candidate.{Candidate, IsClear, IsFirst}

pub record Leads (whole rest : List Candidate) : Type 0 where
  pub clear : IsClear rest → IsClear whole
  pub first : (r : Refusal) → IsFirst rest r → IsFirst whole r
