-- Schemas that are kept: documents were added to a bundle one after another, and the bundle was finished. What
-- `js_bundle` promises of these calls.
use Rattle.std.specs.Prelude.{◌≡◌, [], ◌∷◌}
use Rattle.js_bundle.specs.Adding.{IsAdded}
use Rattle.js_bundle.specs.Candidate.{IsClear}
use Rattle.js_bundle.specs.Document as bundle
use Rattle.js_bundle.specs.Refusals.{candidates}
use Rattle.js_output.specs.Documents.{DocumentTexts}

-- `all` stand after these were added, one after another, behind those before
abbrev pub AreAddedInTurn : bundle.Documents → DocumentTexts → bundle.Documents → Type 0
AreAddedInTurn before [] all = all ≡ before
AreAddedInTurn before (d ∷ ds) all = (more : bundle.Documents) × IsAdded before d.0 d.1 more
    × AreAddedInTurn more ds all

-- they were added to nothing, and finished
pub record AreFinished (documents : DocumentTexts) (schemas : bundle.Documents) : Type 0 where
  pub added : AreAddedInTurn [] documents schemas
  pub clear : IsClear (candidates schemas)
