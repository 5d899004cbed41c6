use Rattle.std.proofs.Common.{map, ap, ◌∙◌, subst}
use Rattle.js_bundle.specs.Candidate.{IsClear}
use Rattle.js_bundle.specs.Depth.{NoneTooDeep}
use Rattle.js_bundle.specs.Refusals.{candidates}
use Rattle.js_bundle.specs.Seen.{document_of}
use Rattle.js_bundle.proofs.Checking.Depth.{none_too_deep}
use Rattle.js_bundle.proofs.Checking.CheckStops.{none_decided}
use Rattle.js_bundle.proofs.bundle.Bundle.finish.Goals as goal

pub returns-in-Ok-clause-none : goal.returns-in-Ok-clause-none
returns-in-Ok-clause-none c =
    none_decided (candidates c.args.self) (subst (λ ds. IsClear (candidates ds))
    (ap (map document_of) c.as_slice.ensures.value ∙ c.self.view_is) c.in-Ok.ensures.clear)

pub returns-in-Ok-clause-shallow : goal.returns-in-Ok-clause-shallow
returns-in-Ok-clause-shallow c =
    subst (λ ds. NoneTooDeep ds) (ap (map document_of) c.as_slice.ensures.value ∙ c.self.view_is)
    (none_too_deep (map document_of c.as_slice.result.now) c.in-Ok.ensures.clear)
