use Rattle.std.proofs.Common.{map, subst}
use Rattle.js_bundle.specs.AssertionsAndPatterns.{patterns_at}
use Rattle.js_bundle.specs.Seen.{AreRead, document_of}
use Rattle.js_bundle.proofs.Indexing.PartsOfPlaces.{part_of}
use Rattle.js_bundle.proofs.schemas.Schemas.patterns_of_place.Goals as goal

pub returns-clause-patterns : goal.returns-clause-patterns
returns-clause-patterns c =
    part_of patterns_at (map document_of c.self.inside.documents.items) c.args.self.now
    c.self.inside.checked.built.all.patterns.items c.as_slice.result.now c.self.inside.checked.built.pattern_ends.items
    c.as_slice-2.result.now c.place.inside.number c.args.place
    c.part_of_place.result.now c.self.view_is c.place.view_is c.self.invariant.patterns c.requires
    c.as_slice.ensures.value c.as_slice-2.ensures.value c.part_of_place.ensures

pub returns-clause-read : goal.returns-clause-read
returns-clause-read c = subst (λ ds. AreRead ds) c.self.view_is c.self.invariant.read
