use Rattle.std.proofs.Common.{[], map, slice_get, ap, ◌∙◌}
use Rattle.std.specs.Option.{option_map_or}
use Rattle.js_doc.specs.Seen.{value_of}
use Rattle.js_bundle.specs.Schemas.{step_of}
use Rattle.js_bundle.specs.Seen.{document_of}
use Rattle.js_bundle.specs.code.Edges.{edges_of}
use Rattle.js_bundle.specs.code.PlaceBelow.{numbers_of_keyword}
use Rattle.js_bundle.proofs.Finding.PlaceAtRank.{finds_ranked, schema_ranked}
use Rattle.js_bundle.proofs.schemas.Schemas.ranked_below.Goals as goal

pub returns-clause-found : goal.returns-clause-found
returns-clause-found c =
    let n = c.place.inside.number in
    finds_ranked (map document_of c.self.inside.documents.items) c.args.self.now c.self.inside.checked.edges.items n
    c.args.place c.args._keyword.now (step_of c.args._step) c.args.rank (value_of c.args._schema.now)
    (value_of c.args._held.now)
    c.args.which c.places_under.result.now c.with_rank.result c.self.view_is c.place.view_is c.self.invariant.read
    c.self.invariant.edges c.requires.which
    (c.places_under.ensures ∙ ap (λ es. option_map_or (numbers_of_keyword c.args.which) (slice_get (map edges_of es) n)
    []) c.as_slice-edges.ensures.value)
    c.with_rank.ensures c.requires.schema c.requires.held

pub returns-clause-schema : goal.returns-clause-schema
returns-clause-schema c =
    schema_ranked (map document_of c.self.inside.documents.items) c.args.self.now c.self.view_is c.self.invariant.read
    c.args.place c.args._keyword.now (step_of c.args._step) c.args.rank (value_of c.args._schema.now)
    (value_of c.args._held.now) c.with_rank.result c.requires.schema c.requires.held (returns-clause-found c)
