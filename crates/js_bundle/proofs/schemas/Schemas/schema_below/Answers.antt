use Rattle.std.proofs.Common.{[], map, None, option_map, slice_get, ap, sym, subst, ◌∙◌}
use Rattle.std.specs.Option.{option_map_or}
use Rattle.js_doc.specs.Seen.{value_of}
use Rattle.js_bundle.specs.Schemas.{step_of}
use Rattle.js_bundle.specs.Seen.{document_of}
use Rattle.js_bundle.specs.code.Edges.{edges_of}
use Rattle.js_bundle.specs.code.PlaceBelow.{numbers_of_keyword, IsNumberAt}
use Rattle.js_bundle.specs.code.CheckedSite.{checked_site_of}
use Rattle.js_bundle.proofs.Finding.NoPlaceBelow.{finds_nothing}
use Rattle.js_bundle.proofs.Finding.HeldIsFound.{held_found}
use Rattle.js_bundle.proofs.Finding.HeldByNumber.{finds_by_number}
use Rattle.js_bundle.proofs.SchemaBelow.{finds_held_by, schema_with}
use Rattle.js_bundle.proofs.schemas.Schemas.schema_below.Goals as goal

pub returns-in-Some-clause-found : goal.returns-in-Some-clause-found
returns-in-Some-clause-found c =
    let n = c.place.inside.number in
    let step = step_of c.args.step in
    let numbers = c.places_under-places.result.now in
    let found = option_map (λ e. e.0) c.place_with.result in
    finds_held_by c.args.self.now c.args.place c.args.keyword.now (step_of c.args.step) (value_of c.args.schema.now)
    (value_of c.in-Some.held.now) (option_map (λ e. e.0) c.place_with.result)
    c.requires.schema c.in-Some.ensures.held.0 c.in-Some.ensures.held.1
    (finds_by_number (map document_of c.self.inside.documents.items) c.args.self.now c.self.inside.checked.sites.items
    c.self.inside.checked.edges.items n c.args.place c.args.keyword.now step c.of.result numbers found
    c.self.view_is c.place.view_is c.self.invariant.read c.self.invariant.checked_sites c.self.invariant.edges
    c.of.ensures
    (c.places_under-places.ensures ∙ ap (λ es. option_map_or (numbers_of_keyword c.of.result)
    (slice_get (map edges_of es) n) []) c.as_slice-edges.ensures.value)
    (λ m h. c.place_with.ensures.found m
    (subst (λ ss. IsNumberAt (map checked_site_of ss) numbers step m) (sym c.as_slice.ensures.value) h)))

pub returns-in-Some-clause-held : goal.returns-in-Some-clause-held
returns-in-Some-clause-held c =
    held_found (map document_of c.self.inside.documents.items) c.args.self.now c.self.view_is c.self.invariant.read
    c.args.place c.args.keyword.now (step_of c.args.step) (option_map (λ e. e.0) c.place_with.result)
    (returns-in-Some-clause-found c)

pub returns-in-Some-clause-schema : goal.returns-in-Some-clause-schema
returns-in-Some-clause-schema c =
    schema_with c.args.self.now c.args.place c.args.keyword.now (step_of c.args.step) (value_of c.args.schema.now)
    (value_of c.in-Some.held.now) c.place_with.result c.requires.schema c.in-Some.ensures.held.1
    (returns-in-Some-clause-found c) (returns-in-Some-clause-held c) c.place_with.ensures.schema

pub returns-in-None-clause-found : goal.returns-in-None-clause-found
returns-in-None-clause-found c =
    finds_nothing (map document_of c.self.inside.documents.items) c.args.self.now c.self.view_is c.self.invariant.read
    c.args.place c.args.keyword.now (step_of c.args.step) (value_of c.args.schema.now)
    c.in-None.ensures.small c.requires.schema (sym c.in-None.ensures.held)

pub returns-in-None-clause-held : goal.returns-in-None-clause-held
returns-in-None-clause-held c =
    held_found (map document_of c.self.inside.documents.items) c.args.self.now c.self.view_is c.self.invariant.read
    c.args.place c.args.keyword.now (step_of c.args.step) None
    (returns-in-None-clause-found c)
