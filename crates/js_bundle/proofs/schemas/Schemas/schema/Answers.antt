use Rattle.std.proofs.Common.{◌<◌, sym, ap, ◌∙◌, subst}
use Rattle.js_doc.specs.Lookup.{at}
use Rattle.js_doc.specs.Seen.{value_of}
use Rattle.js_bundle.specs.PlaceNumber.{place_at}
use Rattle.js_bundle.specs.code.CheckedSite.{checked_site_of}
use Rattle.js_bundle.proofs.Finding.SchemaAtPlace.{schema_there, at_index, some_there}
use Rattle.js_bundle.proofs.schemas.Schemas.schema.Goals as goal

pub index-requires : goal.index-requires
index-requires c =
    let items = c.self.inside.documents.items in
    let x = checked_site_of c.checked_site-site.result.now in
    let there = schema_there items c.args.self.now c.args.place x c.self.view_is c.self.invariant.read
    c.checked_site-site.ensures in
    subst (λ n. x.document < n) (sym c.self.inside.documents.ok.0) there.within

pub returns-in-Some : goal.returns-in-Some
returns-in-Some c =
    let items = c.self.inside.documents.items in let x = checked_site_of c.checked_site-site.result.now in
    let there = schema_there items c.args.self.now c.args.place x c.self.view_is c.self.invariant.read
    c.checked_site-site.ensures in
    sym (at_index items x (place_at c.args.self.now c.args.place) c.index.result.now there c.index.ensures)
    ∙ ap (λ p. at p (value_of c.index.result.now.root)) (sym c.deref.ensures) ∙ sym c.in-Some.ensures

pub returns-in-None : goal.returns-in-None
returns-in-None c =
    let items = c.self.inside.documents.items in let x = checked_site_of c.checked_site-site.result.now in
    let there = schema_there items c.args.self.now c.args.place x c.self.view_is c.self.invariant.read
    c.checked_site-site.ensures in
    absurd (some_there items x (place_at c.args.self.now c.args.place) there c.checked_site-site.ensures
    (sym (at_index items x (place_at c.args.self.now c.args.place) c.index.result.now there c.index.ensures)
    ∙ ap (λ p. at p (value_of c.index.result.now.root)) (sym c.deref.ensures) ∙ sym c.in-None.ensures))
