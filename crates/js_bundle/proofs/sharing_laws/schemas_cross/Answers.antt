-- Each part but assertions and patterns crosses threads by `crosses`; its fact is of a parameter, which says the same
-- of the type.
use denote.Exit.{yes}
use denote.Builtin.{usize}
use denote.Param.Send.{view_send, view_sync}
use Rattle.std.specs.contracts.alloc.Global as Global
use Rattle.std.specs.contracts.impls.GlobalAllocator.TheImpl.{ghosts}
use Rattle.std.specs.contracts.vec.Vec as Vec
use Rattle.js_assert.specs.contracts.assertion.Assertion as Assertion
use Rattle.js_assert.specs.contracts.pattern.Pattern as Pattern
use Rattle.js_bundle.specs.contracts.document.Document as Document
use Rattle.js_bundle.specs.contracts.check.checked_site.CheckedSite as CheckedSite
use Rattle.js_doc.specs.contracts.string.Text as Text
use Rattle.js_bundle.specs.contracts.index.keyword_table.KeywordTable as KeywordTable
use Rattle.js_bundle.specs.contracts.check.references.References as References
use Rattle.js_bundle.specs.contracts.index.stored_location.StoredLocation as StoredLocation
use Rattle.js_bundle.specs.contracts.index.Index as Index
use Rattle.js_bundle.specs.contracts.index.resource_table.Resources as Resources
use Rattle.js_bundle.specs.contracts.index.edges.Edges as Edges
use Rattle.js_bundle.specs.contracts.check.Checked as Checked
use Rattle.js_bundle.specs.contracts.check.assertions_and_patterns.Built as Built
use Rattle.js_bundle.specs.contracts.check.assertions_and_patterns.BuiltPattern as BuiltPattern
use Rattle.js_bundle.specs.contracts.check.assertions_and_patterns.BuiltTable as BuiltTable
use Rattle.js_bundle.specs.contracts.schemas.Schemas.TheInside as Inside
use Rattle.js_assert.proofs.Crossing.{Law, sending, sharing}
use Rattle.js_bundle.proofs.sharing_laws.schemas_cross.Goals as goal

-- what schemas are made of
record SchemaParts (L : Law) : Type 0 where
  documents : L.Holds (Vec.the_row Document.the_row Global.the_row ghosts)
  sites : L.Holds (Vec.the_row CheckedSite.the_row Global.the_row ghosts)
  text : L.Holds Text.the_row
  ends : L.Holds (Vec.the_row usize Global.the_row ghosts)
  keywords : L.Holds KeywordTable.the_row
  targets : L.Holds References.the_row
  location : L.Holds (Vec.the_row StoredLocation.the_row Global.the_row ghosts)
  index : L.Holds Index.the_row
  resource : L.Holds Resources.the_row
  edges : L.Holds (Vec.the_row Edges.the_row Global.the_row ghosts)
  assertion : L.Holds Assertion.the_row
  pattern : L.Holds Pattern.the_row

inside : (L : Law) → SchemaParts L → L.Holds Inside.the_row
inside L p =
    let pattern : L.Holds BuiltPattern.the_row = L.fields BuiltPattern.the_type (p.text, (p.pattern, tt)) in
    let patterns = L.vec BuiltPattern.the_row pattern in
    let built : L.Holds Built.the_row =
    L.fields Built.the_type (L.vec Assertion.the_row p.assertion, (patterns, tt)) in
    let table : L.Holds BuiltTable.the_row = L.fields BuiltTable.the_type (built, (p.ends, (p.ends, tt))) in
    let checked : L.Holds Checked.the_row = L.fields Checked.the_type
    (p.sites, (table, (p.keywords, (p.targets, (p.location, (p.index, (p.resource, (p.edges, tt)))))))) in
    L.fields Inside.the_type (p.documents, (checked, tt))

pub returns-clause-send : goal.returns-clause-send
returns-clause-send c =
    let parts : SchemaParts sending = record {
      documents = record { owned = c.crosses.ensures.send.owned; leaving = λ k. c.crosses.ensures.send.leaving yes };
      sites = record { owned = c.crosses-2.ensures.send.owned; leaving = λ k. c.crosses-2.ensures.send.leaving yes };
      text = record { owned = c.crosses-3.ensures.send.owned; leaving = λ k. c.crosses-3.ensures.send.leaving yes };
      ends = record { owned = c.crosses-4.ensures.send.owned; leaving = λ k. c.crosses-4.ensures.send.leaving yes };
      keywords = record { owned = c.crosses-5.ensures.send.owned; leaving = λ k. c.crosses-5.ensures.send.leaving yes };
      targets = record { owned = c.crosses-6.ensures.send.owned; leaving = λ k. c.crosses-6.ensures.send.leaving yes };
      location = record { owned = c.crosses-7.ensures.send.owned; leaving = λ k. c.crosses-7.ensures.send.leaving yes };
      index = record { owned = c.crosses-8.ensures.send.owned; leaving = λ k. c.crosses-8.ensures.send.leaving yes };
      resource = record { owned = c.crosses-9.ensures.send.owned; leaving = λ k. c.crosses-9.ensures.send.leaving yes };
      edges = record { owned = c.crosses-10.ensures.send.owned; leaving = λ k. c.crosses-10.ensures.send.leaving yes };
      assertion = c.assertions_cross.ensures.send;
      pattern = c.patterns_cross.ensures.send;
    } in
    view_send Inside.the_row _ _ _ _ (inside sending parts)

pub returns-clause-sync : goal.returns-clause-sync
returns-clause-sync c =
    let parts : SchemaParts sharing = record {
      documents = record { shared = c.crosses.ensures.sync.shared };
      sites = record { shared = c.crosses-2.ensures.sync.shared };
      text = record { shared = c.crosses-3.ensures.sync.shared };
      ends = record { shared = c.crosses-4.ensures.sync.shared };
      keywords = record { shared = c.crosses-5.ensures.sync.shared };
      targets = record { shared = c.crosses-6.ensures.sync.shared };
      location = record { shared = c.crosses-7.ensures.sync.shared };
      index = record { shared = c.crosses-8.ensures.sync.shared };
      resource = record { shared = c.crosses-9.ensures.sync.shared };
      edges = record { shared = c.crosses-10.ensures.sync.shared };
      assertion = c.assertions_cross.ensures.sync;
      pattern = c.patterns_cross.ensures.sync;
    } in
    view_sync Inside.the_row _ _ _ _ (inside sharing parts)
