-- What finished schemas keep of their documents, beside them: for each place, in scan order, what the definitions say
-- of it.
use Rattle.std.specs.Prelude.{◌≡◌, map, codes, nat_eq}
use Rattle.indexmap.specs.IndexMap.{get}
use Rattle.js_bundle.specs.declared.check.Checked.{Checked}
use Rattle.js_bundle.specs.AssertionsAndPatterns.{assertions_at, patterns_at}
use Rattle.js_bundle.specs.Candidate.{IsClear}
use Rattle.js_bundle.specs.Document.{Documents}
use Rattle.js_bundle.specs.code.SparseList.{IsSparseList}
use Rattle.js_bundle.specs.code.Edges.{edges_from, edges_of}
use Rattle.js_bundle.specs.Finding.{dynamic_at, number_of_target}
use Rattle.js_bundle.specs.code.PlaceNumbers.{under_number}
use Rattle.js_bundle.specs.code.PartsByPlace.{ArePartsByPlace}
use Rattle.js_bundle.specs.code.Index.{IsIndexOf}
use Rattle.js_bundle.specs.MemberKeywords.{member_keywords}
use Rattle.js_bundle.specs.Refusals.{candidates}
use Rattle.js_bundle.specs.Resource.{sites}
use Rattle.js_bundle.specs.ResourceTable.{IsResourceTable}
use Rattle.js_bundle.specs.Seen.{AreRead}
use Rattle.js_bundle.specs.code.StoredLocation.{stored_location}
use Rattle.js_bundle.specs.code.CheckedSite.{checked_site, checked_site_of}

pub record IsCheckOf (documents : Documents) (checked : Checked) : Type 0 where
  pub read : AreRead documents
  pub clear : IsClear (candidates documents)
  pub checked_sites : map checked_site_of checked.sites.items ≡ map checked_site (sites documents)
  pub assertions : ArePartsByPlace assertions_at (sites documents) checked.built.all.assertions.items
      checked.built.assertion_ends.items
  pub patterns : ArePartsByPlace patterns_at (sites documents) checked.built.all.patterns.items
      checked.built.pattern_ends.items
  pub keywords : ArePartsByPlace member_keywords (sites documents) checked.keywords.names.items
      checked.keywords.ends.items
  pub dynamic : IsSparseList (get nat_eq checked.references.dynamic) (dynamic_at (sites documents)) (sites documents)
  pub plain : IsSparseList (under_number checked.references.plain.items)
      (number_of_target (sites documents) (codes "$ref")) (sites documents)
  pub locations : checked.locations.items ≡ map stored_location (sites documents)
  pub index : IsIndexOf checked.index (sites documents)
  pub resources : IsResourceTable checked.resources (sites documents)
  pub edges : map edges_of checked.edges.items ≡ edges_from 0 documents
