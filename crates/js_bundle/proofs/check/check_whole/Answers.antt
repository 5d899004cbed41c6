use Rattle.std.proofs.Common.{◌≡◌, ℕ, List, [], codes, map, nat_eq, sym, ap, subst, ◌∙◌}
use Rattle.std.proofs.lemmas.Result.{err_from_is_err_and}
use Rattle.indexmap.specs.IndexMap.{get}
use Rattle.js_bundle.specs.declared.document.Document.{Document}
use Rattle.js_bundle.specs.declared.scan.site.Site.{Site}
use Rattle.js_bundle.specs.Candidate.{IsClear}
use Rattle.js_bundle.specs.Finding.{dynamic_at, number_of_target}
use Rattle.js_bundle.specs.code.PlaceNumbers.{under_number}
use Rattle.js_bundle.specs.MemberKeywords.{member_keywords}
use Rattle.js_bundle.specs.code.StoredLocation.{stored_location}
use Rattle.js_bundle.specs.Refusals.{first_pass}
use Rattle.js_bundle.specs.Resource as places
use Rattle.js_bundle.specs.Resource.{sites}
use Rattle.js_bundle.specs.ResourceTable.{AreRooted, IsResourceTable}
use Rattle.js_bundle.specs.Seen.{document_of}
use Rattle.js_bundle.specs.code.SparseList.{IsSparseList}
use Rattle.js_bundle.specs.code.PartsByPlace.{ArePartsByPlace}
use Rattle.js_bundle.specs.code.Index.{IsIndexOf}
use Rattle.js_bundle.specs.code.Positions.{ArePositionsOf}
use Rattle.js_bundle.specs.code.Scan.{scanned, site_of}
use Rattle.js_bundle.specs.code.CheckedSite.{checked_site}
use Rattle.js_bundle.proofs.Listing.RootsOfResources.{all_are_rooted}
use Rattle.js_bundle.proofs.Checking.StoppedScan.{lists_all, first_stops, second_stops, whole_clear}
use Rattle.js_bundle.proofs.check.check_whole.Goals as goal

-- the places that are passed, and those that are looked up, are all places of the documents

first : (documents : List Document) {listed passed : List Site} → passed ≡ listed
    → map site_of listed ≡ scanned (map document_of documents) → IsClear (first_pass [] (map site_of passed))
    → map site_of passed ≡ sites (map document_of documents)
first documents {listed} {passed} same scanned_is clear =
    lists_all (map document_of documents) (map site_of passed) (ap (map site_of) same ∙ scanned_is) clear

second : (documents : List Document) {listed passed looked : List Site} → passed ≡ listed → looked ≡ listed
    → map site_of listed ≡ scanned (map document_of documents) → IsClear (first_pass [] (map site_of passed))
    → map site_of looked ≡ sites (map document_of documents)
second documents same same_looked scanned_is clear =
    ap (map site_of) (same_looked ∙ sym same) ∙ first documents same scanned_is clear

-- what each of those that are passed has a part of
held : {A : Type 0} {part : places.Site → List A} (documents : List Document) {listed passed : List Site}
    {all : List A} {ending : List ℕ} → passed ≡ listed → map site_of listed ≡ scanned (map document_of documents)
    → IsClear (first_pass [] (map site_of passed)) → ArePartsByPlace part (map site_of passed) all ending
    → ArePartsByPlace part (sites (map document_of documents)) all ending
held {A} {part} documents {listed} {passed} {all} {ending} same scanned_is clear are =
    subst (λ ss. ArePartsByPlace part ss all ending) (first documents same scanned_is clear) are

pub returns-in_err-passed-clause-err : goal.returns-in_err-passed-clause-err
returns-in_err-passed-clause-err c =
    let p = err_from_is_err_and c.from_residual-in_err-passed.result c.from_residual-in_err-passed.ensures.1 in
    rw (p.1, p.2) (first_stops (map document_of c.args.documents.now) (map site_of c.as_slice.result.now)
    c.in_err-passed.field-0.0
    (ap (map site_of) c.as_slice.ensures.value ∙ c.in_ok-sites.ensures) c.in_err-passed.ensures.err)

pub returns-in_err-found-clause-err : goal.returns-in_err-found-clause-err
returns-in_err-found-clause-err c =
    let p = err_from_is_err_and c.from_residual-in_err-found.result c.from_residual-in_err-found.ensures.1 in
    rw (p.1, p.2) (second_stops (map document_of c.args.documents.now) (map site_of c.as_slice.result.now)
    (map site_of c.as_slice-2.result.now) c.in_err-found.field-0.0
    (first _ c.as_slice.ensures.value c.in_ok-sites.ensures c.in_ok-passed.ensures.clear)
    (second _ c.as_slice.ensures.value c.as_slice-2.ensures.value c.in_ok-sites.ensures c.in_ok-passed.ensures.clear)
    c.in_ok-passed.ensures.clear c.in_err-found.ensures.err)

pub returns-in_err-checked_sites_of-clause-err : goal.returns-in_err-checked_sites_of-clause-err
returns-in_err-checked_sites_of-clause-err c =
    let p = err_from_is_err_and c.from_residual-in_err-checked_sites_of.result
    c.from_residual-in_err-checked_sites_of.ensures.1 in
    rw (p.1, p.2) tt

pub look_up-requires-clause-positions : goal.look_up-requires-clause-positions
look_up-requires-clause-positions c =
    subst (λ ss. ArePositionsOf c.in_ok-passed.passed.positions (map site_of ss))
    (c.as_slice.ensures.value ∙ sym c.as_slice-2.ensures.value) c.in_ok-passed.ensures.positions

pub look_up-requires-clause-keywords : goal.look_up-requires-clause-keywords
look_up-requires-clause-keywords c =
    subst (λ ss. ArePartsByPlace member_keywords (map site_of ss) c.in_ok-passed.passed.keywords.names.items
    c.in_ok-passed.passed.keywords.ends.items) (c.as_slice.ensures.value ∙ sym c.as_slice-2.ensures.value)
    c.in_ok-passed.ensures.keywords

pub look_up-requires-clause-rooted : goal.look_up-requires-clause-rooted
look_up-requires-clause-rooted c =
    subst AreRooted (sym
    (second _ c.as_slice.ensures.value c.as_slice-2.ensures.value c.in_ok-sites.ensures c.in_ok-passed.ensures.clear))
    (all_are_rooted (map document_of c.args.documents.now) c.requires)

pub returns-clause-clear : goal.returns-clause-clear
returns-clause-clear c =
    whole_clear (map document_of c.args.documents.now) (map site_of c.as_slice.result.now)
    (map site_of c.as_slice-2.result.now)
    (first _ c.as_slice.ensures.value c.in_ok-sites.ensures c.in_ok-passed.ensures.clear)
    (second _ c.as_slice.ensures.value c.as_slice-2.ensures.value c.in_ok-sites.ensures c.in_ok-passed.ensures.clear)
    c.in_ok-passed.ensures.clear c.in_ok-found.ensures.clear

pub returns-clause-checked_sites : goal.returns-clause-checked_sites
returns-clause-checked_sites c =
    let all : map site_of c.in_ok-sites.sites.items ≡ sites (map document_of c.args.documents.now) =
    ap (map site_of) (sym c.as_slice.ensures.value)
    ∙ first _ c.as_slice.ensures.value c.in_ok-sites.ensures c.in_ok-passed.ensures.clear in
    c.in_ok-checked_sites_of.ensures ∙ ap (map checked_site) all

pub returns-clause-assertions : goal.returns-clause-assertions
returns-clause-assertions c =
    held _ c.as_slice.ensures.value c.in_ok-sites.ensures c.in_ok-passed.ensures.clear c.in_ok-passed.ensures.assertions

pub returns-clause-patterns : goal.returns-clause-patterns
returns-clause-patterns c =
    held _ c.as_slice.ensures.value c.in_ok-sites.ensures c.in_ok-passed.ensures.clear c.in_ok-passed.ensures.patterns

pub returns-clause-dynamic : goal.returns-clause-dynamic
returns-clause-dynamic c =
    subst (λ ss. IsSparseList (get nat_eq c.in_ok-found.found.references.dynamic) (dynamic_at ss) ss)
    (second _ c.as_slice.ensures.value c.as_slice-2.ensures.value c.in_ok-sites.ensures c.in_ok-passed.ensures.clear)
    c.in_ok-found.ensures.dynamic

pub returns-clause-plain : goal.returns-clause-plain
returns-clause-plain c =
    subst (λ ss. IsSparseList (under_number c.in_ok-found.found.references.plain.items)
    (number_of_target ss (codes "$ref")) ss)
    (second _ c.as_slice.ensures.value c.as_slice-2.ensures.value c.in_ok-sites.ensures c.in_ok-passed.ensures.clear)
    c.in_ok-found.ensures.plain

pub returns-clause-locations : goal.returns-clause-locations
returns-clause-locations c =
    c.in_ok-passed.ensures.positions.locations ∙ ap (map stored_location)
    (first _ c.as_slice.ensures.value c.in_ok-sites.ensures c.in_ok-passed.ensures.clear)

pub returns-clause-keywords : goal.returns-clause-keywords
returns-clause-keywords c =
    held _ c.as_slice.ensures.value c.in_ok-sites.ensures c.in_ok-passed.ensures.clear c.in_ok-passed.ensures.keywords

pub returns-clause-index : goal.returns-clause-index
returns-clause-index c =
    subst (IsIndexOf c.in_ok-passed.passed.positions.index)
    (first _ c.as_slice.ensures.value c.in_ok-sites.ensures c.in_ok-passed.ensures.clear)
    c.in_ok-passed.ensures.positions.index

pub returns-clause-resources : goal.returns-clause-resources
returns-clause-resources c =
    subst (IsResourceTable c.in_ok-found.found.resources)
    (second _ c.as_slice.ensures.value c.as_slice-2.ensures.value c.in_ok-sites.ensures c.in_ok-passed.ensures.clear)
    c.in_ok-found.ensures.resources
