-- The schema of a place that is kept.
use Rattle.std.proofs.Common.{◌≡◌, ℕ, ◌+◌, ◌<◌, List, [], ◌∷◌, ◌++◌, map, take, length, get_or, slice_get}
use Rattle.std.proofs.Common.{Option, Some, None, option_map, refl, sym, ap, ◌∙◌, subst}
use Rattle.std.proofs.lemmas.List.{take_more}
use Rattle.std.proofs.lemmas.Option.{slice_get_within, get_or_from_slice_get}
use Rattle.js_doc.specs.Lookup.{at}
use Rattle.js_doc.specs.Seen.{value_of}
use Rattle.js_doc.specs.Value.{Value}
use Rattle.js_bundle.specs.declared.document.Document as rust
use Rattle.js_bundle.specs.Document.{Document, Documents}
use Rattle.js_bundle.specs.Resource.{Site}
use Rattle.js_bundle.specs.PlaceNumber.{place_at}
use Rattle.js_bundle.specs.Seen.{document_of, AreRead}
use Rattle.js_bundle.specs.code.CheckedSite.{CheckedSite, checked_site, site_with}
use Rattle.js_bundle.proofs.Standing.{standing, made_at}

record Stands (documents : Documents) (x : CheckedSite) (o : Option Site) : Type 0 where
  document : Document
  held : slice_get documents x.document ≡ Some document
  schema : Value
  found : at x.pointer document.root ≡ Some schema
  is : option_map (λ s. s.schema) o ≡ Some schema

stands_by : (documents : Documents) (place : ℕ) (x : CheckedSite) (o : Option Site) → AreRead documents
    → place_at documents place ≡ o → option_map checked_site o ≡ Some x → Stands documents x o
stands_by documents place x None r e h = absurd (cc)
stands_by documents place x (Some s) r e h =
    let same : checked_site s ≡ x = cc in
    let there = standing documents r.ordered r.short place s e in
    subst (λ y. Stands documents y (Some s)) same
    (record { document = there.document; held = there.held; schema = s.schema; found = there.found; is = refl })

-- ---- the same of the documents that the code holds

pub record SchemaThere (items : List rust.Document) (x : CheckedSite) (o : Option Site) : Type 0 where
  pub document : rust.Document
  pub within : x.document < length items
  pub held : slice_get items x.document ≡ Some document
  pub found : at x.pointer (value_of document.root) ≡ option_map (λ s. s.schema) o

pub schema_there : (items : List rust.Document) (documents : Documents) (place : ℕ) (x : CheckedSite)
    → map document_of items ≡ documents → AreRead (map document_of items)
    → option_map checked_site (place_at documents place) ≡ Some x → SchemaThere items x (place_at documents place)
schema_there items documents place x same r h =
    let there = stands_by documents place x (place_at documents place) (subst (λ ds. AreRead ds) same r) refl h in
    let made = made_at document_of items x.document there.document
    (ap (λ ds. slice_get ds x.document) same ∙ there.held) in
    record {
      document = made.from;
      within = slice_get_within items x.document made.from made.found;
      held = made.found;
      found = ap (λ d. at x.pointer d.root) (sym made.is) ∙ there.found ∙ sym there.is;
    }

pub at_index : (items : List rust.Document) (x : CheckedSite) (o : Option Site) (d : rust.Document)
    → SchemaThere items x o
    → d ≡ get_or items x.document d → at x.pointer (value_of d.root) ≡ option_map (λ s. s.schema) o
at_index items x o d there e = ap (λ y. at x.pointer (value_of y.root))
    (e ∙ get_or_from_slice_get items x.document there.document d there.held) ∙ there.found

pub some_there : (items : List rust.Document) (x : CheckedSite) (o : Option Site) → SchemaThere items x o
    → option_map checked_site o ≡ Some x → ¬ (option_map (λ s. s.schema) o ≡ None)
some_there items x None there h e = absurd (cc)
some_there items x (Some s) there h e = absurd (cc)

-- ---- a place as the scan found it

pub site_by : (o : Option Site) (x : CheckedSite) (v : Value) → option_map checked_site o ≡ Some x
    → option_map (λ s. s.schema) o ≡ Some v → o ≡ Some (site_with v x)
site_by None x v e h = absurd (cc)
site_by (Some s) x v e h =
    let there : checked_site s ≡ x = cc in
    let schema : s.schema ≡ v = cc in
    ap (λ y. Some (site_with s.schema y)) there ∙ ap (λ w. Some (site_with w x)) schema

-- one place more of all
pub site_next : (all : List Site) (i : ℕ) (s : Site) (old new : List Site) → slice_get all i ≡ Some s
    → new ≡ old ++ s ∷ [] → old ≡ take i all → new ≡ take (i + 1) all
site_next all i s old new e pushed h =
    pushed ∙ ap (λ l. l ++ s ∷ []) h ∙ ap (λ x. take i all ++ x ∷ []) (sym (get_or_from_slice_get all i s s e))
    ∙ sym (take_more all i s (slice_get_within all i s e))
